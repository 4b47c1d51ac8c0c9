-- Words stored one behind the other.
use Rattle.std.proofs.lemmas.Bool.{cases_lt}
use Rattle.std.specs.Prelude.{◌≡◌, ℕ, suc, ◌+◌, ◌<◌, List, [], ◌∷◌, ◌++◌, length, take, set, slice_index, slice_set, refl, ◌≤◌}
use Rattle.std.proofs.Common.{sym, ap, ◌∙◌, arith, ⊎_elim, add-one}
use Rattle.std.proofs.lemmas.List.{take_more, length-set, length-take-le, take_more_set, take_all, take-take, take-append-le, set_past, append-nil, append_assoc, length-take, length-append}
use Rattle.chip.specs.Page.{written, writes}

-- one more word at the end
pub written_push : (words : List ℕ) (at : ℕ) (more : List ℕ) (w : ℕ) → written words at (more ++ w ∷ []) ≡ slice_set (written words at more) (at + length more) w
written_push words at [] w = ap (λ n. set words n w) (omega arith)
written_push words at (x ∷ xs) w =
    let n : suc at + length xs ≡ at + suc (length xs) = omega arith in
    written_push (slice_set words at x) (suc at) xs w ∙ ap (λ k. set (written (slice_set words at x) (suc at) xs) k w) n

pub writes_push : (words : List ℕ) (at : ℕ) (more : List ℕ) (w : ℕ) → writes words at (more ++ w ∷ []) ≡ writes words at more ++ (written words at (more ++ w ∷ []) ∷ [])
writes_push words at [] w = refl
writes_push words at (x ∷ xs) w = ap (λ l. slice_set words at x ∷ l) (writes_push (slice_set words at x) (suc at) xs w)

-- the next of the words
module _ (words : List ℕ) (at : ℕ) (more : List ℕ) (i : ℕ) (within : i < length more) where
  next : take (i + 1) more ≡ take i more ++ slice_index more i ∷ []
  next = take_more more i 0 within

  pub written_more : written words at (take (i + 1) more) ≡ slice_set (written words at (take i more)) (at + i) (slice_index more i)
  written_more =
      let long : length (take i more) ≡ i = length-take-le i more (omega arith) in
      ap (written words at) next ∙ written_push words at (take i more) (slice_index more i) ∙ ap (λ k. set (written words at (take i more)) (at + k) (slice_index more i)) long

  pub writes_more : writes words at (take (i + 1) more) ≡ writes words at (take i more) ++ (slice_set (written words at (take i more)) (at + i) (slice_index more i) ∷ [])
  writes_more =
      ap (writes words at) next ∙ writes_push words at (take i more) (slice_index more i) ∙ ap (λ h. writes words at (take i more) ++ (h ∷ [])) (ap (written words at) (sym next) ∙ written_more)

pub length_written : (words : List ℕ) (at : ℕ) (more : List ℕ) → length (written words at more) ≡ length words
length_written words at [] = refl
length_written words at (w ∷ ws) = length_written (slice_set words at w) (suc at) ws ∙ length-set words at w

-- the first part of the memory, up to what was stored
pub take_written : (n : ℕ) (words : List ℕ) (at : ℕ) (more : List ℕ) → n ≤ length words → n ≤ at + length more → take n (written words at more) ≡ take n (take at words ++ more)
take_written n words at [] fits ends =
    let below : n ≤ at = omega arith in
    sym (ap (take n) (append-nil (take at words)) ∙ take-take n at words below)
take_written n words at (w ∷ ws) fits ends =
    let fits' : n ≤ length (slice_set words at w) = simp length-set fits in
    let rest = take_written n (slice_set words at w) (suc at) ws fits' (omega arith) in
    rest ∙ ⊎_elim within past (cases_lt at (length words))
  where
    within : at < length words → take n (take (suc at) (slice_set words at w) ++ ws) ≡ take n (take at words ++ w ∷ ws)
    within lt = ap (take n) (ap (λ l. l ++ ws) (ap (λ k. take k (slice_set words at w)) (sym (add-one at)) ∙ take_more_set words at w lt) ∙ append_assoc (take at words) (w ∷ []) ws)

    past : length words ≤ at → take n (take (suc at) (slice_set words at w) ++ ws) ≡ take n (take at words ++ w ∷ ws)
    past le =
        let same : set words at w ≡ words = set_past words at w le in
        let more' : take (suc at) (slice_set words at w) ≡ words = ap (take (suc at)) same ∙ take_all (suc at) words (omega arith) in
        let all : take at words ≡ words = take_all at words le in
        let left : take n (take (suc at) (slice_set words at w) ++ ws) ≡ take n words = ap (λ l. take n (l ++ ws)) more' ∙ take-append-le n words ws fits in
        let right : take n (take at words ++ w ∷ ws) ≡ take n words = ap (λ l. take n (l ++ w ∷ ws)) all ∙ take-append-le n words (w ∷ ws) fits in
        left ∙ sym right

-- the words up to `room`, with and without a waiting page
pub take_settled : (room : ℕ) (words : List ℕ) (at k : ℕ) (more : List ℕ) → room ≤ length words → length more ≡ k → take room (take (at + k) (written words at more)) ≡ take room (take at words ++ more)
take_settled room words at k more fits long = ⊎_elim beyond within (cases_lt (at + k) room)
  where
    within : room ≤ at + k → take room (take (at + k) (written words at more)) ≡ take room (take at words ++ more)
    within le = take-take room (at + k) (written words at more) le ∙ take_written room words at more fits (omega arith)

    beyond : at + k < room → take room (take (at + k) (written words at more)) ≡ take room (take at words ++ more)
    beyond lt =
        let here : take (at + k) (written words at more) ≡ take (at + k) (take at words ++ more) = take_written (at + k) words at more (omega arith) (omega arith) in
        let short : length (take at words) ≤ at = simp length-take (omega arith) in
        let all : take (at + k) (take at words ++ more) ≡ take at words ++ more = take_all (at + k) (take at words ++ more) (simp length-append (omega arith)) in
        ap (take room) (here ∙ all)
