-- What a body of values names and does, by its pairs.
use Rattle.std.proofs.Common.{◌≡◌, ℕ, zero, suc, ◌*◌, ◌/◌, ◌<◌, ◌≤◌, Bool, true, false, nat_lt, ◌&&◌, List, [], ◌∷◌, length, slice_index, slice_index_or, slice_set, fold, refl, sym, ap, ◌∙◌, add-one, arith}
use Rattle.std.specs.List.{list_all, IsAllAdjacentAnswer}
use Rattle.std.specs.Simd.{first_chunks}
use Rattle.std.proofs.lemmas.Bool.{and_from, and_left, and_right, le-ltb, lt-ltb, ltb-true, ltb-false}
use Rattle.work.specs.Kinds.{within, rising, rising_from}
use Rattle.work.specs.Values.{pairs_of, values_names, values_effect}

-- the pairs as the slice gives them
pub chunks_are_pairs : (body : List ℕ) → first_chunks 2 (length body / 2) body ≡ pairs_of body
chunks_are_pairs [] = refl
chunks_are_pairs (cell ∷ []) = refl
chunks_are_pairs (cell ∷ value ∷ rest) =
    let half : suc (suc (length rest)) / 2 ≡ suc (length rest / 2) = omega arith in
    ap (λ k. first_chunks 2 k (cell ∷ value ∷ rest)) half ∙ ap (λ ps. (cell ∷ value ∷ []) ∷ ps) (chunks_are_pairs rest)

pub within_by_pairs : (cells : ℕ) (body : List ℕ) → within cells (values_names body) ≡ list_all (λ p. nat_lt (slice_index p 0) cells) (pairs_of body)
within_by_pairs cells [] = refl
within_by_pairs cells (cell ∷ []) = refl
within_by_pairs cells (cell ∷ value ∷ rest) = ap (λ b. nat_lt cell cells && b) (within_by_pairs cells rest)

pub effect_by_pairs : (body table : List ℕ) → values_effect body table ≡ fold (λ t p. slice_set t (slice_index p 0) (slice_index p 1)) table (pairs_of body)
effect_by_pairs [] table = refl
effect_by_pairs (cell ∷ []) table = refl
effect_by_pairs (cell ∷ value ∷ rest) table = effect_by_pairs rest (slice_set table cell value)

pub length-pairs : (body : List ℕ) → length (pairs_of body) ≡ length body / 2
length-pairs [] = refl
length-pairs (cell ∷ []) = refl
length-pairs (cell ∷ value ∷ rest) = ap suc (length-pairs rest) ∙ omega arith

-- a pair's cell stands in the body at twice the pair's index
pub cell_of_pair : (body : List ℕ) (i : ℕ) (d : List ℕ) → i < length (pairs_of body) → slice_index (slice_index_or (pairs_of body) i d) 0 ≡ slice_index body (2 * i)
cell_of_pair [] i d h = absurd (omega arith)
cell_of_pair (cell ∷ []) i d h = absurd (omega arith)
cell_of_pair (cell ∷ value ∷ rest) zero d h = refl
cell_of_pair (cell ∷ value ∷ rest) (suc i) d h =
    let twice : suc (suc (2 * i)) ≡ 2 * suc i = omega arith in
    cell_of_pair rest i d (omega arith) ∙ ap (slice_index (cell ∷ value ∷ rest)) twice

-- the cells rise where each pair's is below the next one's
abbrev pub cells_below : List ℕ → List ℕ → Bool
cells_below x y = nat_lt (slice_index x 0) (slice_index y 0)

abbrev pair_at : List ℕ → ℕ → List ℕ
pair_at body k = slice_index_or (pairs_of body) k []

rises : (low : ℕ) (body : List ℕ) → ((k : ℕ) → suc k < length (pairs_of body) → cells_below (pair_at body k) (pair_at body (suc k)) ≡ true)
    → (0 < length (pairs_of body) → low ≤ slice_index (pair_at body 0) 0) → rising_from low (values_names body) ≡ true
rises low [] each first = refl
rises low (cell ∷ []) each first = refl
rises low (cell ∷ value ∷ rest) each first =
    and_from _ _ (lt-ltb low (suc cell) (omega (arith, first (omega arith))))
    (rises (suc cell) rest (λ k l. each (suc k) (omega arith)) (λ l. ltb-true cell (slice_index (pair_at rest 0) 0) (each 0 (omega arith))))

rises_not : (low : ℕ) (body : List ℕ) (k : ℕ) → suc k < length (pairs_of body) → cells_below (pair_at body k) (pair_at body (suc k)) ≡ false → rising_from low (values_names body) ≡ false
rises_not low [] k l h = absurd (omega arith)
rises_not low (cell ∷ []) k l h = absurd (omega arith)
rises_not low (cell ∷ value ∷ []) k l h = absurd (omega arith)
rises_not low (cell ∷ value ∷ next ∷ []) k l h = absurd (omega arith)
rises_not low (cell ∷ value ∷ next ∷ last ∷ rest) zero l h =
    and_right (nat_lt low (suc cell)) _ (and_left (nat_lt (suc cell) (suc next)) _ (le-ltb (suc cell) (suc next) (omega (arith, ltb-false cell next h))))
rises_not low (cell ∷ value ∷ next ∷ last ∷ rest) (suc k) l h =
    and_right (nat_lt low (suc cell)) _ (rises_not (suc cell) (next ∷ last ∷ rest) k (omega arith) h)

pub rising_by_pairs : (body : List ℕ) (r : Bool) → IsAllAdjacentAnswer (λ x y b. b ≡ cells_below x y) (pairs_of body) r → r ≡ rising (values_names body)
rising_by_pairs body true each = sym (rises 0 body (λ k l. rw (← add-one k) (sym (each k [] (omega arith)))) (λ l. omega arith))
rising_by_pairs body false (k, l, h) = sym (rises_not 0 body k (omega arith) (rw (← add-one k) (sym (h []))))
