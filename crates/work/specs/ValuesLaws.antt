-- What the pairs of a body of values name and do.
use Rattle.std.specs.Prelude.{◌≡◌, ℕ, zero, suc, ◌*◌, ◌/◌, ◌<◌, ◌≤◌, true, false, ◌&&◌, List, [], ◌∷◌, length, Some, None, Ok, ◌==◌, slice_index, slice_set, refl, ◌+◌, ◌-◌, take, drop}
use Rattle.std.proofs.Common.{sym, ap, ◌∙◌, arith, add-one}
use Rattle.std.proofs.lemmas.List.{length-set, get_or-set_other, take_rest}
use Rattle.std.proofs.lemmas.Bool.Decides.{nat_tests}
use Rattle.std.proofs.lemmas.Bool.{and_parts, or_parts, lt-ltb}
use Rattle.work.specs.declared.name.Name.{Name}
use Rattle.work.specs.KindLaws.{ok_then, payloads_below}
use Rattle.work.specs.TableLaws.{set_same, set_within_top}
use Rattle.work.specs.Kinds.{Lawful, nth, fit_payloads, within, rising, names_writing, written, writing, Alike, WithinTop, rising_from}
use Rattle.work.specs.Values.{values, values_names, values_effect, values_judged, pairs_fit}

-- the part of a slice behind its first two elements, as a pattern gives it
pub behind_two : (x y : ℕ) (xs : List ℕ) → take (length (x ∷ y ∷ xs) - 2) (drop 2 (x ∷ y ∷ xs)) ≡ xs
behind_two x y xs = take_rest (x ∷ y ∷ xs) 2

-- a list of two elements or more, written out
pub two_and_rest : (xs : List ℕ) → 2 ≤ length xs → xs ≡ slice_index xs 0 ∷ slice_index xs 1 ∷ take (length xs - 2) (drop 2 xs)
two_and_rest [] h = absurd (omega arith)
two_and_rest (x ∷ []) h = absurd (omega arith)
two_and_rest (x ∷ y ∷ xs) h = ap (λ zs. x ∷ y ∷ zs) (sym (behind_two x y xs))

-- one pair on
pub within_behind : (cells : ℕ) (xs : List ℕ) → 2 ≤ length xs → slice_index xs 0 < cells → within cells (values_names (take (length xs - 2) (drop 2 xs))) ≡ within cells (values_names xs)
within_behind cells [] h l = absurd (omega arith)
within_behind cells (c ∷ []) h l = absurd (omega arith)
within_behind cells (c ∷ v ∷ rest) h l =
    ap (λ xs. within cells (values_names xs)) (behind_two c v rest) ∙ sym (ap (λ b. b && within cells (values_names rest)) (lt-ltb c cells l))

pub rising_behind : (low : ℕ) (xs : List ℕ) → 2 ≤ length xs → low ≤ slice_index xs 0 → rising_from (slice_index xs 0 + 1) (values_names (take (length xs - 2) (drop 2 xs))) ≡ rising_from low (values_names xs)
rising_behind low [] h l = absurd (omega arith)
rising_behind low (c ∷ []) h l = absurd (omega arith)
rising_behind low (c ∷ v ∷ rest) h l =
    ap (λ n. rising_from n (values_names (take (length (c ∷ v ∷ rest) - 2) (drop 2 (c ∷ v ∷ rest))))) (add-one c)
    ∙ ap (λ xs. rising_from (suc c) (values_names xs)) (behind_two c v rest)
    ∙ sym (ap (λ b. b && rising_from (suc c) (values_names rest)) (lt-ltb low (suc c) (omega arith)))

pub nth_behind : (body : List ℕ) (i : ℕ) → length body / 2 ≤ i → nth (values_names body) i ≡ None
nth_behind [] i h = refl
nth_behind (c ∷ []) i h = refl
nth_behind (c ∷ v ∷ rest) zero h = absurd (omega arith)
nth_behind (c ∷ v ∷ rest) (suc i) h = nth_behind rest i (omega arith)

pub nth_pair : (body : List ℕ) (i : ℕ) → i < length body / 2 → nth (values_names body) i ≡ Some (writing (slice_index body (2 * i)))
nth_pair [] i h = absurd (omega arith)
nth_pair (c ∷ []) i h = absurd (omega arith)
nth_pair (c ∷ v ∷ rest) zero h = refl
nth_pair (c ∷ v ∷ rest) (suc i) h =
    let twice : suc (suc (2 * i)) ≡ 2 * suc i = omega arith in
    nth_pair rest i (omega arith) ∙ ap (λ k. Some (writing (slice_index (c ∷ v ∷ rest) k))) twice

pub length_names : (body : List ℕ) → length (values_names body) ≡ length body / 2
length_names [] = refl
length_names (c ∷ []) = refl
length_names (c ∷ v ∷ rest) = ap suc (length_names rest) ∙ omega arith

pub length_effect : (body table : List ℕ) → length (values_effect body table) ≡ length table
length_effect [] table = refl
length_effect (c ∷ []) table = refl
length_effect (c ∷ v ∷ rest) table = length_effect rest (slice_set table c v) ∙ length-set table c v

pub unwritten_stay : (body table : List ℕ) (x : ℕ) → written (values_names body) x ≡ false → slice_index (values_effect body table) x ≡ slice_index table x
unwritten_stay [] table x h = refl
unwritten_stay (c ∷ []) table x h = refl
unwritten_stay (c ∷ v ∷ rest) table x h =
    let parts = or_parts (c == x) (written (values_names rest) x) h in
    unwritten_stay rest (slice_set table c v) x parts.1 ∙ get_or-set_other table c x v 0 (grind (arith, nat_tests))

pub same_stay_same : (body t u : List ℕ) (x : ℕ) → length t ≡ length u → slice_index t x ≡ slice_index u x → slice_index (values_effect body t) x ≡ slice_index (values_effect body u) x
same_stay_same [] t u x level h = h
same_stay_same (c ∷ []) t u x level h = h
same_stay_same (c ∷ v ∷ rest) t u x level h =
    same_stay_same rest (slice_set t c v) (slice_set u c v) x (length-set t c v ∙ level ∙ sym (length-set u c v)) (set_same t u c v x level h)

pub effect_within_top : (body table : List ℕ) → fit_payloads body ≡ true → WithinTop table → WithinTop (values_effect body table)
effect_within_top [] table fits h = h
effect_within_top (c ∷ []) table fits h = h
effect_within_top (c ∷ v ∷ rest) table fits h =
    let below = payloads_below (c ∷ v ∷ rest) fits in
    effect_within_top rest (slice_set table c v) (grind (arith, nat_tests)) (set_within_top table c v below.1.0 h)

-- what a well-formed body keeps to
pub record Sound (body : List ℕ) (cells : ℕ) : Type 0 where
  pub some : 1 ≤ length body / 2
  pub few : length body / 2 ≤ 8
  pub fits : fit_payloads body ≡ true
  pub there : within cells (values_names body) ≡ true
  pub rises : rising (values_names body) ≡ true

pub sound_values : (body : List ℕ) (cells : ℕ) → values_judged body cells ≡ Ok tt → Sound body cells
sound_values body cells ok =
    let first = ok_then (pairs_fit (length body) && fit_payloads body) _ _ ok in
    let shape = and_parts (pairs_fit (length body)) (fit_payloads body) first.0 in
    let second = ok_then (within cells (values_names body)) _ _ first.1 in
    record {
      some = grind (arith, nat_tests);
      few = grind (arith, nat_tests);
      fits = shape.1;
      there = second.0;
      rises = (ok_then (rising (values_names body)) _ _ second.1).0;
    }

one_writes : (body : List ℕ) → 1 ≤ length body / 2 → names_writing (values_names body) ≡ true
one_writes [] h = absurd (omega arith)
one_writes (c ∷ []) h = absurd (omega arith)
one_writes (c ∷ v ∷ rest) h = refl

all_same : (names : List Name) (body t u : List ℕ) → length t ≡ length u → Alike names t u → Alike names (values_effect body t) (values_effect body u)
all_same [] body t u level h = tt
all_same (n ∷ ns) body t u level h = (same_stay_same body t u n.cell level h.0, all_same ns body t u level h.1)

pub values_lawful : Lawful values
values_lawful = record {
  some_named = λ body cells ok. omega (arith, length_names body, (sound_values body cells ok).some);
  few_named = λ body cells ok. omega (arith, length_names body, (sound_values body cells ok).few);
  named_once_in_rising_number = λ body cells ok. (sound_values body cells ok).rises;
  named_are_there = λ body cells ok. (sound_values body cells ok).there;
  one_for_writing = λ body cells ok. one_writes body (sound_values body cells ok).some;
  all_payloads_fit = λ body cells ok. payloads_below body (sound_values body cells ok).fits;
  keeps_length = length_effect;
  only_written_change = λ body cells ok table long x. unwritten_stay body table x;
  alike_stay_alike = λ body cells ok t u long-t long-u. all_same (values_names body) body t u (long-t ∙ sym long-u);
  stays_within_top = λ body cells ok table long. effect_within_top body table (sound_values body cells ok).fits;
}
