-- What joined and reached vectors have at each chip, and that a join is the least vector above both.
use Rattle.std.proofs.Common.{◌≡◌, ℕ, zero, suc, ◌+◌, ◌<◌, ◌≤◌, max, true, nat_le, ◌&&◌, List, [], ◌∷◌, length, get_or, sym, refl, ap, ◌∙◌, subst, inl, inr, arith}
use Rattle.std.specs.Array.{IsFromFnResult, IsFromFnResultFrom}
use Rattle.std.specs.Fn.{Mut, Called}
use Rattle.std.specs.List.{list_all, zip}
use Rattle.std.proofs.lemmas.Bool.Decides.{nat_tests}
use Rattle.std.proofs.lemmas.Bool.{and_parts, cases_eq}
use Rattle.std.proofs.lemmas.List.{ext_get_or}
use Rattle.vector.specs.Vectors.{joined, reached_by, LeastAbove}

pub length_joined : (xs ys : List ℕ) → length xs ≡ length ys → length (joined xs ys) ≡ length xs
length_joined [] ys e = refl
length_joined (x ∷ xs) [] e = sym e
length_joined (x ∷ xs) (y ∷ ys) e = ap suc (length_joined xs ys (omega arith))

pub get_or_joined : (xs ys : List ℕ) (k : ℕ) → length xs ≡ length ys → get_or (joined xs ys) k 0 ≡ max (get_or xs k 0) (get_or ys k 0)
get_or_joined [] [] k e = refl
get_or_joined [] (y ∷ ys) k e = absurd (omega arith)
get_or_joined (x ∷ xs) [] k e = absurd (omega arith)
get_or_joined (x ∷ xs) (y ∷ ys) zero e = refl
get_or_joined (x ∷ xs) (y ∷ ys) (suc k) e = get_or_joined xs ys k (omega arith)

pub reached_from : (xs ys : List ℕ) → length xs ≡ length ys → ((k : ℕ) → k < length xs → get_or xs k 0 ≤ get_or ys k 0) → reached_by xs ys ≡ true
reached_from [] ys e h = refl
reached_from (x ∷ xs) [] e h = absurd (omega arith)
reached_from (x ∷ xs) (y ∷ ys) e h =
    let first = h 0 (omega arith) in
    let rest = reached_from xs ys (omega arith) (λ k l. h (suc k) (omega arith)) in
    grind (arith, nat_tests)

pub reached_at : (xs ys : List ℕ) → reached_by xs ys ≡ true → (k : ℕ) → get_or xs k 0 ≤ get_or ys k 0
reached_at [] ys h k = omega arith
reached_at (x ∷ xs) [] h k = cc
reached_at (x ∷ xs) (y ∷ ys) h zero = grind (arith, nat_tests)
reached_at (x ∷ xs) (y ∷ ys) h (suc k) = reached_at xs ys (and_parts (nat_le x y) (reached_by xs ys) h).1 k

-- `reached_by` as the chain of the code has it
pub reached_by-zip : (xs ys : List ℕ) → length xs ≡ length ys → reached_by xs ys ≡ list_all (λ p. nat_le p.0 p.1) (zip xs ys)
reached_by-zip [] ys e = refl
reached_by-zip (x ∷ xs) [] e = absurd (omega arith)
reached_by-zip (x ∷ xs) (y ∷ ys) e = ap (λ b. nat_le x y && b) (reached_by-zip xs ys (omega arith))

-- a list that was made by calls at its indexes, where the closure stays as it was
made_each : {F : Type 0} (g : Mut F (ℕ × Unit {0}) ℕ) (f : F) (ys : List ℕ) (v : ℕ → ℕ) (i n : ℕ)
    → ((k y : ℕ) (q : F) → Called g f (k, tt) y q → (q ≡ f) × (y ≡ v k))
    → IsFromFnResultFrom g f ys i n → (k : ℕ) → i ≤ k → k < i + n → get_or ys k 0 ≡ v k
made_each g f ys v i zero gives made k low high = absurd (omega arith)
made_each {F} g f ys v i (suc n) gives (q, y, here, called, rest) k low high =
    let turn = gives i y q called in
    let same : F → Type 0 = λ h. IsFromFnResultFrom g h ys (i + 1) n in
    elim (cases_eq i k) [
      | inl e ↦ rw (← e) (here.1 0 ∙ turn.1)
      | inr ne ↦ made_each g f ys v (i + 1) n gives (subst same turn.0 rest) k (omega arith) (omega arith)
    ]

pub joined_from_fn : {F : Type 0} (g : Mut F (ℕ × Unit {0}) ℕ) (f : F) (made xs ys : List ℕ) → length xs ≡ length ys → length xs ≡ 8 → IsFromFnResult g f made 8
    → ((k y : ℕ) (q : F) → Called g f (k, tt) y q → (q ≡ f) × (y ≡ max (get_or xs k 0) (get_or ys k 0))) → made ≡ joined xs ys
joined_from_fn g f made xs ys level long h gives =
    ext_get_or 0 made (joined xs ys) (omega (arith, h.long, length_joined xs ys level))
    (λ k l. made_each g f made (λ i. max (get_or xs i 0) (get_or ys i 0)) 0 8 gives h.each k (omega arith) (omega (arith, h.long)) ∙ sym (get_or_joined xs ys k level))

pub joined_least : (xs ys : List ℕ) → length xs ≡ length ys → LeastAbove xs ys (joined xs ys)
joined_least xs ys e =
    let long : length (joined xs ys) ≡ length xs = length_joined xs ys e in
    record {
      first = reached_from xs (joined xs ys) (omega arith) (λ k l. rw get_or_joined (omega arith));
      second = reached_from ys (joined xs ys) (omega arith) (λ k l. rw get_or_joined (omega arith));
      least = λ zs level x y. reached_from (joined xs ys) zs (omega arith) (λ k l. rw get_or_joined (omega (arith, reached_at xs zs x k, reached_at ys zs y k)));
    }
