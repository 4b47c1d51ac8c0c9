-- The named cells, one by one.
use Rattle.std.proofs.Common.{◌≡◌, ℕ, zero, suc, ◌<◌, ◌≤◌, List, [], ◌∷◌, ◌++◌, length, take, Some, None, Option, sym, refl, ap, ◌∙◌, subst, arith}
use Rattle.std.specs.Option.{MatchOption}
use Rattle.std.proofs.lemmas.List.{take_all, length_push}
use Rattle.work.specs.Kinds.{nth}

-- an index has an element, which stands behind those before it, or lies behind the last
at_index : {X : Type 0} (xs : List X) (i : ℕ) → MatchOption (nth xs i) (length xs ≤ i) (λ x. (i < length xs) × (take (suc i) xs ≡ take i xs ++ x ∷ []))
at_index [] i = omega arith
at_index (y ∷ ys) zero = (omega arith, refl)
at_index {X} (y ∷ ys) (suc i) = on (nth ys i) (at_index ys i)
  where
    on : (o : Option X) → MatchOption o (length ys ≤ i) (λ x. (i < length ys) × (take (suc i) ys ≡ take i ys ++ x ∷ [])) → MatchOption o (length (y ∷ ys) ≤ suc i) (λ x. (suc i < length (y ∷ ys)) × (take (suc (suc i)) (y ∷ ys) ≡ take (suc i) (y ∷ ys) ++ x ∷ []))
    on (Some x) h = (omega (arith, h.0), ap (λ zs. y ∷ zs) h.1)
    on None h = omega (arith, h)

-- of elements that are those before an index, one more
pub one_more : {X : Type 0} (xs ys zs : List X) (x : X) → zs ≡ ys ++ x ∷ [] → ys ≡ take (length ys) xs → nth xs (length ys) ≡ Some x → zs ≡ take (length zs) xs
one_more xs ys zs x pushed is here =
    let at = subst (λ o. MatchOption o (length xs ≤ length ys) (λ x. (length ys < length xs) × (take (suc (length ys)) xs ≡ take (length ys) xs ++ x ∷ []))) here (at_index xs (length ys)) in
    let long : suc (length ys) ≡ length zs = omega (arith, ap length pushed, length_push ys x) in
    pushed ∙ ap (λ ws. ws ++ x ∷ []) is ∙ sym at.1 ∙ ap (λ n. take n xs) long

-- they are all
pub no_more : {X : Type 0} (xs ys : List X) → ys ≡ take (length ys) xs → nth xs (length ys) ≡ None → ys ≡ xs
no_more xs ys is none =
    let few = subst (λ o. MatchOption o (length xs ≤ length ys) (λ x. (length ys < length xs) × (take (suc (length ys)) xs ≡ take (length ys) xs ++ x ∷ []))) none (at_index xs (length ys)) in
    is ∙ take_all (length ys) xs few
