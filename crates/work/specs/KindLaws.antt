-- Facts that every kind of work uses for its laws.
use Rattle.std.specs.Prelude.{◌≡◌, ℕ, ◌≤◌, Bool, true, false, cond, List, [], ◌∷◌, Ok, Err, Result, nat_lt, refl}
use Rattle.std.proofs.Common.{arith}
use Rattle.std.specs.List.{AllByRecursion}
use Rattle.std.proofs.lemmas.Bool.{and_parts}
use Rattle.std.proofs.lemmas.Bool.Decides.{nat_tests}
use Rattle.work.specs.declared.fault.BodyFault.{BodyFault}
use Rattle.work.specs.Kinds.{top, fit_payloads}

-- a question that was asked and not refused
pub ok_then : (b : Bool) (r : Result (Unit {0}) BodyFault) (e : BodyFault) → cond b r (Err e) ≡ Ok tt → (b ≡ true) × (r ≡ Ok tt)
ok_then true r e h = (refl, h)
ok_then false r e h = cc

pub payloads_below : (body : List ℕ) → fit_payloads body ≡ true → AllByRecursion (λ p. p ≤ top) body
payloads_below [] h = tt
payloads_below (p ∷ ps) h =
    let parts = and_parts (nat_lt p 536870912) (fit_payloads ps) h in
    (grind (arith, nat_tests), payloads_below ps parts.1)
