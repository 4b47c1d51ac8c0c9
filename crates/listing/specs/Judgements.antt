-- What a kind of work says of a body alone.
--   Judges kind cells body j    the body's fault, or all the cells that it names if it is well formed
use Rattle.std.specs.Prelude.{◌≡◌, ℕ, List, Ok, Err, Result, Vec, vec_items}
use Rattle.std.specs.declared.alloc.Global.{Global}
use Rattle.work.specs.Kinds.{Kind}
use Rattle.work.specs.declared.fault.BodyFault.{BodyFault}
use Rattle.work.specs.declared.name.Name.{Name}

abbrev pub Judges : Kind → ℕ → List ℕ → Result (Vec Name Global) BodyFault → Type 0
Judges kind cells body (Ok names) = (kind.judged body cells ≡ Ok tt) × (vec_items names ≡ kind.names body)
Judges kind cells body (Err fault) = kind.judged body cells ≡ Err fault
