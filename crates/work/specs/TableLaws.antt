-- What one write leaves in a table.
use Rattle.std.specs.Prelude.{◌≡◌, ℕ, ◌≤◌, List, length, slice_index, slice_set}
use Rattle.std.proofs.Common.{arith}
use Rattle.std.proofs.lemmas.Grind.{common_steps}
use Rattle.work.specs.Kinds.{top, WithinTop}

-- tables alike in a cell stay so when both are written alike
pub set_same : (t u : List ℕ) (c v x : ℕ) → length t ≡ length u → slice_index t x ≡ slice_index u x → slice_index (slice_set t c v) x ≡ slice_index (slice_set u c v) x
set_same t u c v x level h = grind (arith, common_steps)

pub set_within_top : (t : List ℕ) (c v : ℕ) → v ≤ top → WithinTop t → WithinTop (slice_set t c v)
set_within_top t c v small h x = let at_x = h x in grind (arith, common_steps)
