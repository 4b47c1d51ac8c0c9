use Rattle.std.proofs.Common.{◌≡◌, fold, take, slice_index, slice_set}
use Rattle.work.proofs.values.ValuesWork.run.Given as goal

abbrev pub invariant-loop-cell : goal.invariant-loop-cell
invariant-loop-cell l = l.table ≡ fold (λ t p. slice_set t (slice_index p 0) (slice_index p 1)) l.initial.table (take l.cell-index l.cell-items)
