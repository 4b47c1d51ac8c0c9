use Rattle.std.proofs.Common.{◌≡◌, take}
use Rattle.chip.specs.Page.{written, writes}
use Rattle.chip.proofs.page.program.Given as goal

abbrev pub invariant-loop-i : goal.invariant-loop-i
invariant-loop-i g l =
    let held = g.M.Memory.holds l.initial.memory in
    (g.M.Memory.holds l.memory ≡ written held l.at (take l.i l.words)) × g.M.Memory.through l.initial.memory (writes held l.at (take l.i l.words)) l.memory
