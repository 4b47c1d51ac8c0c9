use Rattle.std.proofs.Common.{◌<◌, length, Ok, sym, ap, ◌∙◌, arith}
use Rattle.chip.specs.Page.{page_words}
use Rattle.chip.proofs.CallLaws.{read_within}
use Rattle.chip.specs.PageLaws.{read_programmed}
use Rattle.chip.proofs.page.PageChipChip.read_word.Goals as goal

pub returns-then-place-self : goal.returns-then-place-self
returns-then-place-self g c =
    let s = c.args.self.now in
    let ws = g.M.Memory.holds s.memory in
    let inside : c.args.place < length (page_words ws s.waiting.items) = omega (arith, c.count.ensures) in
    let word = read_programmed ws s.programmed s.waiting.items s.intact c.args.place c.if-place-self.true in
    sym (read_within (page_words ws s.waiting.items) c.args.place inside ∙ ap Ok (word ∙ sym c.load.ensures))
