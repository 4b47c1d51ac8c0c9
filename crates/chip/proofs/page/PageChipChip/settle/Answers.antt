use Rattle.std.proofs.Common.{◌+◌, map, length, sym, refl, ap, ◌∙◌, arith, rules}
use Rattle.chip.specs.Page.{page_words, page_found, writes}
use Rattle.chip.specs.PageLaws.{length_words, page_settled}
use Rattle.chip.proofs.page.PageChipChip.settle.Goals as goal

pub invariant_of-self : goal.invariant_of-self
invariant_of-self g c =
    let s = c.args.self.now in
    let ws = g.M.Memory.holds s.memory in
    record { intact = (page_settled ws s.programmed s.waiting.items s.intact c.deref.result.now (g.M.Memory.holds c.program.new.memory) c.clear.new.self.items _ c.program.ensures.memory c.clear.ensures c.deref.ensures.0 (omega (arith, c.len.ensures.value))).intact }

pub returns : goal.returns
returns g c =
    let s = c.args.self.now in
    let ws = g.M.Memory.holds s.memory in
    let more = c.deref.result.now in
    let settled = page_settled ws s.programmed s.waiting.items s.intact more (g.M.Memory.holds c.program.new.memory) c.clear.new.self.items (s.programmed + length s.waiting.items) c.program.ensures.memory c.clear.ensures c.deref.ensures.0 refl in
    record {
      words = settled.words ∙ ap (page_words ws) c.deref.ensures.0;
      same_room = settled.same_room;
      all_settled = search (rules, length_words ws s.programmed s.waiting.items s.intact, c.len.ensures.value);
      cut_inside = (map page_found (writes ws s.programmed more), (writes ws s.programmed more, c.program.ensures.moments, settled.sound, refl, settled.gapless), settled.kept (page_words ws s.waiting.items) (ap (page_words ws) (sym c.deref.ensures.0)));
    }
