use Rattle.std.proofs.Common.{◌≡◌, ◌+◌, ◌<◌, [], ◌∷◌, ◌++◌, true, map, length, sym, refl, ap, ◌∙◌, subst, arith, rules}
use Rattle.std.proofs.lemmas.Bool.{both_ways}
use Rattle.std.proofs.lemmas.List.{places}
use Rattle.chip.specs.Page.{page_words, page_found, PageIntact, writes}
use Rattle.chip.proofs.CallLaws.{taken_answer, taken_leaves}
use Rattle.chip.specs.PageLaws.{length_words, collected_words, collected_intact, early_programs, page_filled}
use Rattle.chip.proofs.page.PageChipChip.append.Goals as goal

pub invariant_of-self-else-is_full : goal.invariant_of-self-else-is_full
invariant_of-self-else-is_full g c =
    let s = c.args.self.now in
    let ws = g.M.Memory.holds s.memory in
    let room : s.programmed + length s.waiting.items < length ws = omega (arith, c.count.ensures, c.capacity.ensures, c.if-count-capacity.false, length_words ws s.programmed s.waiting.items s.intact) in
    let few : length s.waiting.items + 1 < 16 = search (rules, arith, c.push.ensures.len, s.intact.few) in
    record { intact = subst (PageIntact ws s.programmed) (sym c.push.ensures.items) (collected_intact ws s.programmed s.waiting.items s.intact c.args.word c.if-word-eq-BLANK.false room few) }

pub invariant_of-self : goal.invariant_of-self
invariant_of-self g c =
    let s = c.args.self.now in
    let ws = g.M.Memory.holds s.memory in
    let room : s.programmed + length s.waiting.items < length ws = omega (arith, c.count.ensures, c.capacity.ensures, c.if-count-capacity.false, length_words ws s.programmed s.waiting.items s.intact) in
    let full : length c.push.new.self.items ≡ 16 = search (rules, arith) in
    let more = c.deref.result.now in
    let long : length more ≡ 16 = search (rules, places, arith, full) in
    let same : more ≡ s.waiting.items ++ c.args.word ∷ [] = search (rules, places, arith, full) in
    let filled = page_filled ws s.programmed s.waiting.items s.intact more (g.M.Memory.holds c.program.new.memory) c.clear.new.self.items (s.programmed + 16) c.program.ensures.memory c.clear.ensures c.args.word c.if-word-eq-BLANK.false room same long refl in
    record { intact = filled.intact }

pub returns-then-is_full : goal.returns-then-is_full
returns-then-is_full g c =
    let s = c.args.self.now in
    let ws = g.M.Memory.holds s.memory in
    let w = c.args.word in
    let more = c.deref.result.now in
    let word = c.if-word-eq-BLANK.false in
    let intact = s.intact in
    let room : s.programmed + length s.waiting.items < length ws = omega (arith, c.count.ensures, c.capacity.ensures, c.if-count-capacity.false, length_words ws s.programmed s.waiting.items intact) in
    let space : length (page_words ws s.waiting.items) < length ws = omega (arith, length_words ws s.programmed s.waiting.items intact) in
    let full : length c.push.new.self.items ≡ 16 = search (rules, arith) in
    let long : length more ≡ 16 = search (rules, places, arith, full) in
    let same : more ≡ s.waiting.items ++ w ∷ [] = search (rules, places, arith, full) in
    let filled = page_filled ws s.programmed s.waiting.items intact more (g.M.Memory.holds c.program.new.memory) c.clear.new.self.items (s.programmed + 16) c.program.ensures.memory c.clear.ensures w word room same long refl in
    let one_more = filled.words ∙ ap (page_words ws) same ∙ collected_words ws s.programmed s.waiting.items intact w word room in
    record {
      answer = sym (taken_answer (length ws) (page_words ws s.waiting.items) w word space);
      words = one_more ∙ sym (taken_leaves (length ws) (page_words ws s.waiting.items) w word space);
      same_room = filled.same_room;
      free_settled = omega arith;
      settles_early = λ _. sym (early_programs s.programmed s.waiting.items (omega (arith, c.push.ensures.len)));
      refusal_changes_nothing = λ e. absurd (both_ways true e refl);
      cut_inside = (map page_found (writes ws s.programmed more), (writes ws s.programmed more, c.program.ensures.moments, filled.sound, refl, filled.gapless), filled.kept _ filled.words);
    }
