use Rattle.std.proofs.Common.{◌≡◌, ◌+◌, ◌<◌, [], ◌∷◌, ◌++◌, length, set, sym, refl, ap, ◌∙◌, subst, inl, inr, arith}
use Rattle.std.proofs.lemmas.List.{append-nil, length_push}
use Rattle.chip.specs.Count.{count_room, count_of, count_words}
use Rattle.chip.specs.CountLaws.{length_counted, Appended, appended}
use Rattle.chip.specs.Finding.{kept_front}
use Rattle.chip.proofs.count.CountChipChip.append.Goals as goal

pub returns-clause-cut_inside : goal.returns-clause-cut_inside
returns-clause-cut_inside g c =
    let s = c.args.self.now in
    let ws = g.M.Memory.holds s.memory in
    let first = g.M.Memory.holds c.store.new.self in
    let second = g.M.Memory.holds c.store-2.new.self in
    let w = c.args.word in
    let n = count_of ws in
    let room : n < count_room ws = omega (arith, c.words-words.ensures, c.room.ensures) in
    let held : first ≡ set ws (n + 1) w = c.store.ensures.held ∙ ap (λ k. set ws (k + 1) w) c.words-words.ensures in
    let held-2 : second ≡ set (set ws (n + 1) w) 0 (n + 1) = c.store-2.ensures.held ∙ ap (λ h. set h 0 (c.words-words.result + 1)) held ∙ ap (λ k. set (set ws (n + 1) w) 0 (k + 1)) c.words-words.ensures in
    let both : Appended ws first second w = subst (λ f. Appended ws f second w) (sym held) (subst (λ s. Appended ws (set ws (n + 1) w) s w) (sym held-2) (appended ws w s.sound room)) in
    let more : count_words second ≡ count_words first ++ w ∷ [] = both.one_more ∙ ap (λ l. l ++ w ∷ []) (sym both.nothing_yet) in
    let long = length_counted ws s.sound in (
      count_words first ∷ (count_words second ∷ []),
      (
        first ∷ (second ∷ []),
        g.met.M.Memory.joins _ _ _ _ _ c.store.ensures.moment c.store-2.ensures.moment,
        (both.first_sound, (both.second_sound, tt)),
        refl,
        (inl both.nothing_yet, (inr (w, more), refl)),
      ),
      (
        kept_front (count_words first) (w ∷ []) (count_words second) n more (omega (arith, long, ap length both.nothing_yet)),
        (kept_front (count_words second) [] (count_words second) n (sym (append-nil (count_words second))) (omega (arith, long, ap length both.one_more, length_push (count_words ws) w)), tt),
      ),
    )
