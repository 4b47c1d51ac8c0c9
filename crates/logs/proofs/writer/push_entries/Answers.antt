use Rattle.std.proofs.Common.{◌==◌, ◌+◌, ◌*◌, ◌≡◌, ◌++◌, ◌∷◌, [], cond, length, get_or, take, sym, ap, ◌∙◌, append-nil, arith}
use Rattle.std.proofs.lemmas.Bool.{not-true, not-false}
use Rattle.std.proofs.lemmas.List.{length-append, length-take-le}
use Rattle.logs.specs.Words.{entry_word, entry_words}
use Rattle.logs.proofs.WriterLaws.{words_next, length_entry_words}
use Rattle.logs.proofs.writer.push_entries.Goals as goal
use Rattle.logs.proofs.writer.push_entries.Goals.{then-has_word, else-has_word}

pub push-requires : goal.push-requires
push-requires c =
    let v = c.args.vector in
    let i = c.loop-chip.chip in
    let long = length-append c.args.words.now.items (entry_words 0 (take i v)) in
    (omega arith, omega (arith, ap length c.loop-chip.invariant, long, length_entry_words 0 (take i v), length-take-le i v (omega arith), c.requires.room))

pub loop-chip-preserved : goal.loop-chip-preserved
loop-chip-preserved c =
    let v = c.args.vector in
    let i = c.loop-chip.chip in
    let place = get_or v i 0 in
    let words = c.loop-chip.words.items in
    words_next c.args.words.now.items v i words c.if-has_word.words.items (omega arith) c.loop-chip.invariant
    (elim c.if-has_word.branch [
      | then-has_word w ↦
          let some = not-true (place == 0) (sym c.has_word.ensures ∙ w.if-has_word.true) in
          let word : w.from.result * 536870912 + i * 67108864 + place ≡ entry_word i place = omega (arith, w.from.ensures) in
          ap (λ ws. ws.items) w.words-is
          ∙ w.push.ensures.items
          ∙ ap (λ x. words ++ x ∷ []) word
          ∙ ap (λ b. words ++ cond b [] (entry_word i place ∷ [])) (sym some)
      | else-has_word w ↦
          let none = not-false (place == 0) (sym c.has_word.ensures ∙ w.if-has_word.false) in
          ap (λ ws. ws.items) w.words-is
          ∙ sym (append-nil words)
          ∙ ap (λ b. words ++ cond b [] (entry_word i place ∷ [])) (sym none)
    ])
