use Rattle.std.proofs.Common.{◌≡◌, ◌+◌, ◌<◌, [], ◌∷◌, ◌++◌, length, get_or, take, set, sym, ap, ◌∙◌, subst, arith}
use Rattle.chip.specs.Page.{written, writes}
use Rattle.chip.specs.Writing.{written_more, writes_more}
use Rattle.chip.proofs.page.program.Goals as goal

pub loop-i-preserved : goal.loop-i-preserved
loop-i-preserved g c =
    let held = g.M.Memory.holds c.args.memory.now in
    let at = c.args.at in
    let words = c.args.words.now in
    let i = c.loop-i.i in
    let within : i < length words = omega arith in
    let here : g.M.Memory.holds c.store.new.self ≡ set (written held at (take i words)) (at + i) (get_or words i 0) =
    c.store.ensures.held ∙ ap (λ h. set h (at + i) (get_or words i 0)) c.loop-i.invariant.0 in
    let joined = g.met.M.Memory.joins _ _ _ _ _ c.loop-i.invariant.1 c.store.ensures.moment in
    let moments = ap (λ h. writes held at (take i words) ++ (h ∷ [])) here ∙ sym (writes_more held at words i within) in
    (here ∙ sym (written_more held at words i within), subst (λ ms. g.M.Memory.through c.args.memory.now ms c.store.new.self) moments joined)
