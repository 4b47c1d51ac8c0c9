use Rattle.std.proofs.Common.{◌≡◌, ◌≤◌, false, length, set, vec_len, refl, ⊎_elim, arith, rules}
use Rattle.std.proofs.lemmas.List.{set_past}
use Rattle.std.proofs.lemmas.Bool.{both_ways, cases_lt}
use Rattle.staging.specs.RewindLaws.{undone-append}
use Rattle.staging.proofs.traced.Traced.after.Goals as goal

pub loop-note-preserved-in-Some-get_mut : goal.loop-note-preserved-in-Some-get_mut
loop-note-preserved-in-Some-get_mut c = search (rules, undone-append)

pub loop-note-preserved : goal.loop-note-preserved
loop-note-preserved c =
    let note = c.in-Some.note.now in
    let past : length c.loop-note.words.items ≤ note.place = ⊎_elim (λ lt. absurd (both_ways false refl (c.in_default.ensures.variant.1 lt))) (λ le. omega (arith, le, c.loop-note.words.ok.0)) (cases_lt note.place (vec_len c.loop-note.words)) in
    let same : set c.loop-note.words.items note.place note.before ≡ c.loop-note.words.items = set_past c.loop-note.words.items note.place note.before past in
    search (rules, undone-append, same)
