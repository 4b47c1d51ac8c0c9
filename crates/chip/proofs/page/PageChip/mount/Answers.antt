use Rattle.std.proofs.Common.{◌≡◌, true, false, drop, sym, ◌∙◌, subst, arith}
use Rattle.chip.specs.Page.{all_blank, PageIntact}
use Rattle.chip.specs.PageLaws.{mount_refused, mount_intact}
use Rattle.chip.proofs.page.PageChip.mount.Goals as goal

pub returns-then-not-is_blank_from-clause-sound : goal.returns-then-not-is_blank_from-clause-sound
returns-then-not-is_blank_from-clause-sound g c =
    let ws = g.M.Memory.holds c.args.memory in
    let n = c.first_blank-programmed.result in
    let words : all_blank (drop n ws) ≡ false = sym c.is_blank_from.ensures ∙ c.if-not-is_blank_from.true in
    mount_refused ws n (omega (arith, c.len-len.ensures)) (omega (arith, c.len-len.ensures)) c.first_blank-programmed.ensures words

pub invariant_of-result : goal.invariant_of-result
invariant_of-result g c =
    let ws = g.M.Memory.holds c.args.memory in
    let n = c.first_blank-programmed.result in
    let blank : all_blank (drop n ws) ≡ true = sym c.is_blank_from.ensures ∙ c.if-not-is_blank_from.false in
    record { intact = subst (PageIntact ws n) (sym c.new.ensures) (mount_intact ws n (omega (arith, c.len-len.ensures)) (omega (arith, c.len-len.ensures)) c.first_blank-programmed.ensures blank) }
