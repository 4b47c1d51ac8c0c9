use Rattle.std.proofs.Common.{◌≡◌, ◌<◌, [], Some, Ok, Err, sym, ap, ◌∙◌, subst, arith}
use Rattle.std.specs.Result.{IfOk, MatchResult}
use Rattle.std.proofs.lemmas.Result.{err_from_is_err_and}
use Rattle.logs.specs.declared.record.Record.{Record}
use Rattle.listing.specs.Kinds.{chosen_kind}
use Rattle.listing.specs.Listings.{Stands, Listed, at_start}
use Rattle.listing.specs.Listings.Listed.{all_read, too_far, damaged}
use Rattle.listing.proofs.ListingLaws.{found_at, record_or_none, ends_behind, behind_or_none}
use Rattle.listing.proofs.records.Reading.record_at.Goals as goal

pub returns-then-start-words-clause-stands : goal.returns-then-start-words-clause-stands
returns-then-start-words-clause-stands c = all_read c.if-start-words.true

pub returns-in_default-clause-stands : goal.returns-in_default-clause-stands
returns-in_default-clause-stands c = too_far (omega arith) (omega (arith, c.in_default.ensures))

pub returns-in_err-record-clause-stands : goal.returns-in_err-record-clause-stands
returns-in_err-record-clause-stands c =
    let g = c.args.self in
    let ws = c.args.words.now in
    let start = c.args.start in
    let raised = err_from_is_err_and c.from_residual.result c.from_residual.ensures.1 in
    let is = found_at g ws start c.in-Ok.place (Err c.in_err-record.field-0.0) (omega (arith, c.in-Ok.ensures)) c.in_err-record.ensures.answer in
    subst (λ r. MatchResult r (Stands g ws start) (Listed g ws start [])) (sym (raised.1 ∙ ap (λ x. Err x) raised.2)) (damaged (omega arith) (omega (arith, c.in-Ok.ensures)) is)

pub returns-clause-stands : goal.returns-clause-stands
returns-clause-stands c =
    let g = c.args.self in
    let ws = c.args.words.now in
    let start = c.args.start in
    let is = found_at g ws start c.in-Ok.place (Ok c.in_ok-record.record) (omega (arith, c.in-Ok.ensures)) c.in_ok-record.ensures.answer in
    subst (λ r. MatchResult r (Stands g ws start) (Listed g ws start [])) (sym c.ok_or.ensures.value) (record_or_none g ws start c.in_ok-record.record (omega arith) (omega (arith, c.in-Ok.ensures)) is)

pub returns-clause-behind : goal.returns-clause-behind
returns-clause-behind c =
    let g = c.args.self in
    let read = c.in_ok-record.ensures in
    let behind : (r : Record) → c.in_ok-record.record ≡ Some r → c.args.start < r.end = λ r is.
    omega (arith, c.in-Ok.ensures, ends_behind (chosen_kind g.kind) g.cells (at_start g c.in-Ok.place) _ r read.only_written (ap (λ o. Ok o) (sym is) ∙ read.answer)) in
    subst (λ r. IfOk r (λ x. c.args.start < x.end)) (sym c.ok_or.ensures.value) (behind_or_none c.args.start c.in_ok-record.record _ behind)
