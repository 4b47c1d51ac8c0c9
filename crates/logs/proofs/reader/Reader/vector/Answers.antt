use Rattle.std.proofs.Common.{Ok, Err, sym, ap, ◌∙◌}
use Rattle.std.proofs.lemmas.List.{length-set}
use Rattle.std.proofs.lemmas.Result.{err_from_is_err_and}
use Rattle.logs.specs.Readers.{moved}
use Rattle.logs.proofs.ReaderLaws.{entries_turn, moved_more}
use Rattle.logs.proofs.reader.Reader.vector.Goals as goal

pub returns-in_err-entry-clause-answer : goal.returns-in_err-entry-clause-answer
returns-in_err-entry-clause-answer c =
    let s = c.args.self.now in
    let l = c.loop in
    let raised = err_from_is_err_and c.from_residual.result c.from_residual.ensures.1 in
    raised.1
    ∙ ap (λ x. Err x) raised.2
    ∙ sym (entries_turn s l.self l.low l.vector c.args.count l.counter (Err c.in_err-entry.field-0.0) c.loop-test.true l.invariant.passed c.in_err-entry.ensures.answer)
    ∙ l.invariant.read

pub loop-preserved : goal.loop-preserved
loop-preserved c =
    let s = c.args.self.now in
    let l = c.loop in
    let e = c.in_ok-entry.entry in
    record {
      long = length-set l.vector e.chip e.place ∙ l.invariant.long;
      passed = c.in_ok-entry.ensures.after ∙ ap (λ r. moved r 1) l.invariant.passed ∙ moved_more s l.counter;
      read = sym (entries_turn s l.self l.low l.vector c.args.count l.counter (Ok e) c.loop-test.true l.invariant.passed c.in_ok-entry.ensures.answer) ∙ l.invariant.read;
    }
