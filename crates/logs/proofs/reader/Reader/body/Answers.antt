use Rattle.std.proofs.Common.{◌+◌, Ok, Err, sym, ap, ◌∙◌, arith}
use Rattle.std.proofs.lemmas.Result.{err_from_is_err_and}
use Rattle.logs.specs.Readers.{moved}
use Rattle.logs.specs.Reading.{and_then, in_body}
use Rattle.logs.proofs.ReaderLaws.{payloads_left, payloads_turn, moved_more}
use Rattle.logs.proofs.reader.Reader.body.Goals as goal

pub returns-in_err-payload-clause-answer : goal.returns-in_err-payload-clause-answer
returns-in_err-payload-clause-answer c =
    let s = c.args.self.now in
    let l = c.loop in
    let raised = err_from_is_err_and c.from_residual.result c.from_residual.ensures.1 in
    raised.1
    ∙ ap (λ x. Err x) raised.2
    ∙ ap (λ r. and_then r (λ b. Ok (in_body b))) (sym (payloads_turn s l.self l.body.items c.args.count l.counter (Err c.in_err-payload.field-0.0) c.loop-test.true l.invariant.passed c.in_err-payload.ensures.answer))
    ∙ l.invariant.read

pub loop-preserved : goal.loop-preserved
loop-preserved c =
    let s = c.args.self.now in
    let l = c.loop in
    record {
      long = omega (arith, c.push.ensures.len, l.invariant.long);
      passed = c.in_ok-payload.ensures.after ∙ ap (λ r. moved r 1) l.invariant.passed ∙ moved_more s l.counter;
      read =
          ap (λ r. and_then r (λ b. Ok (in_body b)))
          (ap (λ b. payloads_left s b c.args.count (l.counter + 1)) c.push.ensures.items
          ∙ sym (payloads_turn s l.self l.body.items c.args.count l.counter (Ok c.in_ok-payload.field-0) c.loop-test.true l.invariant.passed c.in_ok-payload.ensures.answer))
          ∙ l.invariant.read;
    }
