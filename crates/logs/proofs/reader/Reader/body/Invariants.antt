use Rattle.std.proofs.Common.{◌≡◌, length, Ok}
use Rattle.logs.specs.Readers.{moved, body_of}
use Rattle.logs.specs.Reading.{and_then, in_body}
use Rattle.logs.proofs.ReaderLaws.{payloads_left}
use Rattle.logs.proofs.reader.Reader.body.Given as goal

abbrev pub invariant-loop : goal.invariant-loop
invariant-loop l =
    let was = l.initial.self in
    record {
      long : length l.body.items ≡ l.counter;
      passed : l.self ≡ moved was l.counter;
      read : and_then (payloads_left was l.body.items l.count l.counter) (λ b. Ok (in_body b)) ≡ body_of was l.count;
    }
