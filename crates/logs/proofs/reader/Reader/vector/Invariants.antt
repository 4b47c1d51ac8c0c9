use Rattle.std.proofs.Common.{◌≡◌, length}
use Rattle.logs.specs.Readers.{moved, vector_of}
use Rattle.logs.proofs.ReaderLaws.{entries_left}
use Rattle.logs.proofs.reader.Reader.vector.Given as goal

abbrev pub invariant-loop : goal.invariant-loop
invariant-loop l =
    let was = l.initial.self in
    record {
      long : length l.vector ≡ 8;
      passed : l.self ≡ moved was l.counter;
      read : entries_left was l.low l.vector l.count l.counter ≡ vector_of was l.count;
    }
