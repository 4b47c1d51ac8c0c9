use Rattle.std.proofs.Common.{◌≡◌, ◌++◌, map, take}
use Rattle.logs.specs.Words.{body_word}
use Rattle.logs.proofs.writer.push_payloads.Given as goal

abbrev pub invariant-loop-payload : goal.invariant-loop-payload
invariant-loop-payload l = l.words.items ≡ l.initial.words.items ++ map body_word (take l.payload-index l.body)
