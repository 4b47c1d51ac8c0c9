use Rattle.std.proofs.Common.{◌≡◌, ◌++◌, take}
use Rattle.logs.specs.Words.{entry_words}
use Rattle.logs.proofs.writer.push_entries.Given as goal

abbrev pub invariant-loop-chip : goal.invariant-loop-chip
invariant-loop-chip l = l.words.items ≡ l.initial.words.items ++ entry_words 0 (take l.chip l.place-items)
