-- What a call of a reader answers, and what it leaves.
--   next_of r f          a question to the reader's next word
--   IsPart r judged result    the same, where `judged` says which answers the question can have
--   vector_of, body_of r n    the vector and the body that the reader's next n words say
--   moved r n            the reader with so many more words passed
--   passed r result      the reader behind the next word if that was found sound, and else as it was
use Rattle.std.specs.Prelude.{◌≡◌, ℕ, ◌+◌, cond, List, [], drop, Ok, Err, Result, MatchOption, is_ok}
use Rattle.vector.specs.Vectors.{zeros}
use Rattle.logs.specs.declared.fault.Cause.{Cause}
use Rattle.logs.specs.declared.fault.Stop.{Stop}
use Rattle.logs.specs.declared.fault.Stop.TheVariants.{RunsOut}
use Rattle.logs.specs.declared.reader.Reader.{Reader}
use Rattle.logs.specs.declared.record.Body.{Body}
use Rattle.logs.specs.Reading.{and_then, next_part, placed_at, word_at, entries_read, payloads_read, in_body}

abbrev pub next_of : {X : Type 0} → Reader → (ℕ → Result X Cause) → Result X Stop
next_of r f = next_part r.origin r.words.now r.at f

abbrev pub IsPart : {X : Type 0} → Reader → (ℕ → Result X Cause → Type 0) → Result X Stop → Type 0
IsPart {X} r judged result =
    MatchOption (word_at r.words.now r.at) (result ≡ Err RunsOut)
    (λ word. (answer : Result X Cause) × judged word answer × (result ≡ placed_at r.origin (r.origin.start + r.at) answer))

abbrev pub vector_of : Reader → ℕ → Result (List ℕ) Stop
vector_of r n = entries_read r.origin (r.origin.start + r.at) 0 zeros n (drop r.at r.words.now)

abbrev pub body_of : Reader → ℕ → Result Body Stop
body_of r n =
    and_then (payloads_read r.origin (r.origin.start + r.at) [] n (drop r.at r.words.now)) (λ b. Ok (in_body b))

abbrev pub moved : Reader → ℕ → Reader
moved r n = record { words = r.words; origin = r.origin; at = r.at + n }

abbrev pub passed : {X : Type 0} → Reader → Result X Stop → Reader
passed r result = cond (is_ok result) (moved r 1) r
