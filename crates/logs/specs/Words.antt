-- A record as words.
--   head_word n m           the head of n vector words and m body words
--   entry_word chip place   a vector word
--   body_word payload       a body word
--   entry_words chip v      the vector words of the places v from this chip on: one for each that is not 0
--   record_words v b        the record with the vector v and the body b
--   fit_places v            each place can be written in a vector word
--   in_words ws             the words as the writer hands them out
--   write_answer v b        the words, or why they cannot be written
use Rattle.std.specs.Prelude.{ℕ, suc, ◌+◌, ◌*◌, Bool, cond, ◌&&◌, List, [], ◌∷◌, ◌++◌, map, length, Ok, Err, Result, ◌==◌, nat_le, nat_lt}
use Rattle.std.specs.List.{list_all}
use Rattle.vector.specs.Format.{payloads, places, body_at_most}
use Rattle.work.specs.Kinds.{fit_payloads}
use Rattle.logs.specs.Lists.{padded}
use Rattle.logs.specs.declared.writer.Words.{Words}
use Rattle.logs.specs.declared.writer.Unwritable.{Unwritable}
use Rattle.logs.specs.declared.writer.Unwritable.TheVariants.{BodyLength, WidePayload, FarPlace}

abbrev pub head_word : ℕ → ℕ → ℕ
head_word n m = n + 16 * m

abbrev pub entry_word : ℕ → ℕ → ℕ
entry_word chip place = payloads + (chip * places + place)

abbrev pub body_word : ℕ → ℕ
body_word payload = 2 * payloads + payload

abbrev pub entry_words : ℕ → List ℕ → List ℕ
entry_words chip [] = []
entry_words chip (place ∷ v) = cond (place == 0) (entry_words (suc chip) v) (entry_word chip place ∷ entry_words (suc chip) v)

abbrev pub record_words : List ℕ → List ℕ → List ℕ
record_words v b = head_word (length (entry_words 0 v)) (length b) ∷ (entry_words 0 v ++ map body_word b)

abbrev pub fit_places : List ℕ → Bool
fit_places v = list_all (λ place. nat_lt place places) v

abbrev pub in_words : List ℕ → Words
in_words ws = record { words = padded 25 ws; count = length ws }

abbrev pub write_answer : List ℕ → List ℕ → Result Words Unwritable
write_answer v b =
    cond (nat_lt 0 (length b) && nat_le (length b) body_at_most)
    (cond (fit_payloads b)
    (cond (fit_places v) (Ok (in_words (record_words v b))) (Err FarPlace))
    (Err WidePayload))
    (Err BodyLength)
