-- What is read of a log where a record should start, word by word.
--   head_of word                 what a head says, or the least cause that it has
--   entry_of o low word          a vector word's chip, from `low` on, and place, or the least cause that it has
--   payload_in word              a body word's payload, or the least cause that it has
--   and_then r f                 the next question, if the one before was not refused
--   placed_at o place r          a cause becomes a fault at a place of the log
--   from_word o place f w        a question to the word at a place, if there is one
--   next_part o ws at f          the same of the word behind the first `at` words of a record
--   entries_read o place low v n ws     the vector v with the n vector words at the front of ws in it
--   payloads_read o place b n ws        the body b with the n payloads at the front of ws behind it
--   parts_read o ws                     head, vector and body at the front of ws
--   record_read work cells o ws         the same as a record, if its body is well formed
--   read_answer work cells o ws         the same as an answer: a record, none since the words run out, or a fault
-- `o` says which chip's log it is, of how many, and where the record starts; `ws` are the log's words from there on.
use Rattle.std.specs.Prelude.{ℕ, zero, suc, ◌+◌, ◌/◌, ◌%◌, Bool, cond, ◌&&◌, List, [], ◌∷◌, ◌++◌, length, drop, Some, None, Ok, Err, Option, Result, ◌==◌, nat_le, nat_lt, slice_index, slice_set}
use Rattle.vector.specs.Format.{kind_of, payload_of, places, chips_at_most, body_at_most}
use Rattle.vector.specs.Vectors.{zeros}
use Rattle.work.specs.Kinds.{Kind}
use Rattle.work.specs.declared.fault.BodyFault.{BodyFault}
use Rattle.logs.specs.declared.fault.Cause.{Cause}
use Rattle.logs.specs.declared.fault.Cause.TheVariants.{UnknownKind, NoHead, BadHead, NoEntry, BadEntry, OwnEntry, NoPayload, Body as BadBody}
use Rattle.logs.specs.declared.fault.RecordFault.{RecordFault}
use Rattle.logs.specs.declared.fault.Stop.{Stop}
use Rattle.logs.specs.declared.fault.Stop.TheVariants.{RunsOut, Fault}
use Rattle.logs.specs.declared.record.Origin.{Origin}
use Rattle.logs.specs.declared.record.Head.{Head}
use Rattle.logs.specs.declared.record.Entry.{Entry}
use Rattle.logs.specs.declared.record.Body.{Body}
use Rattle.logs.specs.declared.record.Record.{Record}
use Rattle.logs.specs.Lists.{padded}

abbrev pub and_then : {X Y E : Type 0} → Result X E → (X → Result Y E) → Result Y E
and_then (Ok x) f = f x
and_then (Err e) f = Err e

-- a word of a kind that a record has at this place, `none` if of another such kind
abbrev pub of_kind : {X : Type 0} → ℕ → Cause → ℕ → Result X Cause → Result X Cause
of_kind kind none word r =
    cond (nat_lt 2 (kind_of word)) (Err UnknownKind) (cond (kind_of word == kind) r (Err none))

-- at most 8 vector words, 1 to 16 body words, and no other bit
abbrev pub head_fits : ℕ → Bool
head_fits payload = nat_le (payload % 16) chips_at_most && (nat_lt 0 (payload / 16) && nat_le (payload / 16) body_at_most)

abbrev pub head_of : ℕ → Result Head Cause
head_of word =
    of_kind 0 NoHead word
    (cond (head_fits (payload_of word)) (Ok (record { entries = payload_of word % 16; payloads = payload_of word / 16 })) (Err BadHead))

-- the chip is there and rises, and the place is not 0
abbrev pub entry_fits : Origin → ℕ → Entry → Bool
entry_fits o low e = nat_le low e.chip && (nat_lt e.chip o.chips && nat_lt 0 e.place)

abbrev pub is_past_start : Origin → Entry → Bool
is_past_start o e = e.chip == o.chip && nat_lt o.start e.place

abbrev pub entry_in : ℕ → Entry
entry_in word = record { chip = payload_of word / places; place = payload_of word % places }

abbrev pub entry_of : Origin → ℕ → ℕ → Result Entry Cause
entry_of o low word =
    of_kind 1 NoEntry word
    (cond (entry_fits o low (entry_in word))
    (cond (is_past_start o (entry_in word)) (Err OwnEntry) (Ok (entry_in word)))
    (Err BadEntry))

abbrev pub payload_in : ℕ → Result ℕ Cause
payload_in word = of_kind 2 NoPayload word (Ok (payload_of word))

abbrev pub fault_of : Origin → ℕ → Cause → RecordFault
fault_of o place cause = record { chip = o.chip; place = place; cause = cause }

abbrev pub fault_at : Origin → ℕ → Cause → Stop
fault_at o place cause = Fault (fault_of o place cause)

abbrev pub placed_at : {X : Type 0} → Origin → ℕ → Result X Cause → Result X Stop
placed_at o place (Ok x) = Ok x
placed_at o place (Err cause) = Err (fault_at o place cause)

abbrev pub from_word : {X : Type 0} → Origin → ℕ → (ℕ → Result X Cause) → Option ℕ → Result X Stop
from_word o place f None = Err RunsOut
from_word o place f (Some word) = placed_at o place (f word)

abbrev pub word_at : List ℕ → ℕ → Option ℕ
word_at ws i = cond (nat_lt i (length ws)) (Some (slice_index ws i)) None

abbrev pub next_part : {X : Type 0} → Origin → List ℕ → ℕ → (ℕ → Result X Cause) → Result X Stop
next_part o ws at f = from_word o (o.start + at) f (word_at ws at)

abbrev pub entries_read : Origin → ℕ → ℕ → List ℕ → ℕ → List ℕ → Result (List ℕ) Stop
entries_read o place low v zero ws = Ok v
entries_read o place low v (suc n) [] = Err RunsOut
entries_read o place low v (suc n) (w ∷ ws) =
    and_then (placed_at o place (entry_of o low w)) (λ e. entries_read o (suc place) (suc e.chip) (slice_set v e.chip e.place) n ws)

abbrev pub payloads_read : Origin → ℕ → List ℕ → ℕ → List ℕ → Result (List ℕ) Stop
payloads_read o place b zero ws = Ok b
payloads_read o place b (suc n) [] = Err RunsOut
payloads_read o place b (suc n) (w ∷ ws) =
    and_then (placed_at o place (payload_in w)) (λ p. payloads_read o (suc place) (b ++ p ∷ []) n ws)

-- a bad body is a fault at the head
abbrev pub body_fault : Result (Unit {0}) BodyFault → Result (Unit {0}) Cause
body_fault (Ok x) = Ok tt
body_fault (Err fault) = Err (BadBody fault)

-- a record by its place behind the last word, its vector and its body
pub record Found : Type 0 where
  pub end : ℕ
  pub vector : List ℕ
  pub body : List ℕ

abbrev pub parts_read : Origin → List ℕ → Result Found Stop
parts_read o ws =
    and_then (next_part o ws 0 head_of) (λ h.
    and_then (entries_read o (o.start + 1) 0 zeros h.entries (drop 1 ws)) (λ v.
    and_then (payloads_read o (o.start + (1 + h.entries)) [] h.payloads (drop (1 + h.entries) ws)) (λ b.
    Ok (record { end = o.start + (1 + h.entries + h.payloads); vector = v; body = b }))))

abbrev pub record_read : Kind → ℕ → Origin → List ℕ → Result Found Stop
record_read work cells o ws =
    and_then (parts_read o ws) (λ f. and_then (placed_at o o.start (body_fault (work.judged f.body cells))) (λ _. Ok f))

abbrev pub in_body : List ℕ → Body
in_body b = record { payloads = padded 16 b; count = length b }

abbrev pub in_record : Found → Record
in_record f = record { end = f.end; vector = f.vector; body = in_body f.body }

abbrev pub answered : Result Found Stop → Result (Option Record) RecordFault
answered (Ok f) = Ok (Some (in_record f))
answered (Err RunsOut) = Ok None
answered (Err (Fault f)) = Err f

abbrev pub read_answer : Kind → ℕ → Origin → List ℕ → Result (Option Record) RecordFault
read_answer work cells o ws = answered (record_read work cells o ws)
