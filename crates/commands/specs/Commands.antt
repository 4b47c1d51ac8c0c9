-- Commands: a body is three payloads. Each of the first eight cells has the latest number of one sender.
--   fields body                 the fields of the three payloads, a missing payload as 0
--   fit_fields f                each field has no more than its bits
--   body_of f                   the three payloads that have the fields, if they fit
--   FieldsGivenBack f body      the body, if there is one, has the fields f
--   is_operation f              ADD, CLOSE or LATCH
--   unused_are_zero f           the fields that the operation does not use are 0
--   cells_there cells f         the cells that the operation uses are there and not the senders'
--   cells_apart f               no two of them are the same
--   placed n names              a name put into its place among rising ones
--   command_names f             the sender's cell, then the operation's cells in rising number
--   acted f table               what the operation does
--   above_latest f table        the number is above its sender's latest
--   command_effect f table      nothing if the number is not above the sender's latest, else the number is stored and the operation acts
--   command_judged body cells   the least cause that holds
--   commands                    the kind
--   run_each bodies table       the commands of the bodies, run one after the other
--   OnceOnly body table         a number that is not above its sender's changes nothing, so a command that was run never acts again
use Rattle.std.specs.Prelude.{◌≡◌, ℕ, ◌+◌, ◌*◌, ◌/◌, ◌%◌, ◌≤◌, min, Bool, true, false, cond, not, ◌&&◌, List, [], ◌∷◌, length, Some, None, Ok, Option, Result, ◌==◌, nat_le, nat_lt, slice_index, slice_set}
use Rattle.std.specs.List.{AllByRecursion}
use Rattle.vector.specs.Format.{payloads}
use Rattle.commands.specs.declared.commands.Command.{Command}
use Rattle.work.specs.declared.fault.BodyFault.{BodyFault}
use Rattle.work.specs.declared.fault.BodyFault.TheVariants.{Length, Operation, NumberZero, UnusedField, NoSuchCell, CellOrder}
use Rattle.work.specs.declared.name.Name.{Name}
use Rattle.work.specs.Kinds.{Kind, asks, top, fit_payloads, writing, reading}

abbrev pub fields_of : ℕ → ℕ → ℕ → Command
fields_of p q amount = record {
  operation = p / 67108864;
  sender = p / 8388608 % 8;
  number = p % 8388608;
  a = q % 256;
  b = q / 256 % 256;
  c = q / 65536 % 256;
  spare = q / 16777216;
  amount = amount;
}

abbrev pub fields : List ℕ → Command
fields body = fields_of (slice_index body 0) (slice_index body 1) (slice_index body 2)

abbrev pub fit_fields : Command → Bool
fit_fields f =
    nat_lt f.operation 8 && (nat_lt f.sender 8 && (nat_lt f.number 8388608 && (nat_lt f.a 256 && (nat_lt f.b 256 && (nat_lt f.c 256 && (nat_lt f.spare 32 && nat_lt f.amount payloads))))))

abbrev pub payloads_of : Command → List ℕ
payloads_of f =
    (f.operation * 67108864 + f.sender * 8388608 + f.number) ∷ (f.spare * 16777216 + f.c * 65536 + f.b * 256 + f.a) ∷ f.amount ∷ []

abbrev pub body_of : Command → Option (List ℕ)
body_of f = cond (fit_fields f) (Some (payloads_of f)) None

abbrev pub FieldsGivenBack : Command → Option (List ℕ) → Type 0
FieldsGivenBack f None = Unit {0}
FieldsGivenBack f (Some body) = fields body ≡ f

-- by operation: what an ADD, a CLOSE, a LATCH and any other number has
abbrev pub by_operation : {X : Type 0} → Command → X → X → X → X → X
by_operation f add close latch other =
    cond (f.operation == 1) add (cond (f.operation == 2) close (cond (f.operation == 3) latch other))

abbrev pub is_operation : Command → Bool
is_operation f = by_operation f true true true false

abbrev pub unused_are_zero : Command → Bool
unused_are_zero f =
    (f.spare == 0) && by_operation f (f.b == 0 && f.c == 0) (f.c == 0 && f.amount == 0) true true

abbrev pub usable : ℕ → ℕ → Bool
usable cells x = nat_lt 7 x && nat_lt x cells

abbrev pub cells_there : ℕ → Command → Bool
cells_there cells f =
    usable cells f.a && by_operation f true (usable cells f.b) (usable cells f.b && usable cells f.c) true

abbrev pub cells_apart : Command → Bool
cells_apart f =
    by_operation f true (not (f.a == f.b)) (not (f.a == f.b) && (not (f.a == f.c) && not (f.b == f.c))) true

abbrev pub placed : Name → List Name → List Name
placed n [] = n ∷ []
placed n (m ∷ ms) = cond (nat_lt n.cell m.cell) (n ∷ m ∷ ms) (m ∷ placed n ms)

abbrev pub command_names : Command → List Name
command_names f =
    writing f.sender ∷ by_operation f
    (writing f.a ∷ [])
    (placed (writing f.a) (writing f.b ∷ []))
    (placed (reading f.a) (placed (reading f.b) (writing f.c ∷ [])))
    []

abbrev pub acted : Command → List ℕ → List ℕ
acted f table = by_operation f
    (slice_set table f.a (min top (slice_index table f.a + f.amount)))
    (slice_set (slice_set table f.b (slice_index table f.a)) f.a 0)
    (cond (nat_le f.amount (slice_index table f.b)) (slice_set table f.c (slice_index table f.a)) table)
    table

abbrev pub above_latest : Command → List ℕ → Bool
above_latest f table = nat_lt (slice_index table f.sender) f.number

abbrev pub command_effect : Command → List ℕ → List ℕ
command_effect f table =
    cond (above_latest f table) (acted f (slice_set table f.sender f.number)) table

abbrev pub command_judged : List ℕ → ℕ → Result (Unit {0}) BodyFault
command_judged body cells =
    let f = fields body in
    asks (length body == 3 && fit_payloads body) Length
    (asks (is_operation f) Operation
    (asks (not (f.number == 0)) NumberZero
    (asks (unused_are_zero f) UnusedField
    (asks (cells_there cells f) NoSuchCell
    (asks (cells_apart f) CellOrder (Ok tt))))))

abbrev pub commands : Kind
commands = record { judged = command_judged; names = λ body. command_names (fields body); effect = λ body table. command_effect (fields body) table }

abbrev pub run_each : List (List ℕ) → List ℕ → List ℕ
run_each [] table = table
run_each (body ∷ bodies) table = run_each bodies (command_effect (fields body) table)

pub record OnceOnly (body table : List ℕ) : Type 0 where
  pub old_number_changes_nothing : (fields body).number ≤ slice_index table (fields body).sender → command_effect (fields body) table ≡ table
  -- once it was run, it changes nothing any more, whatever well-formed commands are run in between
  pub never_acts_again : (cells : ℕ) → command_judged body cells ≡ Ok tt → length table ≡ cells → (between : List (List ℕ)) → AllByRecursion (λ other. command_judged other cells ≡ Ok tt) between → let later = run_each between (command_effect (fields body) table) in command_effect (fields body) later ≡ later
