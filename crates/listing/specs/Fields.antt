-- The field of a command that has more than its bits.
--   first_wide f         the first such field; of a command that has none, the last
--   encoded f            the payloads of a command, or its first field that is too wide
--   Wide f field         the field is too wide
use Rattle.std.specs.Prelude.{ℕ, ◌≤◌, cond, ◌||◌, ◌⊎◌, List, Ok, Err, Result, nat_le}
use Rattle.commands.specs.Commands.{fit_fields, payloads_of}
use Rattle.commands.specs.declared.commands.Command.{Command}
use Rattle.listing.specs.declared.field.Field.{Field}
use Rattle.listing.specs.declared.field.Field.TheVariants.{Operation, Sender, Number, Cell, Spare, Amount}

abbrev pub first_wide : Command → Field
first_wide f =
    cond (nat_le 8 f.operation) Operation
    (cond (nat_le 8 f.sender) Sender
    (cond (nat_le 8388608 f.number) Number
    (cond (nat_le 256 f.a || (nat_le 256 f.b || nat_le 256 f.c)) Cell
    (cond (nat_le 32 f.spare) Spare Amount))))

abbrev pub encoded : Command → Result (List ℕ) Field
encoded f = cond (fit_fields f) (Ok (payloads_of f)) (Err (first_wide f))

abbrev pub Wide : Command → Field → Type 0
Wide f Operation = 8 ≤ f.operation
Wide f Sender = 8 ≤ f.sender
Wide f Number = 8388608 ≤ f.number
Wide f Cell = (256 ≤ f.a) ⊎ ((256 ≤ f.b) ⊎ (256 ≤ f.c))
Wide f Spare = 32 ≤ f.spare
Wide f Amount = 536870912 ≤ f.amount
