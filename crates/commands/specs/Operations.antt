-- The operations.
--   number_of_operation operation    the number that stands for it in a body
--   operation_in number              the operation whose number it is, if there is one
--   operation_judged number          the same, or the fault of a body with that number
use Rattle.std.specs.Prelude.{ℕ, cond, ◌==◌, Option, Some, None, Result, ok_or}
use Rattle.work.specs.declared.fault.BodyFault.{BodyFault}
use Rattle.work.specs.declared.fault.BodyFault.TheVariants as fault
use Rattle.commands.specs.declared.operation.Operation.{Operation}
use Rattle.commands.specs.declared.operation.Operation.TheVariants.{Add, Close, Latch}

abbrev pub number_of_operation : Operation → ℕ
number_of_operation Add = 1
number_of_operation Close = 2
number_of_operation Latch = 3

abbrev pub operation_in : ℕ → Option Operation
operation_in number =
    cond (number == number_of_operation Add) (Some Add)
    (cond (number == number_of_operation Close) (Some Close)
    (cond (number == number_of_operation Latch) (Some Latch) None))

abbrev pub operation_judged : ℕ → Result Operation BodyFault
operation_judged number = ok_or (operation_in number) fault.Operation
