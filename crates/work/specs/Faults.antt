-- The number of each cause of a bad body, as it is printed. Of two that hold, the lesser is answered.
use Rattle.std.specs.Prelude.{ℕ}
use Rattle.work.specs.declared.fault.BodyFault.{BodyFault}
use Rattle.work.specs.declared.fault.BodyFault.TheVariants.{Length, Operation, NumberZero, UnusedField, NoSuchCell, CellOrder}

abbrev pub cause_of : BodyFault → ℕ
cause_of Length = 1
cause_of Operation = 2
cause_of NumberZero = 3
cause_of UnusedField = 4
cause_of NoSuchCell = 5
cause_of CellOrder = 6
