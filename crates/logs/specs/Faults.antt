-- The number of each cause, as it is printed. Of two that a word has, the lesser is answered.
use Rattle.std.specs.Prelude.{ℕ}
use Rattle.logs.specs.declared.fault.Cause.{Cause}
use Rattle.logs.specs.declared.fault.Cause.TheVariants.{UnknownKind, NoHead, BadHead, NoEntry, BadEntry, OwnEntry, NoPayload, Body}

abbrev pub cause_of : Cause → ℕ
cause_of UnknownKind = 1
cause_of NoHead = 2
cause_of BadHead = 3
cause_of NoEntry = 4
cause_of BadEntry = 5
cause_of OwnEntry = 6
cause_of NoPayload = 7
cause_of (Body fault) = 8
