-- Every cause has a log or a body that brings it about.
use Rattle.std.specs.Prelude.{◌≡◌, ℕ, List, [], ◌∷◌, Err}
use Rattle.work.specs.declared.fault.BodyFault.TheVariants.{Length, Operation, NumberZero, UnusedField, NoSuchCell, CellOrder}
use Rattle.work.specs.Values.{values}
use Rattle.commands.specs.Commands.{commands}
use Rattle.logs.specs.declared.fault.Cause.{Cause}
use Rattle.logs.specs.declared.fault.Cause.TheVariants.{UnknownKind, NoHead, BadHead, NoEntry, BadEntry, OwnEntry, NoPayload, Body}
use Rattle.logs.specs.declared.fault.Stop.TheVariants.{RunsOut}
use Rattle.logs.specs.declared.record.Origin.{Origin}
use Rattle.logs.specs.Reading.{record_read, fault_at}

-- the second of two chips, a record that starts at place 3
abbrev pub there : Origin
there = record { chips = 2; chip = 1; start = 3 }

abbrev pub FaultAt : List ℕ → ℕ → Cause → Type 0
FaultAt ws place cause = record_read commands 256 there ws ≡ Err (fault_at there place cause)

pub record EveryCause : Type 0 where
  pub unknown_kind : FaultAt (0x00000031 ∷ 0x60000000 ∷ []) 4 UnknownKind
  pub no_head : FaultAt (0x40000008 ∷ []) 3 NoHead
  pub bad_head : FaultAt (0x00000039 ∷ []) 3 BadHead
  pub no_entry : FaultAt (0x00000031 ∷ 0x44000001 ∷ []) 4 NoEntry
  pub bad_entry : FaultAt (0x00000031 ∷ 0x28000001 ∷ []) 4 BadEntry
  pub own_entry : FaultAt (0x00000031 ∷ 0x24000004 ∷ []) 4 OwnEntry
  pub no_payload : FaultAt (0x00000030 ∷ 0x44000001 ∷ 0x20000008 ∷ []) 5 NoPayload
  pub bad_body : FaultAt (0x00000030 ∷ 0x44000001 ∷ 0x40000007 ∷ 0x400002bc ∷ []) 3 (Body NoSuchCell)
  -- a body that would be bad counts for nothing where the words run out
  pub no_cause : record_read commands 256 there (0x00000030 ∷ 0x44000001 ∷ 0x40000007 ∷ []) ≡ Err RunsOut

-- bodies of commands at 256 cells, and of values at 12
pub record EveryBodyCause : Type 0 where
  pub command_length : commands.judged (0x04000001 ∷ 8 ∷ []) 256 ≡ Err Length
  pub command_operation : commands.judged (0x10000001 ∷ 8 ∷ 0 ∷ []) 256 ≡ Err Operation
  pub command_number : commands.judged (0x04000000 ∷ 8 ∷ 0 ∷ []) 256 ≡ Err NumberZero
  pub command_field : commands.judged (0x04000001 ∷ 0x908 ∷ 0 ∷ []) 256 ≡ Err UnusedField
  pub command_cell : commands.judged (0x04000001 ∷ 7 ∷ 0 ∷ []) 256 ≡ Err NoSuchCell
  pub command_order : commands.judged (0x08000001 ∷ 0x808 ∷ 0 ∷ []) 256 ≡ Err CellOrder
  pub values_length : values.judged (8 ∷ 5 ∷ 9 ∷ []) 12 ≡ Err Length
  pub values_cell : values.judged (9 ∷ 5 ∷ 9 ∷ 5 ∷ 12 ∷ 5 ∷ []) 12 ≡ Err NoSuchCell
  pub values_order : values.judged (9 ∷ 5 ∷ 9 ∷ 5 ∷ []) 12 ≡ Err CellOrder
