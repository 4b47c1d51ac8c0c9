-- The records of a log, one behind the other.
--   at_start reading start      where a record that starts there stands
--   found reading ws start      what the log ws has where a record should start
--   Stands reading ws start r   the record r starts there
--   Listed reading ws start records ending    from this start on the log has these records, and they end so
use Rattle.std.specs.Prelude.{◌≡◌, ℕ, ◌^◌, ◌<◌, ◌≤◌, List, [], ◌∷◌, length, drop, Some, None, Ok, Err, Option, Result}
use Rattle.logs.specs.Reading.{read_answer}
use Rattle.logs.specs.declared.fault.RecordFault.{RecordFault}
use Rattle.logs.specs.declared.record.Origin.{Origin}
use Rattle.logs.specs.declared.record.Record.{Record}
use Rattle.listing.specs.Kinds.{chosen_kind}
use Rattle.listing.specs.declared.records.Reading.{Reading}
use Rattle.listing.specs.declared.records.Ending.{Ending}
use Rattle.listing.specs.declared.records.Ending.TheVariants.{AllRead, RunsOut, TooFar, Damaged}

abbrev pub at_start : Reading → ℕ → Origin
at_start g start = record { chips = g.chips; chip = g.chip; start = start }

abbrev pub found : Reading → List ℕ → ℕ → Result (Option Record) RecordFault
found g ws start = read_answer (chosen_kind g.kind) g.cells (at_start g start) (drop start ws)

abbrev pub Stands : Reading → List ℕ → ℕ → Record → Type 0
Stands g ws start r = (start < length ws) × (start < 2 ^ 32) × (found g ws start ≡ Ok (Some r))

module _ (g : Reading) (ws : List ℕ) where
  pub data Listed : ℕ → List Record → Ending → Type 0 where
    all_read : {start : ℕ} → length ws ≤ start → Listed start [] AllRead
    runs_out : {start : ℕ} → start < length ws → start < 2 ^ 32 → found g ws start ≡ Ok None → Listed start [] (RunsOut start)
    too_far : {start : ℕ} → start < length ws → 2 ^ 32 ≤ start → Listed start [] (TooFar start)
    damaged : {start : ℕ} {fault : RecordFault} → start < length ws → start < 2 ^ 32 → found g ws start ≡ Err fault → Listed start [] (Damaged fault)
    one_more : {start : ℕ} {r : Record} {records : List Record} {ending : Ending} → Stands g ws start r → Listed r.end records ending → Listed start (r ∷ records) ending
