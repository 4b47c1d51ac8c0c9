-- A record ends behind its start, and stands behind those that are listed already.
use Rattle.std.proofs.Common.{◌≡◌, ℕ, ◌-◌, ◌^◌, ◌<◌, List, [], ◌∷◌, ◌++◌, length, take, drop, Some, None, Ok, Err, Option, Result, sym, refl, ap, ◌∙◌, subst, arith}
use Rattle.std.specs.Option.{ok_or}
use Rattle.std.specs.Result.{IfOk, MatchResult}
use Rattle.std.proofs.lemmas.List.{append_assoc, take_rest}
use Rattle.work.specs.Kinds.{Kind}
use Rattle.logs.specs.Reading.{Found, record_read, answered, read_answer, in_record}
use Rattle.logs.specs.RoundTrip.{Written, OnlyWritten}
use Rattle.logs.specs.declared.fault.RecordFault.{RecordFault}
use Rattle.logs.specs.declared.fault.Stop.{Stop}
use Rattle.logs.specs.declared.fault.Stop.TheVariants.{RunsOut, Fault}
use Rattle.logs.specs.declared.record.Origin.{Origin}
use Rattle.logs.specs.declared.record.Record.{Record}
use Rattle.listing.specs.Kinds.{chosen_kind}
use Rattle.listing.specs.Listings.{Listed, Stands, at_start, found}
use Rattle.listing.specs.Listings.Listed.{one_more, runs_out}
use Rattle.listing.specs.declared.records.Ending.{Ending}
use Rattle.listing.specs.declared.records.Ending.TheVariants.{RunsOut as EndsInWords}
use Rattle.listing.specs.declared.records.Reading.{Reading}

-- a record that is read has a word at least
pub ends_behind : (kind : Kind) (cells : ℕ) (o : Origin) (ws : List ℕ) (r : Record) → OnlyWritten kind cells o ws → Ok (Some r) ≡ read_answer kind cells o ws → o.start < r.end
ends_behind kind cells o ws r only h = on (record_read kind cells o ws) only h
  where
    on : (q : Result Found Stop) → ((f : Found) → q ≡ Ok f → Written kind cells o ws f) → Ok (Some r) ≡ answered q → o.start < r.end
    on (Ok f) only h =
        let end : r.end ≡ f.end = ap (λ (x : Record). x.end) (same r (in_record f) h) in
        omega (arith, end, ap (λ (x : Found). x.end) (only f refl).is_whole)
      where
        same : (x y : Record) → ◌≡◌ {A = Result (Option Record) RecordFault} (Ok (Some x)) (Ok (Some y)) → x ≡ y
        same x y h = cc
    on (Err RunsOut) only h = absurd (cc)
    on (Err (Fault fault)) only h = absurd (cc)

-- a record that is read at a place of 32 bits is the one that is found there
pub found_at : (g : Reading) (ws : List ℕ) (start place : ℕ) (answer : Result (Option Record) RecordFault) → place ≡ start → answer ≡ read_answer (chosen_kind g.kind) g.cells (at_start g place) (take (length ws - start) (drop start ws)) → found g ws start ≡ answer
found_at g ws start place answer here h =
    ap (λ p. read_answer (chosen_kind g.kind) g.cells (at_start g p) (drop start ws)) (sym here)
    ∙ ap (read_answer (chosen_kind g.kind) g.cells (at_start g place)) (sym (take_rest ws start))
    ∙ sym h

-- where a record should start there is one, or the words run out
pub record_or_none : (g : Reading) (ws : List ℕ) (start : ℕ) (o : Option Record) → start < length ws → start < 2 ^ 32 → found g ws start ≡ Ok o → MatchResult (ok_or o (EndsInWords start)) (Stands g ws start) (Listed g ws start [])
record_or_none g ws start (Some r) within near is = (within, near, is)
record_or_none g ws start None within near is = runs_out within near is

pub behind_or_none : (start : ℕ) (o : Option Record) (e : Ending) → ((r : Record) → o ≡ Some r → start < r.end) → IfOk (ok_or o e) (λ r. start < r.end)
behind_or_none start (Some r) e h = h r refl
behind_or_none start None e h = tt

-- one record on
pub listed_on : (g : Reading) (ws : List ℕ) (start : ℕ) (before after : List Record) (r : Record) → after ≡ before ++ r ∷ [] → Stands g ws start r
    → ((records : List Record) (ending : Ending) → Listed g ws start records ending → Listed g ws 0 (before ++ records) ending)
    → (records : List Record) (ending : Ending) → Listed g ws r.end records ending → Listed g ws 0 (after ++ records) ending
listed_on g ws start before after r pushed stands inv records ending rest =
    subst (λ rs. Listed g ws 0 rs ending) (sym (ap (λ rs. rs ++ records) pushed ∙ append_assoc before (r ∷ []) records)) (inv (r ∷ records) ending (one_more stands rest))
