-- What is written is what is read, and nothing else is.
--   Writable v b               a vector and a body that the writer takes
--   Placed o v                 at the place o the vector is sound
--   Fits work cells o v b      and the body is well formed
--   whole o v b                the record, read where it starts
--   ReadsBack v b              the words of a record read back as its vector and its body, whatever follows them; a first
--                              part that is not all of them reads as running out, also of a bad body
--   OnlyWritten work cells o ws    what is read as a record are the words that the writer gives for it
use Rattle.std.specs.Prelude.{◌≡◌, ℕ, ◌+◌, ◌<◌, ◌≤◌, true, List, ◌++◌, length, take, Ok, Err, slice_index, slice_index_or}
use Rattle.work.specs.Kinds.{Kind, WellFormed, fit_payloads}
use Rattle.logs.specs.declared.fault.Stop.TheVariants.{RunsOut}
use Rattle.logs.specs.declared.record.Origin.{Origin}
use Rattle.logs.specs.Words.{record_words, fit_places}
use Rattle.logs.specs.Reading.{Found, record_read}

pub record Writable (v b : List ℕ) : Type 0 where
  pub eight : length v ≡ 8
  pub places : fit_places v ≡ true
  pub some : 1 ≤ length b
  pub few : length b ≤ 16
  pub payloads : fit_payloads b ≡ true

pub record Placed (o : Origin) (v : List ℕ) : Type 0 where
  pub chips_are_there : (chip : ℕ) → o.chips ≤ chip → slice_index v chip ≡ 0
  pub own_not_past_start : slice_index_or v o.chip 0 ≤ o.start

pub record Fits (work : Kind) (cells : ℕ) (o : Origin) (v b : List ℕ) : Type 0 where
  pub placed : Placed o v
  pub well_formed : WellFormed work b cells

abbrev pub whole : Origin → List ℕ → List ℕ → Found
whole o v b = record { end = o.start + length (record_words v b); vector = v; body = b }

pub record ReadsBack (v b : List ℕ) : Type 0 where
  pub whatever_follows : (work : Kind) (cells : ℕ) (o : Origin) → Fits work cells o v b → (rest : List ℕ) → record_read work cells o (record_words v b ++ rest) ≡ Ok (whole o v b)
  pub broken_off_runs_out : (work : Kind) (cells : ℕ) (o : Origin) → Placed o v → (n : ℕ) → n < length (record_words v b) → record_read work cells o (take n (record_words v b)) ≡ Err RunsOut

pub record Written (work : Kind) (cells : ℕ) (o : Origin) (ws : List ℕ) (f : Found) : Type 0 where
  pub writable : Writable f.vector f.body
  pub fits : Fits work cells o f.vector f.body
  pub is_whole : f ≡ whole o f.vector f.body
  pub words : take (length (record_words f.vector f.body)) ws ≡ record_words f.vector f.body

abbrev pub OnlyWritten : Kind → ℕ → Origin → List ℕ → Type 0
OnlyWritten work cells o ws = (f : Found) → record_read work cells o ws ≡ Ok f → Written work cells o ws f
