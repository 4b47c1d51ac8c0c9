-- What a kind of work means, and what it has to keep.
--   top                      the largest value of a cell
--   Kind                     whether a body is well formed at a number of cells; the cells that it names; its effect on a table
--   WellFormed kind body cells    the body has no fault at this number of cells
--   nth xs i                 the element at an index, if there is one
--   asks holds fault next    a question, its fault, and what comes if it holds
--   writing, reading x       the cell x, named for writing or only for reading
--   fit_payloads body        each payload has at most 29 bits
--   rising names             each cell is larger than the one before
--   within cells names       each cell is one of the table's
--   names_writing names      some cell is named for writing
--   written names x          the cell x is named for writing
--   Alike names t u          the tables t and u have the same values in the named cells
--   WithinTop t              no value of the table passes the top
--   Lawful kind              the laws
use Rattle.std.specs.Prelude.{◌≡◌, ℕ, zero, suc, ◌≤◌, Bool, true, false, cond, ◌&&◌, ◌||◌, List, [], ◌∷◌, length, Some, None, Ok, Err, Option, Result, ◌==◌, nat_lt, slice_index}
use Rattle.std.specs.List.{AllByRecursion}
use Rattle.vector.specs.Format.{payloads}
use Rattle.work.specs.declared.fault.BodyFault.{BodyFault}
use Rattle.work.specs.declared.name.Name.{Name}

abbrev pub top : ℕ
top = 536870911

pub record Kind : Type 0 where
  pub judged : List ℕ → ℕ → Result (Unit {0}) BodyFault
  pub names : List ℕ → List Name
  pub effect : List ℕ → List ℕ → List ℕ

abbrev pub WellFormed : Kind → List ℕ → ℕ → Type 0
WellFormed k body cells = k.judged body cells ≡ Ok tt

abbrev pub nth : {X : Type 0} → List X → ℕ → Option X
nth [] i = None
nth (x ∷ xs) zero = Some x
nth (x ∷ xs) (suc i) = nth xs i

-- a question before the next ones: the fault if it does not hold
abbrev pub asks : Bool → BodyFault → Result (Unit {0}) BodyFault → Result (Unit {0}) BodyFault
asks holds fault next = cond holds next (Err fault)

abbrev pub writing : ℕ → Name
writing x = record { cell = x; writes = true }

abbrev pub reading : ℕ → Name
reading x = record { cell = x; writes = false }

abbrev pub fit_payloads : List ℕ → Bool
fit_payloads [] = true
fit_payloads (p ∷ ps) = nat_lt p payloads && fit_payloads ps

abbrev pub rising_from : ℕ → List Name → Bool
rising_from low [] = true
rising_from low (n ∷ ns) = nat_lt low (suc n.cell) && rising_from (suc n.cell) ns

abbrev pub rising : List Name → Bool
rising ns = rising_from 0 ns

abbrev pub within : ℕ → List Name → Bool
within cells [] = true
within cells (n ∷ ns) = nat_lt n.cell cells && within cells ns

abbrev pub names_writing : List Name → Bool
names_writing [] = false
names_writing (n ∷ ns) = n.writes || names_writing ns

abbrev pub written : List Name → ℕ → Bool
written [] x = false
written (n ∷ ns) x = (n.writes && n.cell == x) || written ns x

abbrev pub Alike : List Name → List ℕ → List ℕ → Type 0
Alike ns t u = AllByRecursion (λ (n : Name). slice_index t n.cell ≡ slice_index u n.cell) ns

abbrev pub WithinTop : List ℕ → Type 0
WithinTop t = (x : ℕ) → slice_index t x ≤ top

-- of every well-formed body at a number of cells, and of every table of so many
pub record Lawful (k : Kind) : Type 0 where
  pub some_named : (body : List ℕ) (cells : ℕ) → WellFormed k body cells → 1 ≤ length (k.names body)
  pub few_named : (body : List ℕ) (cells : ℕ) → WellFormed k body cells → length (k.names body) ≤ 8
  pub named_once_in_rising_number : (body : List ℕ) (cells : ℕ) → WellFormed k body cells → rising (k.names body) ≡ true
  pub named_are_there : (body : List ℕ) (cells : ℕ) → WellFormed k body cells → within cells (k.names body) ≡ true
  pub one_for_writing : (body : List ℕ) (cells : ℕ) → WellFormed k body cells → names_writing (k.names body) ≡ true
  pub all_payloads_fit : (body : List ℕ) (cells : ℕ) → WellFormed k body cells → AllByRecursion (λ p. p ≤ top) body
  pub keeps_length : (body table : List ℕ) → length (k.effect body table) ≡ length table
  pub only_written_change : (body : List ℕ) (cells : ℕ) → WellFormed k body cells → (table : List ℕ) → length table ≡ cells → (x : ℕ) → written (k.names body) x ≡ false → slice_index (k.effect body table) x ≡ slice_index table x
  pub alike_stay_alike : (body : List ℕ) (cells : ℕ) → WellFormed k body cells → (t u : List ℕ) → length t ≡ cells → length u ≡ cells → Alike (k.names body) t u → Alike (k.names body) (k.effect body t) (k.effect body u)
  pub stays_within_top : (body : List ℕ) (cells : ℕ) → WellFormed k body cells → (table : List ℕ) → length table ≡ cells → WithinTop table → WithinTop (k.effect body table)
