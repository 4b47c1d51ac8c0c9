-- Values: a body is pairs of a cell and its new value. A payload that is left over counts for nothing.
--   pairs_of body               the pairs, each a cell and its value
--   values_names body           each pair names its cell for writing
--   values_effect body table    each pair's cell gets its value, one after the other
--   values_judged body cells    the least cause that holds
--   values                      the kind
use Rattle.std.specs.Prelude.{ℕ, ◌%◌, Bool, ◌&&◌, List, [], ◌∷◌, length, Ok, Result, ◌==◌, nat_lt, slice_set}
use Rattle.work.specs.declared.fault.BodyFault.{BodyFault}
use Rattle.work.specs.declared.fault.BodyFault.TheVariants.{Length, NoSuchCell, CellOrder}
use Rattle.work.specs.declared.name.Name.{Name}
use Rattle.work.specs.Kinds.{Kind, asks, fit_payloads, within, rising, writing}

abbrev pub pairs_of : List ℕ → List (List ℕ)
pairs_of [] = []
pairs_of (cell ∷ []) = []
pairs_of (cell ∷ value ∷ rest) = (cell ∷ value ∷ []) ∷ pairs_of rest

abbrev pub values_names : List ℕ → List Name
values_names [] = []
values_names (cell ∷ []) = []
values_names (cell ∷ value ∷ rest) = writing cell ∷ values_names rest

abbrev pub values_effect : List ℕ → List ℕ → List ℕ
values_effect [] table = table
values_effect (cell ∷ []) table = table
values_effect (cell ∷ value ∷ rest) table = values_effect rest (slice_set table cell value)

-- 2, 4, .. or 16 payloads
abbrev pub pairs_fit : ℕ → Bool
pairs_fit count = nat_lt 0 count && (nat_lt count 17 && count % 2 == 0)

abbrev pub values_judged : List ℕ → ℕ → Result (Unit {0}) BodyFault
values_judged body cells =
    asks (pairs_fit (length body) && fit_payloads body) Length
    (asks (within cells (values_names body)) NoSuchCell
    (asks (rising (values_names body)) CellOrder (Ok tt)))

abbrev pub values : Kind
values = record { judged = values_judged; names = values_names; effect = values_effect }
