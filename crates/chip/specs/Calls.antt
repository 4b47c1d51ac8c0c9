-- What the calls of every chip answer and leave.
--   append_answer room words word    refused for the blank word, then for want of room
--   append_leaves room words word    the accepted words afterwards
--   read_answer words place          the word at a place, or a refusal
--   Moments passes s t words count   the calls from `s` to `t` passed only moments at which a mount finds
--                                    a first part of `words` with at least `count` of them
use Rattle.std.specs.Prelude.{ℕ, cond, List, [], ◌∷◌, ◌++◌, length, Ok, Err, Result, ◌==◌, nat_lt, slice_index}
use Rattle.std.specs.List.{AllByRecursion}
use Rattle.chip.specs.Cut.{Kept}
use Rattle.chip.specs.declared.refusal.Refusal.{Refusal}
use Rattle.chip.specs.declared.refusal.Refusal.TheVariants.{BlankWord, ChipFull, NoSuchWord}

abbrev pub append_answer : ℕ → List ℕ → ℕ → Result (Unit {0}) Refusal
append_answer room words word =
    cond (word == 4294967295) (Err BlankWord) (cond (nat_lt (length words) room) (Ok tt) (Err ChipFull))

abbrev pub append_leaves : ℕ → List ℕ → ℕ → List ℕ
append_leaves room words word =
    cond (word == 4294967295) words (cond (nat_lt (length words) room) (words ++ word ∷ []) words)

abbrev pub read_answer : List ℕ → ℕ → Result ℕ Refusal
read_answer words place = cond (nat_lt place (length words)) (Ok (slice_index words place)) (Err NoSuchWord)

abbrev pub Moments : {C : Type 0} → (C → List (List ℕ) → C → Type 0) → C → C → List ℕ → ℕ → Type 0
Moments passes s t words count =
    (ls : List (List ℕ)) × passes s ls t × AllByRecursion (Kept words count) ls
