-- The words of a record, one more at a time.
use Rattle.std.proofs.Common.{◌≡◌, ℕ, zero, suc, ◌+◌, ◌<◌, ◌≤◌, true, not, eqb, ltb, List, [], ◌∷◌, ◌++◌, length, get_or, take, sym, refl, ap, ◌∙◌, add-zero, arith}
use Rattle.std.specs.List.{count_by, filter}
use Rattle.std.proofs.lemmas.List.Sums.{length-filter, count_by-le-length}
use Rattle.std.proofs.lemmas.List.{append_assoc, length-take-le, take_more}
use Rattle.std.proofs.lemmas.Bool.{ltb-true, and_parts}
use Rattle.std.proofs.lemmas.Bool.Decides.{nat_tests}
use Rattle.work.specs.Kinds.{fit_payloads}
use Rattle.logs.specs.Words.{entry_words}

pub entry_words_append : (chip : ℕ) (xs ys : List ℕ) → entry_words chip (xs ++ ys) ≡ entry_words chip xs ++ entry_words (chip + length xs) ys
entry_words_append chip [] ys = ap (λ k. entry_words k ys) (sym (add-zero chip))
entry_words_append chip (x ∷ xs) ys = grind (arith, nat_tests, entry_words_append (suc chip) xs ys)

-- a vector has a word for each place that is not 0
words_of_places : (chip : ℕ) (v : List ℕ) → length (entry_words chip v) ≡ length (filter (λ place. not (eqb place 0)) v)
words_of_places chip [] = refl
words_of_places chip (place ∷ v) = grind (arith, nat_tests, words_of_places (suc chip) v)

pub entry_words_counted : (chip : ℕ) (v : List ℕ) → length (entry_words chip v) ≡ count_by (λ place. not (eqb place 0)) v
entry_words_counted chip v = words_of_places chip v ∙ length-filter (λ place. not (eqb place 0)) v

pub length_entry_words : (chip : ℕ) (v : List ℕ) → length (entry_words chip v) ≤ length v
length_entry_words chip v = omega (arith, entry_words_counted chip v, count_by-le-length (λ place. not (eqb place 0)) v)

-- a vector's words up to one more chip
pub entry_words_next : (v : List ℕ) (i : ℕ) → i < length v → entry_words 0 (take (i + 1) v) ≡ entry_words 0 (take i v) ++ entry_words i (get_or v i 0 ∷ [])
entry_words_next v i l =
    ap (entry_words 0) (take_more v i 0 l)
    ∙ entry_words_append 0 (take i v) (get_or v i 0 ∷ [])
    ∙ ap (λ k. entry_words 0 (take i v) ++ entry_words k (get_or v i 0 ∷ [])) (omega (arith, length-take-le i v (omega arith)))

-- the words after a chip, with its word behind them if its place has one
pub words_next : (before : List ℕ) (v : List ℕ) (i : ℕ) (now next : List ℕ) → i < length v → now ≡ before ++ entry_words 0 (take i v) → next ≡ now ++ entry_words i (get_or v i 0 ∷ []) → next ≡ before ++ entry_words 0 (take (i + 1) v)
words_next before v i now next within is more =
    more
    ∙ ap (λ ws. ws ++ entry_words i (get_or v i 0 ∷ [])) is
    ∙ append_assoc before (entry_words 0 (take i v)) (entry_words i (get_or v i 0 ∷ []))
    ∙ ap (λ ws. before ++ ws) (sym (entry_words_next v i within))

pub payload_fits : (b : List ℕ) (i : ℕ) → fit_payloads b ≡ true → i < length b → get_or b i 0 < 536870912
payload_fits [] i h l = absurd (omega arith)
payload_fits (p ∷ b) zero h l = ltb-true p 536870912 (and_parts (ltb p 536870912) (fit_payloads b) h).0
payload_fits (p ∷ b) (suc i) h l = payload_fits b i (and_parts (ltb p 536870912) (fit_payloads b) h).1 (omega arith)
