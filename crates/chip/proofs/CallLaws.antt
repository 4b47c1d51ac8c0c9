-- The answers of a chip's calls that are accepted.
use Rattle.std.proofs.Common.{◌≡◌, ℕ, ◌<◌, cond, ltb, List, [], ◌∷◌, ◌++◌, length, get_or, Ok, Err, ap, ◌∙◌}
use Rattle.std.proofs.lemmas.Bool.{ne_eqb, lt-ltb}
use Rattle.chip.specs.Calls.{append_answer, append_leaves, read_answer}
use Rattle.chip.specs.declared.refusal.Refusal.TheVariants.{BlankWord, ChipFull, NoSuchWord}

module _ (room : ℕ) (words : List ℕ) (word : ℕ) where
  pub taken_answer : (word ≡ 4294967295 → ⊥) → length words < room → append_answer room words word ≡ Ok tt
  taken_answer ne lt = ap (λ b. cond b (Err BlankWord) (cond (ltb (length words) room) (Ok tt) (Err ChipFull))) (ne_eqb word 4294967295 ne) ∙ ap (λ b. cond b (Ok tt) (Err ChipFull)) (lt-ltb (length words) room lt)

  pub taken_leaves : (word ≡ 4294967295 → ⊥) → length words < room → append_leaves room words word ≡ words ++ word ∷ []
  taken_leaves ne lt = ap (λ b. cond b words (cond (ltb (length words) room) (words ++ word ∷ []) words)) (ne_eqb word 4294967295 ne) ∙ ap (λ b. cond b (words ++ word ∷ []) words) (lt-ltb (length words) room lt)

pub read_within : (words : List ℕ) (place : ℕ) → place < length words → read_answer words place ≡ Ok (get_or words place 0)
read_within words place lt = ap (λ b. cond b (Ok (get_or words place 0)) (Err NoSuchWord)) (lt-ltb place (length words) lt)
