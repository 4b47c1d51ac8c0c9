-- Undoing the noted stores one by one, from the last back.
use Rattle.std.proofs.lemmas.Bool.{cases_lt}
use Rattle.std.specs.Prelude.{◌≡◌, ℕ, List, [], ◌∷◌, ◌++◌, set, refl, ◌+◌, ◌-◌, ◌<◌, ◌≤◌, min, length, get_or, drop, slice_index_or, slice_set}
use Rattle.std.proofs.Common.{sym, ap, ◌∙◌, ⊎_elim, arith}
use Rattle.std.proofs.lemmas.List.{append_assoc, at_drop_all, at_drop_more, set-set, set-get_or}
use Rattle.staging.specs.Rewind.{note_of, undone, noted_moments, Noted}
use Rattle.staging.specs.declared.traced.Note.{Note}

pub none_undone : (words : List ℕ) (notes : List Note) (n : ℕ) → length notes ≤ n → undone words (drop n notes) ≡ words
none_undone words notes n past = at_drop_all (undone words) notes n past

pub one_undone : (words held : List ℕ) (notes : List Note) (n : ℕ) (note : Note) → 0 < n → n ≤ length notes → note ≡ slice_index_or notes (n - 1) note → held ≡ undone words (drop n notes) → slice_set held note.place note.before ≡ undone words (drop (n - 1) notes)
one_undone words held notes n note some within read here =
    let step = at_drop_more (undone words) notes (n - 1) note (omega arith) in
    let last = get_or notes (n - 1) note in
    let same : n - 1 + 1 ≡ n = omega arith in
    sym (step ∙ ap (λ k. set (undone words (drop k notes)) last.place last.before) same ∙ ap (λ x. set (undone words (drop n notes)) x.place x.before) (sym read) ∙ ap (λ w. set w note.place note.before) (sym here))

pub last_undone : (words : List ℕ) (notes : List Note) (n k : ℕ) → n ≡ min k (length notes) → undone words (drop n notes) ≡ undone words (drop k notes)
last_undone words notes n k least =
    ⊎_elim (λ lt. ap (λ m. undone words (drop m notes)) (omega (arith, least, lt))) (λ le. none_undone words notes n (omega (arith, least, le)) ∙ sym (none_undone words notes k le)) (cases_lt k (length notes))

-- notes behind notes: the later ones are undone first
pub undone-append : (words : List ℕ) (notes more : List Note) → undone words (notes ++ more) ≡ undone (undone words more) notes
undone-append words [] more = refl
undone-append words (note ∷ notes) more = ap (λ w. set w note.place note.before) (undone-append words notes more)

moments_joined : (words : List ℕ) (notes more : List Note) → noted_moments words (notes ++ more) ≡ noted_moments (undone words more) notes ++ noted_moments words more
moments_joined words [] more = refl
moments_joined words (note ∷ notes) more =
    ap (λ w. w ∷ noted_moments words (notes ++ more)) (undone-append words notes more) ∙ ap (λ ms. undone (undone words more) notes ∷ ms) (moments_joined words notes more)

pub noted_joined : (xs ys : List (List ℕ)) (a b c : List ℕ) (na nb nc : List Note) → Noted a na xs b nb → Noted b nb ys c nc → Noted a na (xs ++ ys) c nc
noted_joined xs ys a b c na nb nc here more =
    let first = here.0 in
    let second = more.0 in
    let back : b ≡ undone c second = more.2 in
    (first ++ second, more.1 ∙ ap (λ n. n ++ second) here.1 ∙ append_assoc na first second, here.2 ∙ ap (λ w. undone w first) back ∙ sym (undone-append c first second), ap (λ l. l ++ ys) here.3 ∙ ap (λ w. noted_moments w first ++ ys) back ∙ ap (λ l. noted_moments (undone c second) first ++ l) more.3 ∙ sym (moments_joined c first second))

-- a store and its note
pub store_noted : (words : List ℕ) (place word before : ℕ) → before ≡ slice_index_or words place 4294967295 → words ≡ undone (slice_set words place word) (note_of place before ∷ [])
store_noted words place word before read =
    sym (set-set words place word before ∙ ap (set words place) read ∙ set-get_or words place 4294967295)
