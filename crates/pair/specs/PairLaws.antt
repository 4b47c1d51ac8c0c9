-- Two chips as one: words, moments and what is left at a cut.
use Rattle.chip.proofs.CallLaws.{read_within}
use Rattle.chip.specs.declared.refusal.Refusal.TheVariants.{PairTooLarge, FirstNotFull}
use Rattle.chip.specs.declared.refusal.Refusal.{Refusal}
use Rattle.chip.specs.Calls.{read_answer}
use Rattle.std.specs.Prelude.{◌≡◌, ℕ, ◌+◌, ◌<◌, ◌≤◌, List, [], ◌∷◌, ◌++◌, map, length, drop, ◌-◌, Bool, false, cond, ◌&&◌, Some, None, Ok, ◌≢◌, nat_lt, refl}
use Rattle.std.proofs.Common.{⊎_elim, inl, inr, sym, ap, subst, ◌∙◌, arith}
use Rattle.std.specs.List.{AllByRecursion}
use Rattle.std.proofs.lemmas.List.{append-nil, append_assoc, length-append, take_all, take-append-drop, nil_from_length, get_or_append_left, get_or-append_right}
use Rattle.std.proofs.lemmas.Bool.{cases_lt, lt-ltb, le-ltb, and_from, and_left, and_right}
use Rattle.chip.specs.Cut.{Kept, Gapless}
use Rattle.pair.specs.Pair.{pair_refusal, pair_early, PairOrdered}
use Rattle.chip.specs.Finding.{kept_front}

pub pair_bounded : (a b : List ℕ) (ra rb sa sb : ℕ) → sa ≤ length a → length a ≤ ra → sb ≤ length b → length b ≤ rb → PairOrdered ra rb (length a) (length b) sa → (sa + sb ≤ length (a ++ b)) × (length (a ++ b) ≤ ra + rb) × (ra + rb ≤ 1048576)
pair_bounded a b ra rb sa sb ha ka hb kb ordered =
    let long = length-append a b in
    (omega arith, omega arith, ordered.within)

-- what is found is a first part, so the words begin with it
pub kept_split : (words : List ℕ) (low : ℕ) (found : List ℕ) → Kept words low found → words ≡ found ++ drop (length found) words
kept_split words low found kept =
    sym (ap (λ l. l ++ drop (length found) words) kept.first_part ∙ take-append-drop (length found) words)

pub kept_all : (words : List ℕ) (low : ℕ) (found : List ℕ) → Kept words low found → low ≡ length words → found ≡ words
kept_all words low found kept all = kept.first_part ∙ take_all (length found) words (omega (arith, kept.enough))

pub kept_none : (words : List ℕ) (low : ℕ) (found : List ℕ) → Kept words low found → length words ≤ 0 → found ≡ []
kept_none words low found kept none =
    let same : words ≡ found ++ drop (length found) words = kept_split words low found kept in
    nil_from_length found (omega (arith, ap length same, length-append found (drop (length found) words)))

-- found on both: nothing on the second, or all on the first
pub kept_on_first : (a b : List ℕ) (sa low : ℕ) (found none : List ℕ) → Kept a sa found → none ≡ [] → low ≤ sa → Kept (a ++ b) low (found ++ none)
kept_on_first a b sa low found none kept empty below =
    let whole : found ++ none ≡ found = ap (λ l. found ++ l) empty ∙ append-nil found in
    subst (λ l. Kept (a ++ b) low l) (sym whole) (kept_front found (drop (length found) a ++ b) (a ++ b) low (ap (λ l. l ++ b) (kept_split a sa found kept) ∙ append_assoc found (drop (length found) a) b) (omega (arith, kept.enough)))

pub kept_on_second : (a b : List ℕ) (sb low : ℕ) (full found : List ℕ) → full ≡ a → Kept b sb found → low ≤ length a + sb → Kept (a ++ b) low (full ++ found)
kept_on_second a b sb low full found same kept below =
    subst (λ l. Kept (a ++ b) low (l ++ found)) (sym same) (kept_front (a ++ found) (drop (length found) b) (a ++ b) low (ap (λ l. a ++ l) (kept_split b sb found kept) ∙ sym (append_assoc a found (drop (length found) b))) (simp length-append (omega (arith, kept.enough))))

-- a pair keeps what its chips keep
pub pair_keeps : (a b : List ℕ) (ra rb sa sb : ℕ) (la lb : List ℕ) → Kept a sa la → Kept b sb lb → PairOrdered ra rb (length a) (length b) sa → Kept (a ++ b) (sa + sb) (la ++ lb)
pair_keeps a b ra rb sa sb la lb ka kb ordered = ⊎_elim behind before (cases_lt 0 (length b))
  where
    behind : 0 < length b → Kept (a ++ b) (sa + sb) (la ++ lb)
    behind some =
        let all = ordered.settled some in
        kept_on_second a b sb (sa + sb) la lb (kept_all a sa la ka all) kb (omega (arith, all))

    before : length b ≤ 0 → Kept (a ++ b) (sa + sb) (la ++ lb)
    before none =
        let empty = kept_none b sb lb kb none in
        kept_on_first a b sa (sa + sb) la lb ka empty (omega (arith, ap length empty, kb.enough))

-- gapless on the second behind a fixed front, and on the first before nothing
pub gapless_behind : (front : List ℕ) (xs : List (List ℕ)) (b c : List ℕ) → Gapless b xs c → Gapless (front ++ b) (map (λ l. front ++ l) xs) (front ++ c)
gapless_behind front [] b c here = ap (λ l. front ++ l) here
gapless_behind front (x ∷ xs) b c here =
    (⊎_elim (λ e. inl (ap (λ l. front ++ l) e)) (λ e. inr (e.0, ap (λ l. front ++ l) e.1 ∙ sym (append_assoc front b (e.0 ∷ [])))) here.0, gapless_behind front xs x c here.1)

pub gapless_before : (none : List ℕ) (xs : List (List ℕ)) (a c : List ℕ) → none ≡ [] → Gapless a xs c → Gapless (a ++ none) (map (λ l. l ++ none) xs) (c ++ none)
gapless_before none [] a c empty here = ap (λ l. l ++ none) here
gapless_before none (x ∷ xs) a c empty here =
    let bare : (l : List ℕ) → l ++ none ≡ l = λ l. ap (λ m. l ++ m) empty ∙ append-nil l in
    (⊎_elim (λ e. inl (ap (λ l. l ++ none) e)) (λ e. inr (e.0, bare x ∙ e.1 ∙ ap (λ l. l ++ e.0 ∷ []) (sym (bare a)))) here.0, gapless_before none xs x c empty here.1)

pub gapless_same : (now : List ℕ) (back : List ℕ) (xs : List (List ℕ)) (last : List ℕ) → AllByRecursion (λ l. l ≡ now) xs → last ≡ now → Gapless (now ++ back) (map (λ l. l ++ back) xs) (last ++ back)
gapless_same now back [] last all e = ap (λ l. l ++ back) (sym e)
gapless_same now back (x ∷ xs) last all e =
    (inl (ap (λ l. l ++ back) all.0), subst (λ n. Gapless (n ++ back) (map (λ l. l ++ back) xs) (last ++ back)) (sym all.0) (gapless_same now back xs last all.1 e))

-- one word more
pub grows_second : (a b : List ℕ) (w : ℕ) → a ++ (b ++ w ∷ []) ≡ (a ++ b) ++ w ∷ []
grows_second a b w = sym (append_assoc a b (w ∷ []))

pub grows_first : (a b : List ℕ) (w : ℕ) → length b ≤ 0 → (a ++ w ∷ []) ++ b ≡ (a ++ b) ++ w ∷ []
grows_first a b w none =
    let empty : b ≡ [] = nil_from_length b (omega arith) in
    ap (λ l. (a ++ w ∷ []) ++ l) empty ∙ append-nil (a ++ w ∷ []) ∙ ap (λ l. l ++ w ∷ []) (sym (ap (λ l. a ++ l) empty ∙ append-nil a))

-- reading through both
module _ (a b : List ℕ) (place : ℕ) (there : place < length a + length b) where
  inside : place < length (a ++ b)
  inside = omega (arith, length-append a b)

  pub read_first : place < length a → read_answer a place ≡ read_answer (a ++ b) place
  read_first below =
      read_within a place below ∙ ap Ok (sym (get_or_append_left a b 0 place below)) ∙ sym (read_within (a ++ b) place inside)

  pub read_second : length a ≤ place → read_answer b (place - length a) ≡ read_answer (a ++ b) place
  read_second above =
      read_within b (place - length a) (omega arith) ∙ ap Ok (sym (get_or-append_right a b (length a) place 0 refl above)) ∙ sym (read_within (a ++ b) place inside)

-- what is found is no longer than the words
pub kept_short : (words : List ℕ) (low : ℕ) (found : List ℕ) → Kept words low found → length found ≤ length words
kept_short words low found kept =
    omega (arith, ap length (kept_split words low found kept), length-append found (drop (length found) words))

-- why two chips make no pair
module _ (ra rb ca cb : ℕ) where
  pub refused_large : 1048576 < ra + rb → pair_refusal ra rb ca cb ≡ Some PairTooLarge
  refused_large large = ap (λ t. cond t (Some PairTooLarge) (cond (nat_lt ca ra && nat_lt 0 cb) (Some FirstNotFull) None)) (lt-ltb 1048576 (ra + rb) large)

  pub refused_by_order : ra + rb ≤ 1048576 → pair_refusal ra rb ca cb ≡ cond (nat_lt ca ra && nat_lt 0 cb) (Some FirstNotFull) None
  refused_by_order small = ap (λ t. cond t (Some PairTooLarge) (cond (nat_lt ca ra && nat_lt 0 cb) (Some FirstNotFull) None)) (le-ltb 1048576 (ra + rb) small)

  pub refused_gap : ra + rb ≤ 1048576 → ca < ra → 0 < cb → pair_refusal ra rb ca cb ≡ Some FirstNotFull
  refused_gap small gap some = refused_by_order small ∙ ap (λ t. cond t (Some FirstNotFull) None) (and_from (nat_lt ca ra) (nat_lt 0 cb) (lt-ltb ca ra gap) (lt-ltb 0 cb some))

  pub not_refused : ra + rb ≤ 1048576 → (0 < cb → ra ≤ ca) → pair_refusal ra rb ca cb ≡ None
  not_refused small full =
      refused_by_order small ∙ ap (λ t. cond t (Some FirstNotFull) None) (⊎_elim (λ some. and_left (nat_lt ca ra) (nat_lt 0 cb) (le-ltb ca ra (full some))) (λ none. and_right (nat_lt ca ra) (nat_lt 0 cb) (le-ltb 0 cb none)) (cases_lt 0 cb))

  pub some_is_not_none : (why : Refusal) → pair_refusal ra rb ca cb ≡ None → pair_refusal ra rb ca cb ≢ Some why
  some_is_not_none why none some =
      let zero_one : ◌≡◌ {A = ℕ} 0 1 = cc in
      omega arith

  pub made_within : pair_refusal ra rb ca cb ≡ None → ra + rb ≤ 1048576
  made_within none = ⊎_elim (λ large. absurd (some_is_not_none PairTooLarge none (refused_large large))) (λ small. small) (cases_lt 1048576 (ra + rb))

  pub made_full : pair_refusal ra rb ca cb ≡ None → 0 < cb → ra ≤ ca
  made_full none some = ⊎_elim (λ gap. absurd (some_is_not_none FirstNotFull none (refused_gap (made_within none) gap some))) (λ full. full) (cases_lt ca ra)

-- how many are settled after one more word
module _ (ra ca cb sa sb ea eb : ℕ) where
  abbrev choice : Bool → Bool → ℕ
  choice behind gap = cond behind (sa + eb) (cond gap (ea + sb) (ca + eb))

  pub early_behind : 0 < cb → pair_early ra ca cb sa sb ea eb ≡ sa + eb
  early_behind some = ap (λ b. choice b (nat_lt ca ra)) (lt-ltb 0 cb some)

  pub early_before : cb ≤ 0 → ca < ra → pair_early ra ca cb sa sb ea eb ≡ ea + sb
  early_before none gap = ap (λ b. choice b (nat_lt ca ra)) (le-ltb 0 cb none) ∙ ap (choice false) (lt-ltb ca ra gap)

  pub early_first_behind : cb ≤ 0 → ra ≤ ca → pair_early ra ca cb sa sb ea eb ≡ ca + eb
  early_first_behind none full = ap (λ b. choice b (nat_lt ca ra)) (le-ltb 0 cb none) ∙ ap (choice false) (le-ltb ca ra full)
