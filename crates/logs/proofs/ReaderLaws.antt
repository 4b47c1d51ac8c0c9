-- What is read, one word on.
use Rattle.std.proofs.Common.{◌≡◌, ℕ, suc, ◌+◌, ◌-◌, ◌<◌, ◌≤◌, Bool, true, false, cond, eqb, ltb, leb, ◌⊎◌, List, [], ◌∷◌, ◌++◌, length, get_or, drop, set, Some, None, Ok, Err, Option, Result, sym, refl, ap, ◌∙◌, subst, inl, inr, add-one, add_assoc, arith}
use Rattle.std.proofs.lemmas.List.{drop_more, drop_all}
use Rattle.std.proofs.lemmas.Bool.{lt-ltb, le-ltb, leb-true, cases_lt, ltb-true, eqb-true, and_parts}
use Rattle.vector.specs.Format.{kind_of}
use Rattle.logs.specs.declared.fault.Cause.{Cause}
use Rattle.logs.specs.declared.fault.Cause.TheVariants.{NoEntry}
use Rattle.logs.specs.declared.fault.Stop.{Stop}
use Rattle.logs.specs.declared.fault.Stop.TheVariants.{RunsOut}
use Rattle.logs.specs.declared.record.Origin.{Origin}
use Rattle.logs.specs.declared.record.Entry.{Entry}
use Rattle.vector.specs.Vectors.{zeros}
use Rattle.work.specs.Kinds.{Kind}
use Rattle.logs.specs.declared.record.Head.{Head}
use Rattle.logs.specs.declared.reader.Reader.{Reader}
use Rattle.logs.specs.Readers.{moved, next_of}
use Rattle.logs.specs.Reading.{body_fault, head_of, Found, parts_read, record_read, and_then, of_kind, entry_of, entry_fits, is_past_start, entry_in, payload_in, placed_at, from_word, word_at, next_part, entries_read, payloads_read}

no_word : (ws : List ℕ) (at : ℕ) → length ws ≤ at → word_at ws at ≡ None
no_word ws at h = ap (λ b. cond b (Some (get_or ws at 0)) None) (le-ltb at (length ws) h)

pub some_word : (ws : List ℕ) (at : ℕ) → at < length ws → word_at ws at ≡ Some (get_or ws at 0)
some_word ws at h = ap (λ b. cond b (Some (get_or ws at 0)) None) (lt-ltb at (length ws) h)

-- a question to the first of some words, and what comes behind it
abbrev first_part : {X Y : Type 0} → Origin → ℕ → (ℕ → Result X Cause) → (ℕ → X → List ℕ → Result Y Stop) → List ℕ → Result Y Stop
first_part o place f next [] = Err RunsOut
first_part o place f next (w ∷ ws) = and_then (placed_at o place (f w)) (λ x. next (suc place) x ws)

-- the first of the words behind `at` is the next one
first_is_next : {X Y : Type 0} (o : Origin) (ws : List ℕ) (at : ℕ) (f : ℕ → Result X Cause) (next : ℕ → X → List ℕ → Result Y Stop) → first_part o (o.start + at) f next (drop at ws) ≡ and_then (next_part o ws at f) (λ x. next (o.start + (at + 1)) x (drop (at + 1) ws))
first_is_next {X} {Y} o ws at f next = by_word (cases_lt at (length ws))
  where
    behind : X → Result Y Stop
    behind x = next (o.start + (at + 1)) x (drop (at + 1) ws)

    on : (w : Result X Cause) → and_then (placed_at o (o.start + at) w) (λ x. next (suc (o.start + at)) x (drop (at + 1) ws)) ≡ and_then (placed_at o (o.start + at) w) behind
    on (Ok x) = ap (λ k. next k x (drop (at + 1) ws)) (omega arith)
    on (Err c) = refl

    by_word : (at < length ws) ⊎ (length ws ≤ at) → first_part o (o.start + at) f next (drop at ws) ≡ and_then (next_part o ws at f) behind
    by_word (inl h) =
        ap (first_part o (o.start + at) f next) (drop_more ws at 0 h)
        ∙ on (f (get_or ws at 0))
        ∙ sym (ap (λ w. and_then (from_word o (o.start + at) f w) behind) (some_word ws at h))
    by_word (inr h) =
        ap (first_part o (o.start + at) f next) (drop_all at ws h)
        ∙ sym (ap (λ w. and_then (from_word o (o.start + at) f w) behind) (no_word ws at h))

one_left : (n k : ℕ) → k < n → n - k ≡ suc (n - (k + 1))
one_left n k h = omega arith

pub moved_more : (r : Reader) (k : ℕ) → moved (moved r k) 1 ≡ moved r (k + 1)
moved_more r k =
    let of : ℕ → Reader = λ at. record { words = r.words; origin = r.origin; at = at } in
    ap of (omega arith)

-- what the words behind the first k of n say of a vector, and of a body
abbrev pub entries_left : Reader → ℕ → List ℕ → ℕ → ℕ → Result (List ℕ) Stop
entries_left s low v n k = entries_read s.origin (s.origin.start + (s.at + k)) low v (n - k) (drop (s.at + k) s.words.now)

abbrev pub payloads_left : Reader → List ℕ → ℕ → ℕ → Result (List ℕ) Stop
payloads_left s b n k = payloads_read s.origin (s.origin.start + (s.at + k)) b (n - k) (drop (s.at + k) s.words.now)

-- the next of those words first
next_left : {X Y : Type 0} (s now : Reader) (k : ℕ) (f : ℕ → Result X Cause) (r : Result X Stop) (behind : ℕ → X → List ℕ → Result Y Stop) → now ≡ moved s k → r ≡ next_of now f → first_part s.origin (s.origin.start + (s.at + k)) f behind (drop (s.at + k) s.words.now) ≡ and_then r (λ x. behind (s.origin.start + (s.at + (k + 1))) x (drop (s.at + (k + 1)) s.words.now))
next_left s now k f r behind passed is =
    first_is_next s.origin s.words.now (s.at + k) f behind
    ∙ ap (λ at. and_then (next_of (moved s k) f) (λ x. behind (s.origin.start + at) x (drop at s.words.now))) (add_assoc s.at k 1)
    ∙ ap (λ q. and_then q (λ x. behind (s.origin.start + (s.at + (k + 1))) x (drop (s.at + (k + 1)) s.words.now))) (sym (is ∙ ap (λ reader. next_of reader f) passed))

pub entries_turn : (s now : Reader) (low : ℕ) (v : List ℕ) (n k : ℕ) (r : Result Entry Stop) → k < n → now ≡ moved s k → r ≡ next_of now (entry_of now.origin low) → entries_left s low v n k ≡ and_then r (λ e. entries_left s (e.chip + 1) (set v e.chip e.place) n (k + 1))
entries_turn s now low v n k r h passed is =
    ap (λ m. entries_read s.origin (s.origin.start + (s.at + k)) low v m (drop (s.at + k) s.words.now)) (one_left n k h)
    ∙ as_first (drop (s.at + k) s.words.now)
    ∙ next_left s now k (entry_of s.origin low) r (λ place e us. entries_read s.origin place (e.chip + 1) (set v e.chip e.place) (n - (k + 1)) us) passed
    (is ∙ ap (λ reader. next_of now (entry_of reader.origin low)) passed)
  where
    as_first : (us : List ℕ) → entries_read s.origin (s.origin.start + (s.at + k)) low v (suc (n - (k + 1))) us ≡ first_part s.origin (s.origin.start + (s.at + k)) (entry_of s.origin low) (λ place e rest. entries_read s.origin place (e.chip + 1) (set v e.chip e.place) (n - (k + 1)) rest) us
    as_first [] = refl
    as_first (w ∷ us) = simp add-one

pub payloads_turn : (s now : Reader) (b : List ℕ) (n k : ℕ) (r : Result ℕ Stop) → k < n → now ≡ moved s k → r ≡ next_of now payload_in → payloads_left s b n k ≡ and_then r (λ p. payloads_left s (b ++ p ∷ []) n (k + 1))
payloads_turn s now b n k r h passed is =
    ap (λ m. payloads_read s.origin (s.origin.start + (s.at + k)) b m (drop (s.at + k) s.words.now)) (one_left n k h)
    ∙ as_first (drop (s.at + k) s.words.now)
    ∙ next_left s now k payload_in r (λ place p us. payloads_read s.origin place (b ++ p ∷ []) (n - (k + 1)) us) passed is
  where
    as_first : (us : List ℕ) → payloads_read s.origin (s.origin.start + (s.at + k)) b (suc (n - (k + 1))) us ≡ first_part s.origin (s.origin.start + (s.at + k)) payload_in (λ place p rest. payloads_read s.origin place (b ++ p ∷ []) (n - (k + 1)) rest) us
    as_first [] = refl
    as_first (w ∷ us) = refl

pub chip_below_eight : (word : ℕ) → (entry_in word).chip < 8
chip_below_eight word = omega arith

pub then_ok : {X Y E : Type 0} (r : Result X E) (x : X) (f : X → Result Y E) → r ≡ Ok x → and_then r f ≡ f x
then_ok r x f e = ap (λ q. and_then q f) e

pub then_err : {X Y E : Type 0} (r : Result X E) (y : E) (f : X → Result Y E) → r ≡ Err y → and_then r f ≡ Err y
then_err r y f e = ap (λ q. and_then q f) e

-- what a vector word that is read names
pub cond_ok : {X : Type 0} (b : Bool) (r : Result X Cause) (c : Cause) (x : X) → cond b r (Err c) ≡ Ok x → (b ≡ true) × (r ≡ Ok x)
cond_ok true r c x h = (refl, h)
cond_ok false r c x h = absurd (cc)

cond_err : {X : Type 0} (b : Bool) (r : Result X Cause) (c : Cause) (x : X) → cond b (Err c) r ≡ Ok x → (b ≡ false) × (r ≡ Ok x)
cond_err false r c x h = (refl, h)
cond_err true r c x h = absurd (cc)

pub of_kind_ok : {X : Type 0} (kind : ℕ) (none : Cause) (word : ℕ) (r : Result X Cause) (x : X) → of_kind kind none word r ≡ Ok x → (kind_of word ≡ kind) × (r ≡ Ok x)
of_kind_ok kind none word r x h =
    let known = cond_err (ltb 2 (kind_of word)) _ _ x h in
    let here = cond_ok (eqb (kind_of word) kind) _ _ x known.1 in
    (eqb-true (kind_of word) kind here.0, here.1)

pub ok_same : {X E : Type 0} (x y : X) → ◌≡◌ {A = Result X E} (Ok x) (Ok y) → x ≡ y
ok_same x y h = cc

pub record EntryRead (o : Origin) (low word : ℕ) (e : Entry) : Type 0 where
  pub kind : kind_of word ≡ 1
  pub is : entry_in word ≡ e
  pub rises : low ≤ e.chip
  pub there : e.chip < o.chips
  pub some : 0 < e.place
  pub own : is_past_start o e ≡ false

pub entry_read : (o : Origin) (low word : ℕ) (e : Entry) → entry_of o low word ≡ Ok e → EntryRead o low word e
entry_read o low word e h =
    let kind = of_kind_ok 1 NoEntry word _ e h in
    let fits = cond_ok (entry_fits o low (entry_in word)) _ _ e kind.1 in
    let own = cond_err (is_past_start o (entry_in word)) _ _ e fits.1 in
    let is : entry_in word ≡ e = ok_same (entry_in word) e own.1 in
    let here : entry_fits o low e ≡ true = subst (λ (x : Entry). entry_fits o low x ≡ true) is fits.0 in
    let low-chip = and_parts (leb low e.chip) _ here in
    let rest = and_parts (ltb e.chip o.chips) _ low-chip.1 in
    record {
      kind = kind.0;
      is = is;
      rises = leb-true low e.chip low-chip.0;
      there = ltb-true e.chip o.chips rest.0;
      some = ltb-true 0 e.place rest.1;
      own = subst (λ (x : Entry). is_past_start o x ≡ false) is own.0;
    }

pub placed_ok : {X : Type 0} (o : Origin) (place : ℕ) (r : Result X Cause) (x : X) → placed_at o place r ≡ Ok x → r ≡ Ok x
placed_ok o place (Ok y) x h = cc
placed_ok o place (Err c) x h = absurd (cc)

pub from_some : {X : Type 0} (o : Origin) (place : ℕ) (f : ℕ → Result X Cause) (w : Option ℕ) (x : X) → from_word o place f w ≡ Ok x → (word : ℕ) × (w ≡ Some word) × (f word ≡ Ok x)
from_some o place f None x h = absurd (cc)
from_some o place f (Some word) x h = (word, refl, placed_ok o place (f word) x h)

-- an answer that came through a question came from an accepted one
pub then_from : {X Y E : Type 0} (r : Result X E) (f : X → Result Y E) (y : Y) → and_then r f ≡ Ok y → (x : X) × (r ≡ Ok x) × (f x ≡ Ok y)
then_from (Ok x) f y h = (x, refl, h)
then_from (Err e) f y h = absurd (cc)

pub parts_of : (o : Origin) (ws : List ℕ) (h : Head) (v b : List ℕ) → next_part o ws 0 head_of ≡ Ok h → entries_read o (o.start + 1) 0 zeros h.entries (drop 1 ws) ≡ Ok v → payloads_read o (o.start + (1 + h.entries)) [] h.payloads (drop (1 + h.entries) ws) ≡ Ok b → parts_read o ws ≡ Ok (record { end = o.start + (1 + h.entries + h.payloads); vector = v; body = b })
parts_of o ws h v b head vector body =
    then_ok (next_part o ws 0 head_of) h _ head
    ∙ then_ok (entries_read o (o.start + 1) 0 zeros h.entries (drop 1 ws)) v _ vector
    ∙ then_ok (payloads_read o (o.start + (1 + h.entries)) [] h.payloads (drop (1 + h.entries) ws)) b _ body

-- a reading that stops
pub stops_in_vector : (work : Kind) (cells : ℕ) (o : Origin) (ws : List ℕ) (h : Head) (s : Stop) → next_part o ws 0 head_of ≡ Ok h → entries_read o (o.start + 1) 0 zeros h.entries (drop 1 ws) ≡ Err s → record_read work cells o ws ≡ Err s
stops_in_vector work cells o ws h s head vector =
    then_err (parts_read o ws) s _
    (then_ok (next_part o ws 0 head_of) h _ head
    ∙ then_err (entries_read o (o.start + 1) 0 zeros h.entries (drop 1 ws)) s _ vector)

pub stops_in_body : (work : Kind) (cells : ℕ) (o : Origin) (ws : List ℕ) (h : Head) (v : List ℕ) (s : Stop) → next_part o ws 0 head_of ≡ Ok h → entries_read o (o.start + 1) 0 zeros h.entries (drop 1 ws) ≡ Ok v → payloads_read o (o.start + (1 + h.entries)) [] h.payloads (drop (1 + h.entries) ws) ≡ Err s → record_read work cells o ws ≡ Err s
stops_in_body work cells o ws h v s head vector body =
    then_err (parts_read o ws) s _
    (then_ok (next_part o ws 0 head_of) h _ head
    ∙ then_ok (entries_read o (o.start + 1) 0 zeros h.entries (drop 1 ws)) v _ vector
    ∙ then_err (payloads_read o (o.start + (1 + h.entries)) [] h.payloads (drop (1 + h.entries) ws)) s _ body)

pub record_of : (work : Kind) (cells : ℕ) (o : Origin) (ws : List ℕ) (f : Found) (r : Result (Unit {0}) Cause) → parts_read o ws ≡ Ok f → body_fault (work.judged f.body cells) ≡ r → record_read work cells o ws ≡ and_then (placed_at o o.start r) (λ _. Ok f)
record_of work cells o ws f r parts body =
    then_ok (parts_read o ws) f _ parts ∙ ap (λ q. and_then (placed_at o o.start q) (λ _. Ok f)) body
