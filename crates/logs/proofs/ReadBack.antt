-- The words of a record read back as its vector and its body.
use Rattle.std.proofs.Common.{◌≡◌, ℕ, zero, suc, ◌+◌, ◌-◌, ◌*◌, ◌/◌, ◌%◌, ◌<◌, ◌≤◌, true, false, cond, eqb, ltb, leb, ◌⊎◌, List, [], ◌∷◌, ◌++◌, map, length, get_or, take, drop, set, replicate, Ok, Err, Result, sym, refl, ap, ◌∙◌, subst, inl, inr, add-one, one-add, arith}
use Rattle.std.proofs.Math.Seq.{take-append-add}
use Rattle.std.proofs.lemmas.List.{append-nil, append_assoc, length-append, length_push, length-map, set_at, take-append-le, drop_at}
use Rattle.std.proofs.lemmas.Nat.{div-mul-add, mod-mul-add}
use Rattle.std.proofs.lemmas.Bool.{lt-ltb, le-ltb, le-leb, eq-eqb, ltb-true, eqb-true, eqb-false, and_from, and_parts, cases_lt, cond-true, cond-false, cond_both}
use Rattle.std.proofs.lemmas.Bool.Decides.{nat_tests}
use Rattle.vector.specs.Format.{kind_of, payload_of}
use Rattle.vector.specs.Vectors.{zeros}
use Rattle.work.specs.Kinds.{Kind, WellFormed, fit_payloads}
use Rattle.logs.specs.declared.fault.Cause.{Cause}
use Rattle.logs.specs.declared.fault.Cause.TheVariants.{NoHead, NoEntry, BadEntry, OwnEntry, NoPayload}
use Rattle.logs.specs.declared.fault.Stop.{Stop}
use Rattle.logs.specs.declared.fault.Stop.TheVariants.{RunsOut}
use Rattle.logs.specs.declared.record.Origin.{Origin}
use Rattle.logs.specs.declared.record.Head.{Head}
use Rattle.logs.specs.declared.record.Entry.{Entry}
use Rattle.logs.specs.Words.{head_word, entry_word, body_word, entry_words, record_words, fit_places}
use Rattle.logs.specs.Reading.{and_then, of_kind, head_of, head_fits, entry_of, entry_fits, entry_in, is_past_start, payload_in, placed_at, next_part, from_word, entries_read, payloads_read, body_fault, Found, record_read}
use Rattle.logs.specs.RoundTrip.{Writable, Placed, whole, ReadsBack}
use Rattle.logs.proofs.WriterLaws.{length_entry_words}
use Rattle.logs.proofs.ReaderLaws.{some_word, parts_of, record_of, stops_in_vector, stops_in_body}

-- a word of the kind that is asked for
kind_is : {X : Type 0} (kind : ℕ) (none : Cause) (word : ℕ) (r : Result X Cause) → kind ≤ 2 → kind_of word ≡ kind → of_kind kind none word r ≡ r
kind_is kind none word r low is =
    cond-false (ltb 2 (kind_of word)) _ _ (le-ltb 2 (kind_of word) (omega arith)) ∙ cond-true (eqb (kind_of word) kind) _ _ (eq-eqb (kind_of word) kind is)

pub head_back : (n m : ℕ) → n ≤ 8 → 1 ≤ m → m ≤ 16 → head_of (head_word n m) ≡ Ok (record { entries = n; payloads = m })
head_back n m few some most =
    let word = head_word n m in
    let payload : payload_of word ≡ m * 16 + n = omega arith in
    let entries : payload_of word % 16 ≡ n = ap (λ x. x % 16) payload ∙ mod-mul-add m 16 n (omega arith) in
    let payloads : payload_of word / 16 ≡ m = ap (λ x. x / 16) payload ∙ div-mul-add m 16 n (omega arith) in
    let fits : head_fits (payload_of word) ≡ true =
    and_from (leb (payload_of word % 16) 8) _ (le-leb (payload_of word % 16) 8 (omega arith))
    (and_from (ltb 0 (payload_of word / 16)) _ (lt-ltb 0 (payload_of word / 16) (omega arith)) (le-leb (payload_of word / 16) 16 (omega arith))) in
    let of : ℕ → ℕ → Head = λ x y. record { entries = x; payloads = y } in
    kind_is 0 NoHead word _ (omega arith) (omega arith)
    ∙ cond-true (head_fits (payload_of word)) _ _ fits
    ∙ ap (λ x. Ok (of x (payload_of word / 16))) entries
    ∙ ap (λ y. Ok (of n y)) payloads

entry_is : (chip place : ℕ) → chip < 8 → place < 67108864 → entry_in (entry_word chip place) ≡ record { chip = chip; place = place }
entry_is chip place few near =
    let word = entry_word chip place in
    let of : ℕ → ℕ → Entry = λ x y. record { chip = x; place = y } in
    let payload : payload_of word ≡ chip * 67108864 + place = omega arith in
    let at-chip : payload_of word / 67108864 ≡ chip = omega arith in
    let at_place : payload_of word % 67108864 ≡ place = omega arith in
    ap (λ x. of x (payload_of word % 67108864)) at-chip ∙ ap (of chip) at_place

not_past : (o : Origin) (chip place : ℕ) → (chip ≡ o.chip → place ≤ o.start) → is_past_start o (record { chip = chip; place = place }) ≡ false
not_past o chip place own = grind (arith, nat_tests)

pub entry_back : (o : Origin) (low chip place : ℕ) → low ≤ chip → chip < o.chips → chip < 8 → 0 < place → place < 67108864 → (chip ≡ o.chip → place ≤ o.start) → entry_of o low (entry_word chip place) ≡ Ok (record { chip = chip; place = place })
entry_back o low chip place rises there few some near own =
    let word = entry_word chip place in
    let e : Entry = record { chip = chip; place = place } in
    let is : entry_in word ≡ e = entry_is chip place few near in
    let fits : entry_fits o low e ≡ true =
    and_from (leb low chip) _ (le-leb low chip rises) (and_from (ltb chip o.chips) _ (lt-ltb chip o.chips there) (lt-ltb 0 place some)) in
    kind_is 1 NoEntry word _ (omega arith) (omega arith)
    ∙ ap (λ x. cond (entry_fits o low x) (cond (is_past_start o x) (Err OwnEntry) (Ok x)) (Err BadEntry)) is
    ∙ cond-true (entry_fits o low e) _ _ fits
    ∙ cond-false (is_past_start o e) _ _ (not_past o chip place own)

pub payload_back : (p : ℕ) → p < 536870912 → payload_in (body_word p) ≡ Ok p
payload_back p fits =
    let payload : payload_of (body_word p) ≡ p = omega arith in
    kind_is 2 NoPayload (body_word p) _ (omega arith) (omega arith) ∙ ap (λ x. Ok x) payload

-- places of a vector from a chip on that are sound at an origin
abbrev pub Sound : Origin → ℕ → List ℕ → Type 0
Sound o chip [] = Unit {0}
Sound o chip (p ∷ ps) = ((p < 67108864) × (chip < 8) × (0 < p → chip < o.chips) × (chip ≡ o.chip → p ≤ o.start)) × Sound o (suc chip) ps

-- one place more of a vector is read, or stays 0
more_read : (front : List ℕ) (p n : ℕ) → front ++ p ∷ replicate n 0 ≡ (front ++ p ∷ []) ++ replicate n 0
more_read front p n = sym (append_assoc front (p ∷ []) (replicate n 0))

entry_passes : (o : Origin) (place low : ℕ) (front : List ℕ) (chip p : ℕ) (more n : ℕ) (ws : List ℕ) → length front ≡ chip → low ≤ chip → chip < o.chips → chip < 8 → 0 < p → p < 67108864 → (chip ≡ o.chip → p ≤ o.start) → entries_read o place low (front ++ replicate (suc more) 0) (suc n) (entry_word chip p ∷ ws) ≡ entries_read o (suc place) (suc chip) ((front ++ p ∷ []) ++ replicate more 0) n ws
entry_passes o place low front chip p more n ws long rises there few some near own =
    let v = front ++ replicate (suc more) 0 in
    let next : Entry → Result (List ℕ) Stop = λ e. entries_read o (suc place) (suc e.chip) (set v e.chip e.place) n ws in
    ap (λ r. and_then (placed_at o place r) next) (entry_back o low chip p rises there few some near own)
    ∙ ap (λ u. entries_read o (suc place) (suc chip) u n ws) (set_at front 0 (replicate more 0) p chip long ∙ more_read front p more)

pushed_long : (front : List ℕ) (p chip : ℕ) → length front ≡ chip → length (front ++ p ∷ []) ≡ suc chip
pushed_long front p chip long = length_push front p ∙ add-one (length front) ∙ ap suc long

-- a list that has a word in front only where a place is not 0
by_place : (p : ℕ) (P : List ℕ → Type 0) (xs : List ℕ) (w : ℕ) → (p ≡ 0 → P xs) → (0 < p → P (w ∷ xs)) → P (cond (eqb p 0) xs (w ∷ xs))
by_place p P xs w none some = cond_both (eqb p 0) xs (w ∷ xs) P (λ e. none (eqb-true p 0 e)) (λ e. some (positive e))
  where
    positive : eqb p 0 ≡ false → 0 < p
    positive e = omega (arith, eqb-false p 0 e)

pub entries_back : (o : Origin) (place low : ℕ) (front : List ℕ) (chip : ℕ) (ps rest : List ℕ) → length front ≡ chip → low ≤ chip → Sound o chip ps → entries_read o place low (front ++ replicate (length ps) 0) (length (entry_words chip ps)) (entry_words chip ps ++ rest) ≡ Ok (front ++ ps)
entries_back o place low front chip [] rest long rises sound = refl
entries_back o place low front chip (p ∷ ps) rest long rises sound =
    let words = entry_words (suc chip) ps in
    let ends = length ps in
    by_place p (λ es. entries_read o place low (front ++ replicate (suc ends) 0) (length es) (es ++ rest) ≡ Ok (front ++ p ∷ ps)) words (entry_word chip p)
    (λ none.
    ap (λ u. entries_read o place low u (length words) (words ++ rest)) (more_read front 0 ends)
    ∙ entries_back o place low (front ++ 0 ∷ []) (suc chip) ps rest (pushed_long front 0 chip long) (omega arith) sound.1
    ∙ ap (λ u. Ok u) (append_assoc front (0 ∷ []) ps ∙ ap (λ q. front ++ q ∷ ps) (sym none)))
    (λ some.
    entry_passes o place low front chip p ends (length words) (words ++ rest) long rises (sound.0.2 some) sound.0.1 some sound.0.0 sound.0.3
    ∙ entries_back o (suc place) (suc chip) (front ++ p ∷ []) (suc chip) ps rest (pushed_long front p chip long) (omega arith) sound.1
    ∙ ap (λ u. Ok u) (append_assoc front (p ∷ []) ps))

-- the words end at an entry that is not 0, or behind it
short_behind : (o : Origin) (place low : ℕ) (front : List ℕ) (chip p : ℕ) (ps : List ℕ) (n : ℕ) → ((m : ℕ) → m < length (entry_words (suc chip) ps) → entries_read o (suc place) (suc chip) ((front ++ p ∷ []) ++ replicate (length ps) 0) (length (entry_words (suc chip) ps)) (take m (entry_words (suc chip) ps)) ≡ Err RunsOut) → length front ≡ chip → low ≤ chip → Sound o chip (p ∷ ps) → 0 < p → n < suc (length (entry_words (suc chip) ps)) → entries_read o place low (front ++ replicate (suc (length ps)) 0) (suc (length (entry_words (suc chip) ps))) (take n (entry_word chip p ∷ entry_words (suc chip) ps)) ≡ Err RunsOut
short_behind o place low front chip p ps zero behind long rises sound some short = refl
short_behind o place low front chip p ps (suc m) behind long rises sound some short =
    let words = entry_words (suc chip) ps in
    entry_passes o place low front chip p (length ps) (length words) (take m words) long rises (sound.0.2 some) sound.0.1 some sound.0.0 sound.0.3
    ∙ behind m (omega arith)

pub entries_short : (o : Origin) (place low : ℕ) (front : List ℕ) (chip : ℕ) (ps : List ℕ) (n : ℕ) → length front ≡ chip → low ≤ chip → Sound o chip ps → n < length (entry_words chip ps) → entries_read o place low (front ++ replicate (length ps) 0) (length (entry_words chip ps)) (take n (entry_words chip ps)) ≡ Err RunsOut
entries_short o place low front chip [] n long rises sound short = absurd (omega arith)
entries_short o place low front chip (p ∷ ps) n long rises sound short =
    let words = entry_words (suc chip) ps in
    let ends = length ps in
    let by = by_place p (λ es. n < length es → entries_read o place low (front ++ replicate (suc ends) 0) (length es) (take n es) ≡ Err RunsOut) words (entry_word chip p) in
    by
    (λ none within.
    ap (λ u. entries_read o place low u (length words) (take n words)) (more_read front 0 ends)
    ∙ entries_short o place low (front ++ 0 ∷ []) (suc chip) ps n (pushed_long front 0 chip long) (omega arith) sound.1 within)
    (λ some within.
    short_behind o place low front chip p ps n (λ m le. entries_short o (suc place) (suc chip) (front ++ p ∷ []) (suc chip) ps m (pushed_long front p chip long) (omega arith) sound.1 le) long rises sound some within)
    short

payload_passes : (o : Origin) (place : ℕ) (b : List ℕ) (p n : ℕ) (ws : List ℕ) → p < 536870912 → payloads_read o place b (suc n) (body_word p ∷ ws) ≡ payloads_read o (suc place) (b ++ p ∷ []) n ws
payload_passes o place b p n ws fits =
    ap (λ r. and_then (placed_at o place r) (λ q. payloads_read o (suc place) (b ++ q ∷ []) n ws)) (payload_back p fits)

first_fits : (p : ℕ) (ps : List ℕ) → fit_payloads (p ∷ ps) ≡ true → (p < 536870912) × (fit_payloads ps ≡ true)
first_fits p ps fit =
    let parts = and_parts (ltb p 536870912) (fit_payloads ps) fit in
    (ltb-true p 536870912 parts.0, parts.1)

pub payloads_back : (o : Origin) (place : ℕ) (b ps rest : List ℕ) → fit_payloads ps ≡ true → payloads_read o place b (length ps) (map body_word ps ++ rest) ≡ Ok (b ++ ps)
payloads_back o place b [] rest fit = ap (λ u. Ok u) (sym (append-nil b))
payloads_back o place b (p ∷ ps) rest fit =
    payload_passes o place b p (length ps) (map body_word ps ++ rest) (first_fits p ps fit).0
    ∙ payloads_back o (suc place) (b ++ p ∷ []) ps rest (first_fits p ps fit).1
    ∙ ap (λ u. Ok u) (append_assoc b (p ∷ []) ps)

pub payloads_short : (o : Origin) (place : ℕ) (b ps : List ℕ) (n : ℕ) → fit_payloads ps ≡ true → n < length ps → payloads_read o place b (length ps) (take n (map body_word ps)) ≡ Err RunsOut
payloads_short o place b [] n fit short = absurd (omega arith)
payloads_short o place b (p ∷ ps) zero fit short = refl
payloads_short o place b (p ∷ ps) (suc n) fit short =
    payload_passes o place b p (length ps) (take n (map body_word ps)) (first_fits p ps fit).0
    ∙ payloads_short o (suc place) (b ++ p ∷ []) ps n (first_fits p ps fit).1 (omega arith)

-- a vector that fits an origin is sound from its first chip on
sound_from : (o : Origin) (chip : ℕ) (ps : List ℕ) → chip + length ps ≡ 8 → fit_places ps ≡ true → ((k : ℕ) → o.chips ≤ chip + k → get_or ps k 0 ≡ 0) → ((k : ℕ) → chip + k ≡ o.chip → get_or ps k 0 ≤ o.start) → Sound o chip ps
sound_from o chip [] eight fit there own = tt
sound_from o chip (p ∷ ps) eight fit there own =
    let parts = and_parts (ltb p 67108864) (fit_places ps) fit in
    let present : 0 < p → chip < o.chips = λ some. grind (arith, there 0) in (
      (ltb-true p 67108864 parts.0, omega arith, present, λ here. own 0 (omega arith)),
      sound_from o (suc chip) ps (omega arith) parts.1 (λ k h. there (suc k) (omega arith)) (λ k h. own (suc k) (omega arith)),
    )

sound_vector : (o : Origin) (v b : List ℕ) → Writable v b → Placed o v → Sound o 0 v
sound_vector o v b writable placed =
    sound_from o 0 v (omega (arith, writable.eight)) writable.places
    (λ k h. placed.chips_are_there k (omega arith))
    (λ k h. subst (λ c. get_or v c 0 ≤ o.start) (sym (same k h)) placed.own_not_past_start)
  where
    same : (k : ℕ) → 0 + k ≡ o.chip → k ≡ o.chip
    same k h = omega arith

module _ (work : Kind) (cells : ℕ) (o : Origin) (v b : List ℕ) (writable : Writable v b) (placed : Placed o v) where
  -- a list that begins with the record's head
  reads_head : (ws : List ℕ) → next_part o (head_word (length (entry_words 0 v)) (length b) ∷ ws) 0 head_of ≡ Ok (record { entries = length (entry_words 0 v); payloads = length b })
  reads_head ws =
      let word = head_word (length (entry_words 0 v)) (length b) in
      ap (from_word o (o.start + 0) head_of) (some_word (word ∷ ws) 0 (omega arith))
      ∙ ap (placed_at o (o.start + 0)) (head_back (length (entry_words 0 v)) (length b) (omega (arith, length_entry_words 0 v, writable.eight)) writable.some writable.few)

  from_zeros : replicate (length v) 0 ≡ zeros
  from_zeros = ap (λ n. replicate n 0) writable.eight

  reads_vector : (rest : List ℕ) → entries_read o (o.start + 1) 0 zeros (length (entry_words 0 v)) (entry_words 0 v ++ rest) ≡ Ok v
  reads_vector rest =
      ap (λ u. entries_read o (o.start + 1) 0 u (length (entry_words 0 v)) (entry_words 0 v ++ rest)) (sym from_zeros)
      ∙ entries_back o (o.start + 1) 0 [] 0 v rest refl (omega arith) (sound_vector o v b writable placed)

  ends_in_vector : (n : ℕ) → n < length (entry_words 0 v) → entries_read o (o.start + 1) 0 zeros (length (entry_words 0 v)) (take n (entry_words 0 v)) ≡ Err RunsOut
  ends_in_vector n short =
      ap (λ u. entries_read o (o.start + 1) 0 u (length (entry_words 0 v)) (take n (entry_words 0 v))) (sym from_zeros)
      ∙ entries_short o (o.start + 1) 0 [] 0 v n refl (omega arith) (sound_vector o v b writable placed) short

  -- the words behind the head and the vector words
  behind_vector : (w : ℕ) (rest : List ℕ) → drop (1 + length (entry_words 0 v)) (w ∷ (entry_words 0 v ++ rest)) ≡ rest
  behind_vector w rest =
      ap (λ k. drop k (w ∷ (entry_words 0 v ++ rest))) (one-add (length (entry_words 0 v)))
      ∙ drop_at (entry_words 0 v) rest (length (entry_words 0 v)) refl

  pub reads_back : WellFormed work b cells → (rest : List ℕ) → record_read work cells o (record_words v b ++ rest) ≡ Ok (whole o v b)
  reads_back well_formed rest =
      let es = entry_words 0 v in
      let bs = map body_word b in
      let word = head_word (length es) (length b) in
      let ws = word ∷ (es ++ (bs ++ rest)) in
      let h : Head = record { entries = length es; payloads = length b } in
      let body : payloads_read o (o.start + (1 + length es)) [] (length b) (drop (1 + length es) ws) ≡ Ok b =
      ap (payloads_read o (o.start + (1 + length es)) [] (length b)) (behind_vector word (bs ++ rest)) ∙ payloads_back o (o.start + (1 + length es)) [] b rest writable.payloads in
      let parts = parts_of o ws h v b (reads_head (es ++ (bs ++ rest))) (reads_vector (bs ++ rest)) body in
      let ends : 1 + length es + length b ≡ length (record_words v b) = omega (arith, length-append es bs, length-map b body_word) in
      let of : ℕ → Found = λ n. record { end = o.start + n; vector = v; body = b } in
      ap (record_read work cells o) (ap (λ xs. word ∷ xs) (append_assoc es bs rest))
      ∙ record_of work cells o ws (of (1 + length es + length b)) (Ok tt) parts (ap body_fault well_formed)
      ∙ ap (λ n. Ok (of n)) ends

  pub broken_off : (n : ℕ) → n < length (record_words v b) → record_read work cells o (take n (record_words v b)) ≡ Err RunsOut
  broken_off zero short = refl
  broken_off (suc n) short = by_part (cases_lt n (length (entry_words 0 v)))
    where
      by_part : (n < length (entry_words 0 v)) ⊎ (length (entry_words 0 v) ≤ n) → record_read work cells o (take (suc n) (record_words v b)) ≡ Err RunsOut
      by_part (inl h) =
          let bs = map body_word b in
          let word = head_word (length (entry_words 0 v)) (length b) in
          let ws = word ∷ take n (entry_words 0 v ++ bs) in
          let ends = ap (entries_read o (o.start + 1) 0 zeros (length (entry_words 0 v))) (take-append-le n (entry_words 0 v) bs (omega arith)) ∙ ends_in_vector n h in
          stops_in_vector work cells o ws _ RunsOut (reads_head (take n (entry_words 0 v ++ bs))) ends
      by_part (inr h) =
          let bs = map body_word b in
          let word = head_word (length (entry_words 0 v)) (length b) in
          let left = n - length (entry_words 0 v) in
          let rest = take left bs in
          let words : take n (entry_words 0 v ++ bs) ≡ entry_words 0 v ++ rest =
          ap (λ k. take k (entry_words 0 v ++ bs)) (omega arith) ∙ take-append-add (entry_words 0 v) bs left in
          let few : left < length b = omega (arith, length-append (entry_words 0 v) bs, length-map b body_word) in
          ap (λ xs. record_read work cells o (word ∷ xs)) words
          ∙ stops_in_body work cells o (word ∷ (entry_words 0 v ++ rest)) _ v RunsOut (reads_head (entry_words 0 v ++ rest)) (reads_vector rest)
          (ap (payloads_read o (o.start + (1 + length (entry_words 0 v))) [] (length b)) (behind_vector word rest) ∙ payloads_short o (o.start + (1 + length (entry_words 0 v))) [] b left writable.payloads few)

pub written_reads_back : (v b : List ℕ) → Writable v b → ReadsBack v b
written_reads_back v b writable = record {
  whatever_follows = λ work cells o fits. reads_back work cells o v b writable fits.placed fits.well_formed;
  broken_off_runs_out = λ work cells o placed. broken_off work cells o v b writable placed;
}
