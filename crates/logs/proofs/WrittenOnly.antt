-- What is read as a record are the words that the writer gives for it.
use Rattle.std.proofs.Common.{◌≡◌, ℕ, zero, suc, ◌+◌, ◌-◌, ◌*◌, ◌/◌, ◌%◌, ◌<◌, ◌≤◌, true, false, eqb, ltb, leb, List, [], ◌∷◌, ◌++◌, map, length, get_or, take, drop, set, replicate, Some, None, Ok, Err, Result, sym, refl, ap, ◌∙◌, subst, add-zero, arith}
use Rattle.std.proofs.Math.Seq.{take-add}
use Rattle.std.proofs.lemmas.Nat.{div-add-mod'}
use Rattle.std.proofs.lemmas.List.{append-nil, append_assoc, length-append, length-map, length-replicate, set_at, length-take-le, replicate-append-replicate, drop-drop}
use Rattle.std.proofs.lemmas.Bool.{lt-ltb, leb-true, ltb-true, ne_eqb, and_from, and_parts, cond-true, cond-false}
use Rattle.std.proofs.lemmas.Bool.Decides.{nat_tests}
use Rattle.vector.specs.Format.{kind_of, payload_of}
use Rattle.vector.specs.Vectors.{zeros}
use Rattle.work.specs.Kinds.{Kind, fit_payloads}
use Rattle.work.specs.declared.fault.BodyFault.{BodyFault}
use Rattle.logs.specs.declared.fault.Cause.TheVariants.{NoHead, NoPayload}
use Rattle.logs.specs.declared.fault.Stop.{Stop}
use Rattle.logs.specs.declared.record.Origin.{Origin}
use Rattle.logs.specs.declared.record.Head.{Head}
use Rattle.logs.specs.declared.record.Entry.{Entry}
use Rattle.logs.specs.Words.{head_word, entry_word, body_word, entry_words, record_words, fit_places}
use Rattle.logs.specs.Reading.{and_then, head_of, head_fits, entry_of, entry_in, is_past_start, payload_in, placed_at, word_at, next_part, entries_read, payloads_read, body_fault, Found, parts_read}
use Rattle.logs.specs.RoundTrip.{Written, OnlyWritten}
use Rattle.logs.proofs.ReaderLaws.{then_from, placed_ok, from_some, of_kind_ok, cond_ok, ok_same, EntryRead, entry_read, chip_below_eight}
use Rattle.logs.proofs.ReadBack.{Sound}

-- the word that was read is the one that is written
entry_word_is : (o : Origin) (low word : ℕ) (e : Entry) → EntryRead o low word e → entry_word e.chip e.place ≡ word
entry_word_is o low word e read =
    let chip : payload_of word / 67108864 ≡ e.chip = ap (λ (x : Entry). x.chip) read.is in
    let place : payload_of word % 67108864 ≡ e.place = ap (λ (x : Entry). x.place) read.is in
    let payload : e.chip * 67108864 + e.place ≡ payload_of word =
    ap (λ x. x * 67108864 + e.place) (sym chip) ∙ ap (λ x. payload_of word / 67108864 * 67108864 + x) (sym place) ∙ div-add-mod' (payload_of word) 67108864 in
    ap (λ x. 536870912 + x) payload ∙ whole_word word read.kind
  where
    whole_word : (word : ℕ) → kind_of word ≡ 1 → 536870912 + payload_of word ≡ word
    whole_word word kind = omega (arith, kind)

-- zeros have no words
skip_zeros : (chip d : ℕ) (ps : List ℕ) → entry_words chip (replicate d 0 ++ ps) ≡ entry_words (chip + d) ps
skip_zeros chip zero ps = ap (λ k. entry_words k ps) (sym (add-zero chip))
skip_zeros chip (suc d) ps = skip_zeros (suc chip) d ps ∙ ap (λ k. entry_words k ps) (omega arith)

zeros_sound : (o : Origin) (chip d : ℕ) (ps : List ℕ) → chip + d ≤ 8 → Sound o (chip + d) ps → Sound o chip (replicate d 0 ++ ps)
zeros_sound o chip zero ps few sound = subst (λ k. Sound o k ps) (add-zero chip) sound
zeros_sound o chip (suc d) ps few sound = (
  (omega arith, omega arith, (λ some. absurd (omega arith)), λ here. omega arith),
  zeros_sound o (suc chip) d ps (omega arith) (subst (λ k. Sound o k ps) (moved chip d) sound),
)
  where
    moved : (chip d : ℕ) → chip + suc d ≡ suc chip + d
    moved chip d = omega arith

-- the places of a vector from a chip on, as so many words say
pub record Entries (o : Origin) (chip more n : ℕ) (front ws v : List ℕ) : Type 0 where
  pub ps : List ℕ
  pub is : v ≡ front ++ ps
  pub long : length ps ≡ more
  pub sound : Sound o chip ps
  pub words : entry_words chip ps ≡ take n ws
  pub enough : n ≤ length ws

no_entries : (o : Origin) (chip more : ℕ) (front ws : List ℕ) → chip + more ≡ 8 → Entries o chip more 0 front ws (front ++ replicate more 0)
no_entries o chip more front ws eight = record {
  ps = replicate more 0;
  is = refl;
  long = length-replicate more 0;
  sound = subst (Sound o chip) (append-nil (replicate more 0)) (zeros_sound o chip more [] (omega arith) tt);
  words = ap (entry_words chip) (sym (append-nil (replicate more 0))) ∙ skip_zeros chip more [];
  enough = omega arith;
}

-- a vector with one entry set behind a front that is read
set_behind : (front : List ℕ) (d more place : ℕ) → set (front ++ replicate (d + suc more) 0) (length front + d) place ≡ (front ++ (replicate d 0 ++ place ∷ [])) ++ replicate more 0
set_behind front d more place =
    let zs : List ℕ = replicate d 0 in
    ap (λ xs. set (front ++ xs) (length front + d) place) (sym (replicate-append-replicate d (suc more) 0))
    ∙ ap (λ xs. set xs (length front + d) place) (sym (append_assoc front zs (0 ∷ replicate more 0)))
    ∙ set_at (front ++ zs) 0 (replicate more 0) place (length front + d) (omega (arith, length-append front zs, length-replicate {A = ℕ} d 0))
    ∙ sym (append_assoc (front ++ zs) (place ∷ []) (replicate more 0))
    ∙ ap (λ xs. xs ++ replicate more 0) (append_assoc front zs (place ∷ []))

not_past : (o : Origin) (e : Entry) → is_past_start o e ≡ false → e.chip ≡ o.chip → e.place ≤ o.start
not_past o e own here = grind (arith, nat_tests)

-- one entry in front of those that are read behind it
more_entries : (o : Origin) (low d more n w : ℕ) (front ws v : List ℕ) (e : Entry) → EntryRead o low w e → e.chip ≡ low + d → low + (d + suc more) ≡ 8 → Entries o (suc e.chip) more n (front ++ (replicate d 0 ++ e.place ∷ [])) ws v → Entries o low (d + suc more) (suc n) front (w ∷ ws) v
more_entries o low d more n w front ws v e read chip eight behind =
    let zs : List ℕ = replicate d 0 in
    let place = e.place in
    let near : place < 67108864 = subst (λ p. p < 67108864) (ap (λ (x : Entry). x.place) read.is) (below w) in
    let own : e.chip ≡ o.chip → place ≤ o.start = not_past o e read.own in
    let here : Sound o e.chip (place ∷ behind.ps) = ((near, omega arith, (λ some. read.there), own), behind.sound) in
    record {
      ps = zs ++ place ∷ behind.ps;
      is = behind.is ∙ append_assoc front (zs ++ place ∷ []) behind.ps ∙ ap (λ xs. front ++ xs) (append_assoc zs (place ∷ []) behind.ps);
      long = omega (arith, length-append zs (place ∷ behind.ps), length-replicate {A = ℕ} d 0, behind.long);
      sound = zeros_sound o low d (place ∷ behind.ps) (omega arith) (subst (λ k. Sound o k (place ∷ behind.ps)) chip here);
      words =
          skip_zeros low d (place ∷ behind.ps)
          ∙ ap (λ k. entry_words k (place ∷ behind.ps)) (sym chip)
          ∙ cond-false (eqb place 0) _ _ (ne_eqb place 0 (λ none. omega (arith, read.some)))
          ∙ ap (λ x. x ∷ entry_words (suc e.chip) behind.ps) (entry_word_is o low w e read)
          ∙ ap (λ xs. w ∷ xs) behind.words;
      enough = omega (arith, behind.enough);
    }
  where
    below : (w : ℕ) → (entry_in w).place < 67108864
    below w = omega arith

pub entries_only : (o : Origin) (place low : ℕ) (front : List ℕ) (more n : ℕ) (ws v : List ℕ) → length front ≡ low → low + more ≡ 8 → entries_read o place low (front ++ replicate more 0) n ws ≡ Ok v → Entries o low more n front ws v
entries_only o place low front more zero ws v long eight read =
    subst (λ u. Entries o low more 0 front ws u) (ok_same (front ++ replicate more 0) v read) (no_entries o low more front ws eight)
entries_only o place low front more (suc n) [] v long eight read = absurd (cc)
entries_only o place low front more (suc n) (w ∷ ws) v long eight read =
    let next : Entry → Result (List ℕ) Stop = λ e. entries_read o (suc place) (suc e.chip) (set (front ++ replicate more 0) e.chip e.place) n ws in
    let step = then_from (placed_at o place (entry_of o low w)) next v read in
    let e = step.0 in
    let entry : EntryRead o low w e = entry_read o low w e (placed_ok o place (entry_of o low w) e step.1) in
    let few : e.chip < 8 = omega (arith, ap (λ (x : Entry). x.chip) entry.is, chip_below_eight w) in
    let rises : low ≤ e.chip = entry.rises in
    let d = e.chip - low in
    let left = more - suc d in
    let chip : e.chip ≡ low + d = omega arith in
    let split : more ≡ d + suc left = omega arith in
    let shape : set (front ++ replicate more 0) e.chip e.place ≡ (front ++ (replicate d 0 ++ e.place ∷ [])) ++ replicate left 0 =
    ap (λ m. set (front ++ replicate m 0) e.chip e.place) split
    ∙ ap (λ k. set (front ++ replicate (d + suc left) 0) k e.place) (chip ∙ ap (λ k. k + d) (sym long))
    ∙ set_behind front d left e.place in
    let front_long : length (front ++ (replicate d 0 ++ e.place ∷ [])) ≡ suc e.chip =
    omega (arith, length-append front (replicate d 0 ++ e.place ∷ []), length-append (replicate d 0) (e.place ∷ []), length-replicate {A = ℕ} d 0) in
    let behind = entries_only o (suc place) (suc e.chip) (front ++ (replicate d 0 ++ e.place ∷ [])) left n ws v front_long (omega arith)
    (sym (ap (λ u. entries_read o (suc place) (suc e.chip) u n ws) shape) ∙ step.2) in
    subst (λ m. Entries o low m (suc n) front (w ∷ ws) v) (sym split) (more_entries o low d left n w front ws v e entry chip (omega arith) behind)

-- the payloads that so many words say
pub record Payloads (n : ℕ) (front ws b : List ℕ) : Type 0 where
  pub ps : List ℕ
  pub is : b ≡ front ++ ps
  pub long : length ps ≡ n
  pub fit : fit_payloads ps ≡ true
  pub words : map body_word ps ≡ take n ws
  pub enough : n ≤ length ws

payload_read : (word p : ℕ) → payload_in word ≡ Ok p → (body_word p ≡ word) × (p < 536870912)
payload_read word p read =
    let kind = of_kind_ok 2 NoPayload word _ p read in
    let is : payload_of word ≡ p = ok_same (payload_of word) p kind.1 in
    (omega (arith, kind.0, is), omega (arith, is))

pub payloads_only : (o : Origin) (place : ℕ) (front : List ℕ) (n : ℕ) (ws b : List ℕ) → payloads_read o place front n ws ≡ Ok b → Payloads n front ws b
payloads_only o place front zero ws b read =
    record { ps = []; is = sym (append-nil front ∙ ok_same front b read); long = refl; fit = refl; words = refl; enough = omega arith }
payloads_only o place front (suc n) [] b read = absurd (cc)
payloads_only o place front (suc n) (w ∷ ws) b read =
    let step = then_from (placed_at o place (payload_in w)) (λ p. payloads_read o (suc place) (front ++ p ∷ []) n ws) b read in
    let p = step.0 in
    let word = payload_read w p (placed_ok o place (payload_in w) p step.1) in
    let behind = payloads_only o (suc place) (front ++ p ∷ []) n ws b step.2 in
    record {
      ps = p ∷ behind.ps;
      is = behind.is ∙ append_assoc front (p ∷ []) behind.ps;
      long = ap suc behind.long;
      fit = and_from (ltb p 536870912) (fit_payloads behind.ps) (lt-ltb p 536870912 word.1) behind.fit;
      words = ap (λ x. x ∷ map body_word behind.ps) word.0 ∙ ap (λ xs. w ∷ xs) behind.words;
      enough = omega (arith, behind.enough);
    }

pub record HeadRead (word : ℕ) (h : Head) : Type 0 where
  pub is : head_word h.entries h.payloads ≡ word
  pub few : h.entries ≤ 8
  pub some : 1 ≤ h.payloads
  pub most : h.payloads ≤ 16

head_read : (word : ℕ) (h : Head) → head_of word ≡ Ok h → HeadRead word h
head_read word h read =
    let kind = of_kind_ok 0 NoHead word _ h read in
    let fits = cond_ok (head_fits (payload_of word)) _ _ h kind.1 in
    let is : record { entries = payload_of word % 16; payloads = payload_of word / 16 } ≡ h = ok_same _ h fits.1 in
    let entries : payload_of word % 16 ≡ h.entries = ap (λ (x : Head). x.entries) is in
    let payloads : payload_of word / 16 ≡ h.payloads = ap (λ (x : Head). x.payloads) is in
    let low = and_parts (leb (payload_of word % 16) 8) _ fits.0 in
    let high = and_parts (ltb 0 (payload_of word / 16)) _ low.1 in
    let parts = div-add-mod' (payload_of word) 16 in
    record {
      is = omega (arith, kind.0, entries, payloads, parts);
      few = omega (arith, leb-true (payload_of word % 16) 8 low.0, entries);
      some = omega (arith, ltb-true 0 (payload_of word / 16) high.0, payloads);
      most = omega (arith, leb-true (payload_of word / 16) 16 high.1, payloads);
    }

first_word : (ws : List ℕ) (word : ℕ) → word_at ws 0 ≡ Some word → ws ≡ word ∷ drop 1 ws
first_word [] word read = absurd (cc)
first_word (x ∷ ws) word read =
    ap (λ y. y ∷ ws) (some_same x word (sym (cond-true (ltb 0 (suc (length ws))) (Some x) None (lt-ltb 0 (suc (length ws)) (omega arith))) ∙ read))
  where
    some_same : (x y : ℕ) → Some x ≡ Some y → x ≡ y
    some_same x y h = cc

sound_fits : (o : Origin) (chip : ℕ) (ps : List ℕ) → Sound o chip ps → fit_places ps ≡ true
sound_fits o chip [] sound = refl
sound_fits o chip (p ∷ ps) sound = and_from (ltb p 67108864) (fit_places ps) (lt-ltb p 67108864 sound.0.0) (sound_fits o (suc chip) ps sound.1)

sound_there : (o : Origin) (chip : ℕ) (ps : List ℕ) → Sound o chip ps → (k : ℕ) → o.chips ≤ chip + k → get_or ps k 0 ≡ 0
sound_there o chip [] sound k h = refl
sound_there o chip (p ∷ ps) sound zero h = grind (arith, sound.0.2)
sound_there o chip (p ∷ ps) sound (suc k) h = sound_there o (suc chip) ps sound.1 k (omega arith)

sound_own : (o : Origin) (chip : ℕ) (ps : List ℕ) → Sound o chip ps → (k : ℕ) → chip + k ≡ o.chip → get_or ps k 0 ≤ o.start
sound_own o chip [] sound k h = omega arith
sound_own o chip (p ∷ ps) sound zero h = sound.0.3 (omega arith)
sound_own o chip (p ∷ ps) sound (suc k) h = sound_own o (suc chip) ps sound.1 k (omega arith)

body_good : (r : Result (Unit {0}) BodyFault) (x : Unit {0}) → body_fault r ≡ Ok x → r ≡ Ok tt
body_good (Ok y) x h = refl
body_good (Err f) x h = absurd (cc)

-- the parts of a reading, put together
written : (work : Kind) (cells : ℕ) (o : Origin) (ws v b : List ℕ) (word : ℕ) (h : Head) → ws ≡ word ∷ drop 1 ws → HeadRead word h → Entries o 0 8 h.entries [] (drop 1 ws) v → Payloads h.payloads [] (drop (1 + h.entries) ws) b → work.judged b cells ≡ Ok tt → Written work cells o ws (record { end = o.start + (1 + h.entries + h.payloads); vector = v; body = b })
written work cells o ws v b word h first head entries payloads good =
    let xs = drop 1 ws in
    let es = entry_words 0 v in
    let bs = map body_word b in
    let sound : Sound o 0 v = subst (Sound o 0) (sym entries.is) entries.sound in
    let e-words : es ≡ take h.entries xs = ap (entry_words 0) entries.is ∙ entries.words in
    let b-words : bs ≡ take h.payloads (drop h.entries xs) =
    ap (map body_word) payloads.is ∙ payloads.words ∙ ap (take h.payloads) (sym (drop-drop h.entries 1 ws)) in
    let e-long : length es ≡ h.entries = ap length e-words ∙ length-take-le h.entries xs entries.enough in
    let b-long : length b ≡ h.payloads = ap length payloads.is ∙ payloads.long in
    let all-long : length (es ++ bs) ≡ h.entries + h.payloads = omega (arith, length-append es bs, length-map b body_word) in
    let behind : take (length (es ++ bs)) xs ≡ es ++ bs =
    ap (λ n. take n xs) all-long
    ∙ sym (ap (λ ys. ys ++ bs) e-words ∙ ap (λ ys. take h.entries xs ++ ys) b-words ∙ sym (take-add h.entries h.payloads xs)) in
    let head-is : word ≡ head_word (length es) (length b) =
    sym (ap (λ n. head_word n (length b)) e-long ∙ ap (head_word h.entries) b-long ∙ head.is) in
    let of : ℕ → Found = λ n. record { end = o.start + n; vector = v; body = b } in
    record {
      writable = record {
        eight = ap length entries.is ∙ entries.long;
        places = sound_fits o 0 v sound;
        some = omega (arith, head.some, b-long);
        few = omega (arith, head.most, b-long);
        payloads = ap fit_payloads payloads.is ∙ payloads.fit;
      };
      fits = record {
        placed = record {
          chips_are_there = λ chip missing. sound_there o 0 v sound chip (omega arith);
          own_not_past_start = sound_own o 0 v sound o.chip (omega arith);
        };
        well_formed = good;
      };
      is_whole = ap of (omega (arith, all-long));
      words =
          ap (take (length (record_words v b))) first
          ∙ ap (λ w. w ∷ take (length (es ++ bs)) xs) head-is
          ∙ ap (λ ys. head_word (length es) (length b) ∷ ys) behind;
    }

pub only_written : (work : Kind) (cells : ℕ) (o : Origin) (ws : List ℕ) → OnlyWritten work cells o ws
only_written work cells o ws f read =
    let whole-read = then_from (parts_read o ws) (λ g. and_then (placed_at o o.start (body_fault (work.judged g.body cells))) (λ _. Ok g)) f read in
    let g = whole-read.0 in
    let judged = then_from (placed_at o o.start (body_fault (work.judged g.body cells))) (λ _. Ok g) f whole-read.2 in
    let good : work.judged g.body cells ≡ Ok tt = body_good (work.judged g.body cells) judged.0 (placed_ok o o.start (body_fault (work.judged g.body cells)) judged.0 judged.1) in
    subst (Written work cells o ws) (ok_same g f judged.2) (of_parts g whole-read.1 good)
  where
    of_parts : (g : Found) → parts_read o ws ≡ Ok g → work.judged g.body cells ≡ Ok tt → Written work cells o ws g
    of_parts g parts good =
        let head = then_from (next_part o ws 0 head_of) _ g parts in
        let h = head.0 in
        let vector = then_from (entries_read o (o.start + 1) 0 zeros h.entries (drop 1 ws)) _ g head.2 in
        let body = then_from (payloads_read o (o.start + (1 + h.entries)) [] h.payloads (drop (1 + h.entries) ws)) _ g vector.2 in
        let first = from_some o (o.start + 0) head_of (word_at ws 0) h head.1 in
        let is : record { end = o.start + (1 + h.entries + h.payloads); vector = vector.0; body = body.0 } ≡ g = ok_same _ g body.2 in
        subst (Written work cells o ws) is
        (written work cells o ws vector.0 body.0 first.0 h (first_word ws first.0 first.1) (head_read first.0 h first.2)
        (entries_only o (o.start + 1) 0 [] 8 h.entries (drop 1 ws) vector.0 refl refl vector.1)
        (payloads_only o (o.start + (1 + h.entries)) [] h.payloads (drop (1 + h.entries) ws) body.0 body.1)
        (ap (λ b. work.judged b cells) (ap (λ (x : Found). x.body) is) ∙ good))
