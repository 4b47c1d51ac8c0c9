-- The page chip's words, its mount, and what it leaves at a cut.
use Rattle.std.specs.Prelude.{◌≡◌, ℕ, ◌+◌, ◌<◌, ◌≤◌, true, false, cond, ◌&&◌, List, [], ◌∷◌, ◌++◌, map, length, drop, ◌≢◌, nat_lt, slice_index, slice_index_or, refl, ◌-◌}
use Rattle.std.proofs.Common.{sym, ap, subst, ◌∙◌, arith}
use Rattle.std.specs.List.{AllByRecursion}
use Rattle.std.proofs.ByRecursion.{All-weaker, All-map}
use Rattle.std.proofs.lemmas.List.{append-nil, append_assoc, length-append, length_push, length-take, get_or-take, get_or_append_left, get_or_default, get_or-append_right}
use Rattle.std.proofs.lemmas.Bool.{and_parts, lt-ltb, le-ltb, ltb-true}
use Rattle.chip.specs.Cut.{Kept, Gapless}
use Rattle.chip.specs.Page.{PageMounted, page_words, page_early, page_found, all_blank, none_blank, blank_behind, page_sound, PageIntact, written, writes}
use Rattle.chip.specs.Finding.{kept_front, found_front, behind_is, none_blank_push, Programmed, programmed}
use Rattle.chip.specs.Writing.{length_written}

pub found_within : (ws : List ℕ) → length (page_found ws) ≤ length ws
found_within ws =
    let long = ap length (found_front ws) ∙ length-take (length (page_found ws)) ws in
    omega arith

-- what a sound memory tells
pub sound_parts : (ws : List ℕ) → page_sound ws ≡ true → (0 < length ws) × (length ws ≤ 1048576) × (blank_behind ws ≡ true)
sound_parts ws h =
    let outer = and_parts (nat_lt 0 (length ws)) (nat_lt (length ws) 1048577 && blank_behind ws) h in
    let inner = and_parts (nat_lt (length ws) 1048577) (blank_behind ws) outer.1 in
    let few : length ws < 1048577 = ltb-true (length ws) 1048577 inner.0 in
    (ltb-true 0 (length ws) outer.0, omega arith, inner.1)

pub sound_is : (ws : List ℕ) → 0 < length ws → length ws ≤ 1048576 → page_sound ws ≡ blank_behind ws
sound_is ws some few =
    ap (λ b. b && (nat_lt (length ws) 1048577 && blank_behind ws)) (lt-ltb 0 (length ws) some) ∙ ap (λ b. b && blank_behind ws) (lt-ltb (length ws) 1048577 (omega arith))

module _ (ws : List ℕ) (n : ℕ) (waiting : List ℕ) (intact : PageIntact ws n waiting) where
  pub length_words : length (page_words ws waiting) ≡ n + length waiting
  length_words = length-append (page_found ws) waiting ∙ ap (λ k. k + length waiting) (sym intact.counted)

  pub page_bounded : (n ≤ length (page_words ws waiting)) × (length (page_words ws waiting) ≤ length ws) × (length ws ≤ 1048576)
  page_bounded = (omega (arith, length_words), omega (arith, length_words, intact.fits), (sound_parts ws intact.sound).1)

  pub page_keeps : Kept (page_words ws waiting) n (page_found ws)
  page_keeps = kept_front (page_found ws) waiting (page_words ws waiting) n refl (omega (arith, intact.counted))

  -- reading a programmed or a waiting word
  pub read_programmed : (place : ℕ) → place < n → slice_index (page_words ws waiting) place ≡ slice_index_or ws place 4294967295
  read_programmed place below =
      let found = ap (λ l. slice_index l place) (found_front ws) in
      let within = found_within ws in
      get_or_append_left (page_found ws) waiting 0 place (omega (arith, intact.counted)) ∙ found ∙ get_or-take (length (page_found ws)) ws place 0 (omega (arith, intact.counted)) ∙ get_or_default ws place 0 4294967295 (omega (arith, intact.counted))

  pub read_waiting : (place : ℕ) → n ≤ place → slice_index (page_words ws waiting) place ≡ slice_index waiting (place - n)
  read_waiting place above = get_or-append_right (page_found ws) waiting n place 0 (sym intact.counted) above

  -- a word is collected
  module _ (w : ℕ) (word : w ≢ 4294967295) (room : n + length waiting < length ws) where
    pub collected_unblank : none_blank (waiting ++ w ∷ []) ≡ true
    collected_unblank = none_blank_push waiting w intact.unblank word

    pub collected_words : page_words ws (waiting ++ w ∷ []) ≡ page_words ws waiting ++ w ∷ []
    collected_words = sym (append_assoc (page_found ws) waiting (w ∷ []))

    pub collected_intact : length waiting + 1 < 16 → PageIntact ws n (waiting ++ w ∷ [])
    collected_intact few =
        let long = length_push waiting w in
        record { sound = intact.sound; counted = intact.counted; fits = omega (arith, long); few = omega (arith, long); unblank = collected_unblank }

-- a mount at the place n of the first blank word
module _ (ws : List ℕ) (n : ℕ) (some : 0 < length ws) (few : length ws ≤ 1048576) (counted : n ≡ length (page_found ws)) where
  behind : page_sound ws ≡ all_blank (drop n ws)
  behind = sound_is ws some few ∙ behind_is ws ∙ ap (λ m. all_blank (drop m ws)) (sym counted)

  pub mount_refused : all_blank (drop n ws) ≡ false → false ≡ page_sound ws
  mount_refused word = sym (behind ∙ word)

  pub mount_accepted : all_blank (drop n ws) ≡ true → true ≡ page_sound ws
  mount_accepted blank = sym (behind ∙ blank)

  pub mount_intact : all_blank (drop n ws) ≡ true → PageIntact ws n []
  mount_intact blank =
      let within = found_within ws in
      record { sound = behind ∙ blank; counted = counted; fits = omega arith; few = omega arith; unblank = refl }

  pub mount_made : all_blank (drop n ws) ≡ true → PageMounted ws n []
  mount_made blank = record { accepted = append-nil (page_found ws); settled = counted }

-- words are programmed behind those that a mount finds
module _ (ws : List ℕ) (n : ℕ) (more : List ℕ) (sound : page_sound ws ≡ true) (counted : n ≡ length (page_found ws)) (fits : n + length more ≤ length ws) (unblank : none_blank more ≡ true) where
  after : (low : ℕ) → low ≤ n → Programmed ws n more (page_words ws more) low
  after low enough = programmed more ws n (page_words ws more) low counted enough refl (sound_parts ws sound).2 unblank fits

  still_sound : (m : List ℕ) → length m ≡ length ws → blank_behind m ≡ true → page_sound m ≡ true
  still_sound m long behind =
      let parts = sound_parts ws sound in
      sound_is m (omega (arith, parts.0)) (omega (arith, parts.1)) ∙ behind

  pub programmed_found : page_found (written ws n more) ≡ page_found ws ++ more
  programmed_found = (after 0 (omega arith)).found

  pub programmed_intact : (end : ℕ) → end ≡ n + length more → PageIntact (written ws n more) end []
  programmed_intact end e =
      let long = length_written ws n more in
      let count : end ≡ length (page_found (written ws n more)) = e ∙ ap (λ k. k + length more) counted ∙ sym (ap length programmed_found ∙ length-append (page_found ws) more) in
      record { sound = still_sound (written ws n more) long (after 0 (omega arith)).behind; counted = count; fits = omega arith; few = omega arith; unblank = refl }

  pub programmed_sound : AllByRecursion (λ m. page_sound m ≡ true) (writes ws n more)
  programmed_sound =
      All-weaker (λ m. (blank_behind m ≡ true) × (length m ≡ length ws) × Kept (page_words ws more) 0 (page_found m)) (λ m. page_sound m ≡ true) (λ m h. still_sound m h.1 h.0) (writes ws n more) (after 0 (omega arith)).moments

  pub programmed_gapless : Gapless (page_found ws) (map page_found (writes ws n more)) (page_found (written ws n more))
  programmed_gapless = subst (λ l. Gapless (page_found ws) (map page_found (writes ws n more)) l) (sym programmed_found) (after 0 (omega arith)).gapless

  pub programmed_kept : (words : List ℕ) (low : ℕ) → words ≡ page_found ws ++ more → low ≤ n → AllByRecursion (Kept words low) (map page_found (writes ws n more))
  programmed_kept words low whole enough =
      All-map (Kept words low) page_found (writes ws n more) (All-weaker (λ m. (blank_behind m ≡ true) × (length m ≡ length ws) × Kept (page_words ws more) low (page_found m)) (λ m. Kept words low (page_found m)) (λ m h. subst (λ l. Kept l low (page_found m)) (sym whole) h.2) (writes ws n more) (after low enough).moments)

-- the words `more` are programmed behind the n words of a memory, which leaves `after`, and no word waits
pub record PageProgrammed (ws : List ℕ) (n : ℕ) (more after waiting : List ℕ) (end : ℕ) : Type 0 where
  pub intact : PageIntact after end waiting
  pub words : page_words after waiting ≡ page_words ws more
  pub same_room : length after ≡ length ws
  pub sound : AllByRecursion (λ m. page_sound m ≡ true) (writes ws n more)
  pub gapless : Gapless (page_found ws) (map page_found (writes ws n more)) (page_found after)
  pub kept : (words : List ℕ) → words ≡ page_words ws more → AllByRecursion (Kept words n) (map page_found (writes ws n more))

module _ (ws : List ℕ) (n : ℕ) (more : List ℕ) (sound : page_sound ws ≡ true) (counted : n ≡ length (page_found ws)) (fits : n + length more ≤ length ws) (unblank : none_blank more ≡ true) where
  programmed_page : PageProgrammed ws n more (written ws n more) [] (n + length more)
  programmed_page = record {
    intact = programmed_intact ws n more sound counted fits unblank (n + length more) refl;
    words = append-nil (page_found (written ws n more)) ∙ programmed_found ws n more sound counted fits unblank;
    same_room = length_written ws n more;
    sound = programmed_sound ws n more sound counted fits unblank;
    gapless = programmed_gapless ws n more sound counted fits unblank;
    kept = λ words whole. programmed_kept ws n more sound counted fits unblank words n whole (omega arith);
  }

  pub page_programmed : (held waiting : List ℕ) (end : ℕ) → held ≡ written ws n more → waiting ≡ [] → end ≡ n + length more → PageProgrammed ws n more held waiting end
  page_programmed held waiting end stored empty count =
      subst (λ h. PageProgrammed ws n more h waiting end) (sym stored) (subst (λ l. PageProgrammed ws n more (written ws n more) l end) (sym empty) (subst (PageProgrammed ws n more (written ws n more) []) (sym count) programmed_page))

-- all waiting words are programmed, and the sixteenth word with those that wait
module _ (ws : List ℕ) (n : ℕ) (waiting : List ℕ) (intact : PageIntact ws n waiting) (more held left : List ℕ) (end : ℕ) (stored : held ≡ written ws n more) (none : left ≡ []) where
  pub page_settled : more ≡ waiting → end ≡ n + length waiting → PageProgrammed ws n more held left end
  page_settled same count =
      let fits : n + length more ≤ length ws = omega (arith, ap length same, intact.fits) in
      page_programmed ws n more intact.sound intact.counted fits (ap none_blank same ∙ intact.unblank) held left end stored none (omega (arith, ap length same))

  pub page_filled : (w : ℕ) → (w ≢ 4294967295) → n + length waiting < length ws → more ≡ waiting ++ w ∷ [] → length more ≡ 16 → end ≡ n + 16 → PageProgrammed ws n more held left end
  page_filled w word room same long count =
      let fits : n + length more ≤ length ws = omega (arith, ap length same, length_push waiting w) in
      page_programmed ws n more intact.sound intact.counted fits (ap none_blank same ∙ collected_unblank ws n waiting intact w word room) held left end stored none (omega arith)

pub settled_words : (ws : List ℕ) (n : ℕ) (waiting : List ℕ) → PageIntact ws n waiting → page_words (written ws n waiting) [] ≡ page_words ws waiting
settled_words ws n waiting intact =
    (page_settled ws n waiting intact waiting (written ws n waiting) [] (n + length waiting) refl refl refl refl).words

-- a word more that waits, or a page that is programmed
pub early_waits : (n : ℕ) (waiting : List ℕ) → length waiting < 15 → page_early n waiting ≡ n
early_waits n waiting few = ap (λ b. cond b n (n + 16)) (lt-ltb (length waiting) 15 few)

pub early_programs : (n : ℕ) (waiting : List ℕ) → 15 ≤ length waiting → page_early n waiting ≡ n + 16
early_programs n waiting last = ap (λ b. cond b n (n + 16)) (le-ltb (length waiting) 15 last)
