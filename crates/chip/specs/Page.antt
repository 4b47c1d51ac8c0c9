-- The page chip. Blank memory is all ones, and a mount finds the words before the first blank one.
--   page_found words                     what a mount finds, which are the words that are programmed
--   page_words words waiting             the words it has accepted: those programmed and those waiting
--   page_early n waiting                 how many are settled after one more word: with the sixteenth, all
--   all_blank, none_blank words          all of them are blank, or none is
--   blank_behind words                   nothing but blank words behind the first blank one
--   page_sound words                     what a mount accepts: 1 to 1 048 576 words, blank behind the first blank one
--   PageIntact words n waiting           what every page chip keeps: n words are programmed, those that wait fit behind
--                                        them and are too few for a page, and none of these is blank
--   PageMounted words n waiting          the chip that a mount makes of a memory that holds `words`
--   written words at more                the memory after the words `more` are stored from place `at` on
--   writes words at more                 what it held after each of these stores
use Rattle.std.specs.Prelude.{◌≡◌, ℕ, suc, ◌+◌, ◌<◌, ◌≤◌, Bool, true, cond, not, ◌&&◌, List, [], ◌∷◌, ◌++◌, length, ◌==◌, nat_lt, slice_set}

abbrev pub page_found : List ℕ → List ℕ
page_found [] = []
page_found (w ∷ ws) = cond (w == 4294967295) [] (w ∷ page_found ws)

abbrev pub page_words : List ℕ → List ℕ → List ℕ
page_words words waiting = page_found words ++ waiting

abbrev pub page_early : ℕ → List ℕ → ℕ
page_early n waiting = cond (nat_lt (length waiting) 15) n (n + 16)

abbrev pub all_blank : List ℕ → Bool
all_blank [] = true
all_blank (w ∷ ws) = w == 4294967295 && all_blank ws

abbrev pub none_blank : List ℕ → Bool
none_blank [] = true
none_blank (w ∷ ws) = not (w == 4294967295) && none_blank ws

abbrev pub blank_behind : List ℕ → Bool
blank_behind [] = true
blank_behind (w ∷ ws) = cond (w == 4294967295) (all_blank ws) (blank_behind ws)

abbrev pub page_sound : List ℕ → Bool
page_sound words = nat_lt 0 (length words) && (nat_lt (length words) 1048577 && blank_behind words)

pub record PageIntact (words : List ℕ) (n : ℕ) (waiting : List ℕ) : Type 0 where
  pub sound : page_sound words ≡ true
  pub counted : n ≡ length (page_found words)
  pub fits : n + length waiting ≤ length words
  pub few : length waiting < 16
  pub unblank : none_blank waiting ≡ true

pub record PageMounted (words : List ℕ) (n : ℕ) (waiting : List ℕ) : Type 0 where
  pub accepted : page_words words waiting ≡ page_found words
  pub settled : n ≡ length (page_found words)

abbrev pub written : List ℕ → ℕ → List ℕ → List ℕ
written words at [] = words
written words at (w ∷ ws) = written (slice_set words at w) (suc at) ws

abbrev pub writes : List ℕ → ℕ → List ℕ → List (List ℕ)
writes words at [] = []
writes words at (w ∷ ws) = slice_set words at w ∷ writes (slice_set words at w) (suc at) ws
