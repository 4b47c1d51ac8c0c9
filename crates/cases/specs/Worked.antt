-- Worked cases, as facts about the definitions.
--   add_to cell amount number    the body of an ADD by sender 0
--   close_into cell into         the body of a CLOSE by sender 1, number 1
--   of_two_chips chip            a record at the start of that chip's log, of two chips
use Rattle.std.specs.Prelude.{◌≡◌, ℕ, true, false, List, [], ◌∷◌, replicate, Ok, slice_index_or, slice_set}
use Rattle.vector.specs.Vectors.{joined, reached_by, zeros}
use Rattle.commands.specs.Commands.{commands, payloads_of, run_each}
use Rattle.logs.specs.declared.record.Origin.{Origin}
use Rattle.logs.specs.Words.{record_words}
use Rattle.logs.specs.Reading.{record_read}

abbrev pub add_to : ℕ → ℕ → ℕ → List ℕ
add_to cell amount number =
    payloads_of (record { operation = 1; sender = 0; number = number; a = cell; b = 0; c = 0; spare = 0; amount = amount })

abbrev pub close_into : ℕ → ℕ → List ℕ
close_into cell into =
    payloads_of (record { operation = 2; sender = 1; number = 1; a = cell; b = into; c = 0; spare = 0; amount = 0 })

abbrev pub of_two_chips : ℕ → Origin
of_two_chips chip = record { chips = 2; chip = chip; start = 0 }

abbrev pub four_zero : List ℕ
four_zero = 4 ∷ 0 ∷ 0 ∷ 0 ∷ 0 ∷ 0 ∷ 0 ∷ 0 ∷ []

pub record WorkedCases : Type 0 where
  -- joins, at each chip the larger place
  pub first_join : joined (4 ∷ 2 ∷ 0 ∷ 0 ∷ 0 ∷ 0 ∷ 0 ∷ 0 ∷ []) (3 ∷ 7 ∷ 0 ∷ 0 ∷ 0 ∷ 0 ∷ 0 ∷ 0 ∷ []) ≡ 4 ∷ 7 ∷ 0 ∷ 0 ∷ 0 ∷ 0 ∷ 0 ∷ 0 ∷ []
  pub second_join : joined (4 ∷ 7 ∷ 0 ∷ 0 ∷ 0 ∷ 0 ∷ 0 ∷ 0 ∷ []) (8 ∷ 6 ∷ 0 ∷ 0 ∷ 0 ∷ 0 ∷ 0 ∷ 0 ∷ []) ≡ 8 ∷ 7 ∷ 0 ∷ 0 ∷ 0 ∷ 0 ∷ 0 ∷ 0 ∷ []
  -- vectors that the ends of two and of three logs reach, and one that they do not
  pub not_yet_reached : reached_by four_zero (0 ∷ 5 ∷ 0 ∷ 0 ∷ 0 ∷ 0 ∷ 0 ∷ 0 ∷ []) ≡ false
  pub reached_then : reached_by four_zero (4 ∷ 5 ∷ 0 ∷ 0 ∷ 0 ∷ 0 ∷ 0 ∷ 0 ∷ []) ≡ true
  pub waits_for_the_third_log : reached_by (0 ∷ 0 ∷ 3 ∷ 0 ∷ 0 ∷ 0 ∷ 0 ∷ 0 ∷ []) (7 ∷ 4 ∷ 0 ∷ 0 ∷ 0 ∷ 0 ∷ 0 ∷ 0 ∷ []) ≡ false
  pub waits_for_no_other_log : reached_by (7 ∷ 0 ∷ 0 ∷ 0 ∷ 0 ∷ 0 ∷ 0 ∷ 0 ∷ []) (7 ∷ 4 ∷ 0 ∷ 0 ∷ 0 ∷ 0 ∷ 0 ∷ 0 ∷ []) ≡ true
  -- an ADD with no vector, as words and as it is read on the first of two chips
  pub add_words : record_words zeros (add_to 8 700 1) ≡ 0x00000030 ∷ 0x44000001 ∷ 0x40000008 ∷ 0x400002bc ∷ []
  pub add_reads : record_read commands 256 (of_two_chips 0) (0x00000030 ∷ 0x44000001 ∷ 0x40000008 ∷ 0x400002bc ∷ []) ≡ Ok (record { end = 4; vector = zeros; body = add_to 8 700 1 })
  -- a CLOSE behind that ADD, on the second of two chips
  pub close_words : record_words four_zero (close_into 8 9) ≡ 0x00000031 ∷ 0x20000004 ∷ 0x48800001 ∷ 0x40000908 ∷ 0x40000000 ∷ []
  pub close_reads : record_read commands 256 (of_two_chips 1) (0x00000031 ∷ 0x20000004 ∷ 0x48800001 ∷ 0x40000908 ∷ 0x40000000 ∷ []) ≡ Ok (record { end = 5; vector = four_zero; body = close_into 8 9 })
  -- an ADD that would pass the top stops there
  pub add_stops_at_the_top : slice_index_or (commands.effect (add_to 8 20 1) (slice_set (replicate 12 0) 8 536870900)) 8 0 ≡ 536870911
  -- a trip is driven and closed, the next one begins, and the CLOSE comes a second time
  pub repeated_close_spares_the_new_trip : slice_index_or (run_each (add_to 8 700 1 ∷ close_into 8 9 ∷ add_to 8 30 2 ∷ close_into 8 9 ∷ []) (replicate 12 0)) 8 0 ≡ 30
  pub repeated_close_keeps_the_old_trip : slice_index_or (run_each (add_to 8 700 1 ∷ close_into 8 9 ∷ add_to 8 30 2 ∷ close_into 8 9 ∷ []) (replicate 12 0)) 9 0 ≡ 700
