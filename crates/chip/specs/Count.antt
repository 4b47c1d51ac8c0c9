-- The count chip: its first word is the number of words behind it.
--   count_room words      how many words it can hold
--   count_of words        how many it has accepted
--   count_words words     the words it has accepted, which are those that a mount finds
--   count_sound words     what a mount accepts, and every count chip has: 2 to 1 048 577 words, the first at most the
--                         number of the others
use Rattle.std.specs.Prelude.{ℕ, ◌-◌, Bool, ◌&&◌, List, length, take, drop, nat_lt, slice_index_or}

abbrev pub count_room : List ℕ → ℕ
count_room words = length words - 1

abbrev pub count_of : List ℕ → ℕ
count_of words = slice_index_or words 0 4294967295

abbrev pub count_words : List ℕ → List ℕ
count_words words = take (count_of words) (drop 1 words)

abbrev pub count_sound : List ℕ → Bool
count_sound words = nat_lt 1 (length words) && (nat_lt (length words) 1048578 && nat_lt (slice_index_or words 0 4294967295) (length words))
