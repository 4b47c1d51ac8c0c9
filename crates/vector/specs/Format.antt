-- The numbers of the log format, as src/format.rt has them for the code.
--   payloads            how many payloads there are: a word is kind * payloads + payload
--   places              how many places a vector word can name
--   chips_at_most       the most chips, so the places of a vector
--   body_at_most        the most body words of a record
--   kind_of, payload_of word    the top three bits and the other 29
use Rattle.std.specs.Prelude.{ℕ, ◌/◌, ◌%◌}

abbrev pub payloads : ℕ
payloads = 536870912

abbrev pub places : ℕ
places = 67108864

abbrev pub chips_at_most : ℕ
chips_at_most = 8

abbrev pub body_at_most : ℕ
body_at_most = 16

abbrev pub kind_of : ℕ → ℕ
kind_of word = word / payloads

abbrev pub payload_of : ℕ → ℕ
payload_of word = word % payloads
