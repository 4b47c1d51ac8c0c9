-- A list of numbers in an array that has more room.
--   padded n xs            xs with zeros behind it, n elements in all
--   FixedList              what a contract sees of a list that is laid out: the numbers, in order
--   Padded n cells len     n cells that hold len numbers, and 0 behind them
use Rattle.std.specs.Prelude.{◌≡◌, ℕ, ◌-◌, ◌≤◌, List, ◌++◌, length, replicate, take}

abbrev pub padded : ℕ → List ℕ → List ℕ
padded n xs = xs ++ replicate (n - length xs) 0

pub record FixedList : Type 0 where
  pub items : List ℕ

pub record Padded (n : ℕ) (cells : List ℕ) (len : ℕ) : Type 0 where
  pub fits : len ≤ n
  pub long : length cells ≡ n
  pub zeros : cells ≡ padded n (take len cells)
