-- The kinds of words.
--   number_of_kind kind    the number that stands for it in a word
--   kind_in word           the kind whose number the word has, if there is one
use Rattle.std.specs.Prelude.{ℕ, cond, ◌==◌, Option, Some, None}
use Rattle.vector.specs.declared.kind.Kind.{Kind}
use Rattle.vector.specs.declared.kind.Kind.TheVariants.{Head, Entry, Body}
use Rattle.vector.specs.Format.{kind_of}

abbrev pub number_of_kind : Kind → ℕ
number_of_kind Head = 0
number_of_kind Entry = 1
number_of_kind Body = 2

abbrev pub kind_in : ℕ → Option Kind
kind_in word =
    cond (kind_of word == number_of_kind Head) (Some Head)
    (cond (kind_of word == number_of_kind Entry) (Some Entry)
    (cond (kind_of word == number_of_kind Body) (Some Body) None))
