-- A third kind of work: a body is one cell, which becomes 0.
use Rattle.std.specs.Prelude.{◌&&◌, [], ◌∷◌, length, Ok, ◌==◌, nat_lt, slice_index, slice_set}
use Rattle.work.specs.declared.fault.BodyFault.TheVariants.{Length, NoSuchCell}
use Rattle.work.specs.Kinds.{Kind, asks, fit_payloads, writing}

abbrev pub clears : Kind
clears = record {
  judged = λ body cells. asks (length body == 1 && fit_payloads body) Length (asks (nat_lt (slice_index body 0) cells) NoSuchCell (Ok tt));
  names = λ body. writing (slice_index body 0) ∷ [];
  effect = λ body table. slice_set table (slice_index body 0) 0;
}
