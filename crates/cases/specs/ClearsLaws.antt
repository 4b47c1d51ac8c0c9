-- The third kind of work keeps the law of all kinds.
use Rattle.std.specs.Prelude.{◌≡◌, ℕ, suc, true, false, ◌&&◌, List, length, ◌==◌, nat_lt, slice_index, refl}
use Rattle.std.proofs.Common.{sym, ◌∙◌, arith}
use Rattle.std.proofs.lemmas.List.{length-set, get_or-set_other}
use Rattle.std.proofs.lemmas.Bool.{lt-ltb, and_parts, and_from, or_parts, eqb-false}
use Rattle.work.specs.KindLaws.{ok_then, payloads_below}
use Rattle.work.specs.TableLaws.{set_same, set_within_top}
use Rattle.work.specs.Kinds.{Lawful, WellFormed, fit_payloads}
use Rattle.cases.specs.Clears.{clears}

fitting : (body : List ℕ) (cells : ℕ) → WellFormed clears body cells → (fit_payloads body ≡ true) × (nat_lt (slice_index body 0) cells ≡ true)
fitting body cells ok =
    let first = ok_then (length body == 1 && fit_payloads body) _ _ ok in
    ((and_parts (length body == 1) (fit_payloads body) first.0).1, (ok_then (nat_lt (slice_index body 0) cells) _ _ first.1).0)

pub clears_lawful : Lawful clears
clears_lawful = record {
  some_named = λ body cells ok. omega arith;
  few_named = λ body cells ok. omega arith;
  named_once_in_rising_number = λ body cells ok. and_from (nat_lt 0 (suc (slice_index body 0))) true (lt-ltb 0 (suc (slice_index body 0)) (omega arith)) refl;
  named_are_there = λ body cells ok. and_from (nat_lt (slice_index body 0) cells) true (fitting body cells ok).1 refl;
  one_for_writing = λ body cells ok. refl;
  all_payloads_fit = λ body cells ok. payloads_below body (fitting body cells ok).0;
  keeps_length = λ body table. length-set table (slice_index body 0) 0;
  only_written_change = λ body cells ok table long x spared. get_or-set_other table (slice_index body 0) x 0 0 (λ here. eqb-false (slice_index body 0) x (or_parts (slice_index body 0 == x) false spared).0 (sym here));
  alike_stay_alike = λ body cells ok t u long-t long-u alike. (set_same t u (slice_index body 0) 0 (slice_index body 0) (long-t ∙ sym long-u) alike.0, tt);
  stays_within_top = λ body cells ok table long. set_within_top table (slice_index body 0) 0 (omega arith);
}
