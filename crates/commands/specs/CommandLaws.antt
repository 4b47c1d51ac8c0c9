-- What a well-formed command names and does.
--   Sound cells f      what the fields of a well-formed body keep
--   Used cells x       a cell that an operation can use
--   by_each            a fact of a sound command, shown for each operation with what is known of its cells
--   after f t x        a cell's value after the effect, from the values of the sender's cell, of a, of b, and of the cell
--   commands_lawful    the laws that every kind of work has to keep
--   once_only          a number that is not above its sender's changes nothing, so a command that was run never acts again
use Rattle.std.specs.Prelude.{◌≡◌, ℕ, suc, ◌+◌, ◌<◌, ◌≤◌, min, Bool, true, false, cond, ◌&&◌, ◌≢◌, ◌⊎◌, List, [], ◌∷◌, length, Ok, ◌==◌, nat_le, nat_lt, slice_index, slice_index_or, slice_set, refl, zero, ◌-◌}
use Rattle.std.proofs.Common.{inl, inr, sym, ap, subst, ◌∙◌, arith}
use Rattle.std.specs.List.{AllByRecursion}
use Rattle.std.proofs.ByRecursion.{All-weaker}
use Rattle.std.proofs.lemmas.Bool.{or_parts, cond_both}
use Rattle.std.proofs.lemmas.Bool.Decides.{nat_tests}
use Rattle.std.proofs.lemmas.Grind.{common_steps}
use Rattle.work.specs.declared.name.Name.{Name}
use Rattle.work.specs.KindLaws.{payloads_below}
use Rattle.work.specs.Kinds.{Lawful, Alike, WithinTop, top, rising, rising_from, within, written, writing, reading, nth}
use Rattle.commands.specs.declared.commands.Command.{Command}
use Rattle.commands.specs.Commands.{fields, by_operation, is_operation, usable, cells_there, cells_apart, placed, command_names, acted, above_latest, command_effect, command_judged, commands, run_each, OnceOnly}

record Sound (cells : ℕ) (f : Command) : Type 0 where
  sender_is_one : f.sender < 8
  number_fits : f.number < 8388608
  operation_known : is_operation f ≡ true
  all_cells_there : cells_there cells f ≡ true
  cells_are_apart : cells_apart f ≡ true

judged_fits : (body : List ℕ) (cells : ℕ) → command_judged body cells ≡ Ok tt → AllByRecursion (λ p. p ≤ top) body
judged_fits body cells h =
    payloads_below body (grind arith)

judged_sound : (body : List ℕ) (cells : ℕ) → command_judged body cells ≡ Ok tt → Sound cells (fields body)
judged_sound body cells h =
    record {
      sender_is_one = omega arith;
      number_fits = omega arith;
      operation_known = grind arith;
      all_cells_there = grind arith;
      cells_are_apart = grind arith;
    }

-- what is known of the cells of each operation
record Used (cells x : ℕ) : Type 0 where
  above_senders : 7 < x
  in_table : x < cells

record Closing (cells : ℕ) (f : Command) : Type 0 where
  a_used : Used cells f.a
  b_used : Used cells f.b
  a_not_b : f.a ≢ f.b

record Latching (cells : ℕ) (f : Command) : Type 0 where
  a_used : Used cells f.a
  b_used : Used cells f.b
  c_used : Used cells f.c
  a_not_b : f.a ≢ f.b
  a_not_c : f.a ≢ f.c
  b_not_c : f.b ≢ f.c

used_from : (cells x : ℕ) → usable cells x ≡ true → Used cells x
used_from cells x h =
    record { above_senders = grind (arith, nat_tests); in_table = grind (arith, nat_tests) }

abbrev with_operation : ℕ → Command → Command
with_operation k f =
    record { operation = k; sender = f.sender; number = f.number; a = f.a; b = f.b; c = f.c; spare = f.spare; amount = f.amount }

closing_from : (cells : ℕ) (f : Command) → cells_there cells (with_operation 2 f) ≡ true → cells_apart (with_operation 2 f) ≡ true → Closing cells f
closing_from cells f there apart = record {
  a_used = used_from cells f.a (grind (arith, nat_tests));
  b_used = used_from cells f.b (grind (arith, nat_tests));
  a_not_b = grind (arith, nat_tests);
}

latching_from : (cells : ℕ) (f : Command) → cells_there cells (with_operation 3 f) ≡ true → cells_apart (with_operation 3 f) ≡ true → Latching cells f
latching_from cells f there apart = record {
  a_used = used_from cells f.a (grind (arith, nat_tests));
  b_used = used_from cells f.b (grind (arith, nat_tests));
  c_used = used_from cells f.c (grind (arith, nat_tests));
  a_not_b = grind (arith, nat_tests);
  a_not_c = grind (arith, nat_tests);
  b_not_c = grind (arith, nat_tests);
}

adding_of : (cells : ℕ) (f : Command) → Sound cells f → f.operation ≡ 1 → Used cells f.a
adding_of cells f h e = let there = h.all_cells_there in used_from cells f.a (grind (arith, nat_tests))

closing_of : (cells : ℕ) (f : Command) → Sound cells f → f.operation ≡ 2 → Closing cells f
closing_of cells f h e =
    let there = h.all_cells_there in
    let apart = h.cells_are_apart in
    record {
      a_used = used_from cells f.a (grind (arith, nat_tests));
      b_used = used_from cells f.b (grind (arith, nat_tests));
      a_not_b = grind (arith, nat_tests);
    }

latching_of : (cells : ℕ) (f : Command) → Sound cells f → f.operation ≡ 3 → Latching cells f
latching_of cells f h e =
    let there = h.all_cells_there in
    let apart = h.cells_are_apart in
    record {
      a_used = used_from cells f.a (grind (arith, nat_tests));
      b_used = used_from cells f.b (grind (arith, nat_tests));
      c_used = used_from cells f.c (grind (arith, nat_tests));
      a_not_b = grind (arith, nat_tests);
      a_not_c = grind (arith, nat_tests);
      b_not_c = grind (arith, nat_tests);
    }

-- at a known operation all that goes by the operation computes
by_each : (P : Command → Type 0) (cells : ℕ) (f : Command) → Sound cells f → (Used cells f.a → P (with_operation 1 f)) → (Closing cells f → P (with_operation 2 f)) → (Latching cells f → P (with_operation 3 f)) → P f
by_each P cells f h add close latch =
    let one : ((f.operation ≡ 1) ⊎ (f.operation ≡ 2)) ⊎ (f.operation ≡ 3) = grind (arith, nat_tests, h.operation_known) in
    let back : (k : ℕ) → f.operation ≡ k → P (with_operation k f) → P f = λ k e p. subst (λ n. P (with_operation n f)) (sym e) p in
    elim one [
      | inl e ↦ elim e [
        | inl e ↦ back 1 e (add (adding_of cells f h e))
        | inr e ↦ back 2 e (close (closing_of cells f h e))
      ]
      | inr e ↦ back 3 e (latch (latching_of cells f h e))
    ]

-- names that are put into their places
all_placed : (P : Name → Type 0) (n : Name) (ms : List Name) → P n → AllByRecursion P ms → AllByRecursion P (placed n ms)
all_placed P n [] p h = (p, tt)
all_placed P n (m ∷ ms) p h =
    cond_both (nat_lt n.cell m.cell) (n ∷ m ∷ ms) (m ∷ placed n ms) (λ l. AllByRecursion P l) (λ _. (p, h)) (λ _. (h.0, all_placed P n ms p h.1))

placed_all : (P : Name → Type 0) (n : Name) (ms : List Name) → AllByRecursion P (placed n ms) → P n × AllByRecursion P ms
placed_all P n [] h = h
placed_all P n (m ∷ ms) h =
    cond_both (nat_lt n.cell m.cell) (n ∷ m ∷ ms) (m ∷ placed n ms) (λ l. AllByRecursion P l → P n × AllByRecursion P (m ∷ ms))
    (λ _ h. h) (λ _ h. let r = placed_all P n ms h.1 in (r.0, (h.0, r.1))) h

length_placed : (n : Name) (ms : List Name) → length (placed n ms) ≡ suc (length ms)
length_placed n [] = refl
length_placed n (m ∷ ms) = let rest = length_placed n ms in grind (arith, common_steps)

abbrev close_names : Command → List Name
close_names f = placed (writing f.a) (writing f.b ∷ [])

abbrev latch_names : Command → List Name
latch_names f = placed (reading f.a) (placed (reading f.b) (writing f.c ∷ []))

all_close : (P : Name → Type 0) (f : Command) → P (writing f.a) → P (writing f.b) → AllByRecursion P (close_names f)
all_close P f a b = all_placed P (writing f.a) (writing f.b ∷ []) a (b, tt)

all_latch : (P : Name → Type 0) (f : Command) → P (reading f.a) → P (reading f.b) → P (writing f.c) → AllByRecursion P (latch_names f)
all_latch P f a b c =
    all_placed P (reading f.a) (placed (reading f.b) (writing f.c ∷ [])) a (all_placed P (reading f.b) (writing f.c ∷ []) b (c, tt))

close_all : (P : Name → Type 0) (f : Command) → AllByRecursion P (close_names f) → P (writing f.a) × P (writing f.b)
close_all P f h =
    let p = placed_all P (writing f.a) (writing f.b ∷ []) h in
    (p.0, p.1.0)

latch_all : (P : Name → Type 0) (f : Command) → AllByRecursion P (latch_names f) → P (reading f.a) × P (reading f.b) × P (writing f.c)
latch_all P f h =
    let p = placed_all P (reading f.a) (placed (reading f.b) (writing f.c ∷ [])) h in
    let q = placed_all P (reading f.b) (writing f.c ∷ []) p.1 in
    (p.0, q.0, q.1.0)

rising_placed : (low : ℕ) (n : Name) (ms : List Name) → low ≤ n.cell → rising_from low ms ≡ true → AllByRecursion (λ m. n.cell ≢ m.cell) ms → rising_from low (placed n ms) ≡ true
rising_placed low n [] l r d = grind (arith, nat_tests)
rising_placed low n (m ∷ ms) l r d =
    let rest = rising_placed (suc m.cell) n ms in
    grind (arith, nat_tests)

within_all : (cells : ℕ) (ns : List Name) → AllByRecursion (λ n. n.cell < cells) ns → within cells ns ≡ true
within_all cells [] h = refl
within_all cells (n ∷ ns) h = let rest = within_all cells ns h.1 in grind (arith, nat_tests)

unwritten : (ns : List Name) (x : ℕ) → written ns x ≡ false → AllByRecursion (λ n. n.writes ≡ true → x ≢ n.cell) ns
unwritten [] x h = tt
unwritten (n ∷ ns) x h =
    let p = or_parts (n.writes && n.cell == x) (written ns x) h in
    (λ w e. grind (arith, nat_tests), unwritten ns x p.1)

-- the table after the effect
get_or_cond : (b : Bool) (t u : List ℕ) (x : ℕ) → slice_index (cond b t u) x ≡ cond b (slice_index t x) (slice_index u x)
get_or_cond b t u x = grind arith

abbrev after_acting : Command → List ℕ → ℕ → ℕ
after_acting f t x =
    cond (x == f.sender) f.number (by_operation f
    (cond (x == f.a) (min top (slice_index t f.a + f.amount)) (slice_index t x))
    (cond (x == f.a) 0 (cond (x == f.b) (slice_index t f.a) (slice_index t x)))
    (cond (nat_le f.amount (slice_index t f.b) && x == f.c) (slice_index t f.a) (slice_index t x))
    (slice_index t x))

abbrev after : Command → List ℕ → ℕ → ℕ
after f t x = cond (above_latest f t) (after_acting f t x) (slice_index t x)

acted_at : (f : Command) (t : List ℕ) → Sound (length t) f → (x : ℕ) → slice_index (acted f (slice_set t f.sender f.number)) x ≡ after_acting f t x
acted_at f t h x =
    by_each (λ g. slice_index (acted g (slice_set t g.sender g.number)) x ≡ after_acting g t x) (length t) f h
    (λ u. grind (arith, nat_tests, common_steps))
    (λ u. grind (arith, nat_tests, common_steps))
    (λ u. grind (arith, nat_tests, common_steps))

effect_at : (f : Command) (t : List ℕ) → Sound (length t) f → (x : ℕ) → slice_index (command_effect f t) x ≡ after f t x
effect_at f t h x =
    let new = above_latest f t in
    get_or_cond new (acted f (slice_set t f.sender f.number)) t x ∙ ap (λ v. cond new v (slice_index t x)) (acted_at f t h x)

unwritten_stays : (cells : ℕ) (f : Command) → Sound cells f → (t : List ℕ) (x : ℕ) → written (command_names f) x ≡ false → after f t x ≡ slice_index t x
unwritten_stays cells f h t x =
    let P : Name → Type 0 = λ n. n.writes ≡ true → x ≢ n.cell in
    let others : (k : ℕ) → written (command_names (with_operation k f)) x ≡ false → AllByRecursion P (command_names (with_operation k f)) = λ k w. unwritten (command_names (with_operation k f)) x w in
    by_each (λ g. written (command_names g) x ≡ false → after g t x ≡ slice_index t x) cells f h
    (λ _ w. let u = others 1 w in grind (arith, nat_tests, u.0 refl, u.1.0 refl))
    (λ _ w. let u = others 2 w in let p = close_all P f u.1 in grind (arith, nat_tests, u.0 refl, p.0 refl, p.1 refl))
    (λ _ w. let u = others 3 w in grind (arith, nat_tests, u.0 refl, (latch_all P f u.1).2 refl))

after_within_top : (cells : ℕ) (f : Command) → Sound cells f → (t : List ℕ) → WithinTop t → (x : ℕ) → after f t x ≤ top
after_within_top cells f h t low x =
    let at_a = low f.a in
    let at_x = low x in
    by_each (λ g. after g t x ≤ top) cells f h (λ _. grind (arith, nat_tests)) (λ _. grind (arith, nat_tests)) (λ _. grind (arith, nat_tests))

alike_after : (cells : ℕ) (f : Command) → Sound cells f → (t u : List ℕ) → Alike (command_names f) t u → (x : ℕ) → slice_index t x ≡ slice_index u x → after f t x ≡ after f u x
alike_after cells f h t u alike x same =
    let P : Name → Type 0 = λ n. slice_index t n.cell ≡ slice_index_or u n.cell 0 in
    by_each (λ g. Alike (command_names g) t u → after g t x ≡ after g u x) cells f h
    (λ _ l. cc (l.0, l.1.0))
    (λ _ l. cc (l.0, (close_all P f l.1).0))
    (λ _ l. let p = latch_all P f l.1 in cc (l.0, p.0, p.1))
    alike

-- what a sound command names
few_names : (cells : ℕ) (f : Command) → Sound cells f → length (command_names f) ≤ 8
few_names cells f h =
    let two = length_placed (writing f.a) (writing f.b ∷ []) in
    let three = length_placed (reading f.a) (placed (reading f.b) (writing f.c ∷ [])) ∙ ap suc (length_placed (reading f.b) (writing f.c ∷ [])) in
    by_each (λ g. length (command_names g) ≤ 8) cells f h (λ _. omega arith) (λ _. omega arith) (λ _. omega arith)

names_within : (cells : ℕ) (f : Command) → Sound cells f → AllByRecursion (λ n. n.cell < cells) (command_names f)
names_within cells f h =
    let P : Name → Type 0 = λ n. n.cell < cells in
    by_each (λ g. AllByRecursion P (command_names g)) cells f h
    (λ u. (omega arith, (u.in_table, tt)))
    (λ u. (omega arith, all_close P f u.a_used.in_table u.b_used.in_table))
    (λ u. (omega arith, all_latch P f u.a_used.in_table u.b_used.in_table u.c_used.in_table))

close_rises : (low cells : ℕ) (f : Command) → low ≤ 8 → Closing cells f → rising_from low (close_names f) ≡ true
close_rises low cells f l h =
    rising_placed low (writing f.a) (writing f.b ∷ []) (omega arith) (grind (arith, nat_tests)) (h.a_not_b, tt)

latch_rises : (low cells : ℕ) (f : Command) → low ≤ 8 → Latching cells f → rising_from low (latch_names f) ≡ true
latch_rises low cells f l h =
    let rest = placed (reading f.b) (writing f.c ∷ []) in
    let rest-rises = rising_placed low (reading f.b) (writing f.c ∷ []) (omega arith) (grind (arith, nat_tests)) (h.b_not_c, tt) in
    let apart = all_placed (λ m. f.a ≢ m.cell) (reading f.b) (writing f.c ∷ []) h.a_not_b (h.a_not_c, tt) in
    rising_placed low (reading f.a) rest (omega arith) rest-rises apart

names_rise : (cells : ℕ) (f : Command) → Sound cells f → rising (command_names f) ≡ true
names_rise cells f h =
    by_each (λ g. rising (command_names g) ≡ true) cells f h
    (λ u. grind (arith, nat_tests))
    (λ u. let rest = close_rises (suc f.sender) cells f (omega arith) u in grind (arith, nat_tests))
    (λ u. let rest = latch_rises (suc f.sender) cells f (omega arith) u in grind (arith, nat_tests))

pub latch_name : (f : Command) (x y z : Name) (i : ℕ) → f.operation ≡ 3 → i ≢ 0 → x ≡ reading f.a → y ≡ reading f.b → z ≡ writing f.c
    → nth (placed x (placed y (z ∷ []))) (i - 1) ≡ nth (command_names f) i
latch_name f x y z zero o l ex ey ez = absurd (l refl)
latch_name f x y z (suc i) o l ex ey ez =
    let back : suc i - 1 ≡ i = omega arith in
    rw (o, back, ex, ey, ez)

-- and what its effect keeps
effect_length : (f : Command) (t : List ℕ) → length (command_effect f t) ≡ length t
effect_length f t = grind (arith, nat_tests, common_steps)

old_number_stays : (f : Command) (t : List ℕ) → f.number ≤ slice_index t f.sender → command_effect f t ≡ t
old_number_stays f t l = grind (arith, nat_tests)

-- the sender's cell has at least the number of a command that was run, and no later command takes that away
number_reached : (f : Command) (t : List ℕ) → Sound (length t) f → f.number ≤ slice_index (command_effect f t) f.sender
number_reached f t h = rw (effect_at f t h f.sender) (grind (arith, nat_tests))

latest_never_falls : (f : Command) (t : List ℕ) → Sound (length t) f → (x : ℕ) → x < 8 → slice_index t x ≤ slice_index (command_effect f t) x
latest_never_falls f t h x low =
    rw (effect_at f t h x)
    (by_each (λ g. slice_index t x ≤ after g t x) (length t) f h
    (λ u. grind (arith, nat_tests))
    (λ u. grind (arith, nat_tests))
    (λ u. grind (arith, nat_tests)))

sound_at : (body : List ℕ) (cells : ℕ) → command_judged body cells ≡ Ok tt → (t : List ℕ) → length t ≡ cells → Sound (length t) (fields body)
sound_at body cells h t e = rw e (judged_sound body cells h)

latest_kept : (cells x n : ℕ) → x < 8 → (bodies : List (List ℕ)) (t : List ℕ) → AllByRecursion (λ other. command_judged other cells ≡ Ok tt) bodies → length t ≡ cells → n ≤ slice_index t x → n ≤ slice_index (run_each bodies t) x
latest_kept cells x n low [] t well long h = h
latest_kept cells x n low (body ∷ bodies) t well long h =
    let f = fields body in
    let higher = latest_never_falls f t (sound_at body cells well.0 t long) x low in
    latest_kept cells x n low bodies (command_effect f t) well.1 (effect_length f t ∙ long) (omega arith)

pub commands_lawful : Lawful commands
commands_lawful =
    record {
      some_named = λ body cells h. omega arith;
      few_named = λ body cells h. few_names cells (fields body) (judged_sound body cells h);
      named_once_in_rising_number = λ body cells h. names_rise cells (fields body) (judged_sound body cells h);
      named_are_there = λ body cells h. within_all cells (command_names (fields body)) (names_within cells (fields body) (judged_sound body cells h));
      one_for_writing = λ body cells h. refl;
      all_payloads_fit = judged_fits;
      keeps_length = λ body table. effect_length (fields body) table;
      only_written_change = λ body cells h table e x w.
          let f = fields body in
          effect_at f table (sound_at body cells h table e) x ∙ unwritten_stays cells f (judged_sound body cells h) table x w;
      alike_stay_alike = λ body cells h t u et eu alike.
          let f = fields body in
          All-weaker (λ n. slice_index t n.cell ≡ slice_index u n.cell) (λ n. slice_index (command_effect f t) n.cell ≡ slice_index (command_effect f u) n.cell)
          (λ n same. effect_at f t (sound_at body cells h t et) n.cell ∙ alike_after cells f (judged_sound body cells h) t u alike n.cell same ∙ sym (effect_at f u (sound_at body cells h u eu) n.cell))
          (command_names f) alike;
      stays_within_top = λ body cells h table e low x.
          let f = fields body in
          rw (effect_at f table (sound_at body cells h table e) x) (after_within_top cells f (judged_sound body cells h) table low x);
    }

pub once_only : (body table : List ℕ) → OnceOnly body table
once_only body table =
    record {
      old_number_changes_nothing = old_number_stays (fields body) table;
      never_acts_again = λ cells h e between well.
          let f = fields body in
          let sound = sound_at body cells h table e in
          old_number_stays f (run_each between (command_effect f table)) (latest_kept cells f.sender f.number sound.sender_is_one between (command_effect f table) well (effect_length f table ∙ e) (number_reached f table sound));
    }
