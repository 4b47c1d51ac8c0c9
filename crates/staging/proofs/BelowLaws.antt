-- Several memories rewound together.
use Rattle.std.proofs.Common.{◌≡◌, ℕ, suc, min, List, [], ◌∷◌, ◌++◌, length, take, drop, sym, refl, ap, ◌∙◌, ⊎_elim, arith}
use Rattle.std.proofs.lemmas.List.{take_all, drop_all}
use Rattle.std.proofs.lemmas.Bool.{cases_lt}
use Rattle.staging.specs.Below.{rewound_memory, rewound_all}
use Rattle.staging.specs.declared.traced.Traced.{Traced}

take_none : (n : ℕ) → take {A = ℕ} n [] ≡ []
take_none n = take_all n [] (omega arith)

drop_none : (n : ℕ) → drop {A = ℕ} n [] ≡ []
drop_none n = drop_all n [] (omega arith)

pub rewound_apart : (ms ns : List Traced) (counts : List ℕ) → rewound_all (ms ++ ns) counts ≡ rewound_all ms (take (length ms) counts) ++ rewound_all ns (drop (length ms) counts)
rewound_apart [] ns counts = refl
rewound_apart (m ∷ ms) ns [] =
    ap (λ l. rewound_memory m [] ∷ l) (rewound_apart ms ns [] ∙ ap (λ l. rewound_all ms l ++ rewound_all ns (drop (length ms) [])) (take_none (length ms)) ∙ ap (λ l. rewound_all ms [] ++ rewound_all ns l) (drop_none (length ms)))
rewound_apart (m ∷ ms) ns (c ∷ counts) =
    ap (λ l. rewound_memory m (c ∷ counts) ∷ l) (rewound_apart ms ns counts)

pub length_rewound : (ms : List Traced) (counts : List ℕ) → length (rewound_all ms counts) ≡ length ms
length_rewound [] counts = refl
length_rewound (m ∷ ms) counts = ap suc (length_rewound ms (drop 1 counts))

-- a cut at a place behind the end is one at the end
pub take_least : (counts : List ℕ) (n k : ℕ) → k ≡ min n (length counts) → take k counts ≡ take n counts
take_least counts n k least =
    ⊎_elim (λ lt. ap (λ m. take m counts) (omega (arith, least, lt))) (λ le. take_all k counts (omega (arith, least, le)) ∙ sym (take_all n counts le)) (cases_lt n (length counts))

pub drop_least : (counts : List ℕ) (n k : ℕ) → k ≡ min n (length counts) → drop k counts ≡ drop n counts
drop_least counts n k least =
    ⊎_elim (λ lt. ap (λ m. drop m counts) (omega (arith, least, lt))) (λ le. drop_all k counts (omega (arith, least, le)) ∙ sym (drop_all n counts le)) (cases_lt n (length counts))
