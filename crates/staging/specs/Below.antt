-- The traced memories below a chip.
--   held_words m               what a memory holds
--   noted_stores m             how many stores it has noted
--   rewound_memory m counts    what it held after as many stores as the first count says; without one, what it holds now
--   rewound_all ms counts      the same of each memory, with a count for each in their order
use Rattle.std.specs.Prelude.{ℕ, List, [], ◌∷◌, length, drop, vec_items, slice_index_or}
use Rattle.staging.specs.Rewind.{rewound}
use Rattle.staging.specs.declared.traced.Traced.{Traced}

abbrev pub held_words : Traced → List ℕ
held_words m = vec_items m.words

abbrev pub noted_stores : Traced → ℕ
noted_stores m = length (vec_items m.notes)

abbrev pub rewound_memory : Traced → List ℕ → List ℕ
rewound_memory m counts = rewound (held_words m) (vec_items m.notes) (slice_index_or counts 0 (noted_stores m))

abbrev pub rewound_all : List Traced → List ℕ → List (List ℕ)
rewound_all [] counts = []
rewound_all (m ∷ ms) counts = rewound_memory m counts ∷ rewound_all ms (drop 1 counts)
