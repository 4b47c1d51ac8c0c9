use Rattle.std.proofs.Common.{◌≡◌, vec_items}
use Rattle.staging.specs.Rewind.{undone, rewound}
use Rattle.staging.proofs.traced.Traced.after.Given as goal

abbrev pub invariant-loop-note : goal.invariant-loop-note
invariant-loop-note l =
    undone (vec_items l.words) l.note-iterator.iter.rest.now ≡ rewound (vec_items l.self.words) (vec_items l.self.notes) l.stores
