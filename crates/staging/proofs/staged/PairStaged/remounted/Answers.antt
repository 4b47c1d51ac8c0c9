use Rattle.std.proofs.Common.{◌≡◌, min, ◌++◌, length, take, drop, sym, ap, ◌∙◌, arith}
use Rattle.std.proofs.lemmas.List.{take_at, drop_at, length-append}
use Rattle.staging.specs.Below.{rewound_all}
use Rattle.staging.proofs.BelowLaws.{rewound_apart, length_rewound, take_least, drop_least}
use Rattle.staging.proofs.staged.PairStaged.remounted.Goals as goal

pub returns-in-Ok-new : goal.returns-in-Ok-new
returns-in-Ok-new g c =
    let A = g.A.Chip in
    let B = g.B.Chip in
    let S = g.A.Staged in
    let U = g.B.Staged in
    let x = c.args.self.now.first in
    let y = c.args.self.now.second in
    let counts = c.args.counts.now in
    let n = length (S.below x) in
    let first = c.in_ok-first.ensures in
    let second = c.in-Ok.ensures in
    let made = c.in-Ok-new.ensures in
    let p = c.in-Ok-new.pair in
    let f = c.in_ok-first.first in
    let h = c.in-Ok.second in
    let same : length (S.below c.first.result.now) ≡ n = ap (λ z. length (S.below z)) c.first.ensures in
    let least : c.min-mid.result ≡ min n (length counts) = omega (arith, c.min-mid.ensures, c.memories.ensures, same) in
    let before = c.split_at.result.0.now in
    let behind = c.split_at.result.1.now in
    let front : before ≡ take n counts = c.split_at.ensures.front ∙ take_least counts n c.min-mid.result least in
    let back : behind ≡ drop n counts = c.split_at.ensures.back ∙ drop_least counts n c.min-mid.result least in
    let ws = rewound_all (S.below x ++ U.below y) counts in
    let wa = rewound_all (S.below x) (take n counts) in
    let wb = rewound_all (U.below y) (drop n counts) in
    let apart : ws ≡ wa ++ wb = rewound_apart (S.below x) (U.below y) counts in
    let long : length wa ≡ n = length_rewound (S.below x) (take n counts) in
    let fa : take n ws ≡ wa = ap (take n) apart ∙ take_at wa wb n long in
    let fb : drop n ws ≡ wb = ap (drop n) apart ∙ drop_at wa wb n long in
    let ea : A.accepted p.first ≡ S.finds x (take n ws) = made.first_settled.0 ∙ first.0 ∙ ap (λ z. S.finds z (rewound_all (S.below z) before)) c.first-2.ensures ∙ ap (λ k. S.finds x (rewound_all (S.below x) k)) front ∙ ap (S.finds x) (sym fa) in
    let eb : B.accepted p.second ≡ U.finds y (drop n ws) = ap B.accepted made.same_second ∙ second.0 ∙ ap (λ z. U.finds z (rewound_all (U.below z) behind)) c.second.ensures ∙ ap (λ k. U.finds y (rewound_all (U.below y) k)) back ∙ ap (U.finds y) (sym fb) in
    let na : length (A.accepted p.first) ≡ length (A.accepted f) = ap length made.first_settled.0 in
    let nb : length (B.accepted p.second) ≡ length (B.accepted h) = ap (λ z. length (B.accepted z)) made.same_second in
    let sb : B.settled p.second ≡ length (B.accepted h) = ap B.settled made.same_second ∙ second.1 in (
      ap (λ l. l ++ B.accepted p.second) ea ∙ ap (λ l. S.finds x (take n ws) ++ l) eb,
      omega (arith, length-append (A.accepted p.first) (B.accepted p.second), made.first_settled.1, na, nb, sb),
    )
