use Rattle.std.proofs.Common.{◌-◌, ◌≤◌, ◌⊎◌, ◌≡◌}
use Rattle.fronts.specs.Bands.{IsStepped}
use Rattle.fronts.proofs.stretches.Stretch.raise_run.Given as goal

abbrev pub invariant-loop-place : goal.invariant-loop-place
invariant-loop-place g l = record {
  stepped : IsStepped (g.L.Law.meaning l.law) l.step (λ x. x) l.low l.place l.fn.self l.self;
  from : l.low ≤ l.place;
  to : (l.place ≤ l.high) ⊎ (l.place ≡ l.low);
}

abbrev pub decreases-loop-place : goal.decreases-loop-place
decreases-loop-place g l = l.high - l.place
