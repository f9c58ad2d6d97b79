use Rattle.std.proofs.Common.{ℕ, ◌<◌}
use Rattle.regions.specs.Regions.{InStationBy}
use Rattle.regions.specs.Sides.{shape_at}
use Rattle.regions.proofs.shapes.Layout.in_stations.Given as goal

abbrev pub invariant-loop-shape : goal.invariant-loop-shape
invariant-loop-shape l = (k : ℕ) → k < l.shape-index
    → InStationBy l.self.window l.asked.station l.asked.region l.asked.pipe l.asked.place l.asked.step (shape_at l.self k) → ⊥
