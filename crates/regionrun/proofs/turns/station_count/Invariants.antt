use Rattle.std.specs.Prelude.{◌≡◌, ℕ, ◌<◌, false}
use Rattle.regions.specs.Sides.{is_section}
use Rattle.regionrun.proofs.turns.station_count.Given as goal

abbrev pub invariant-loop-x : goal.invariant-loop-x
invariant-loop-x l = (x : ℕ) → x < l.x → is_section l.layout x ≡ false
