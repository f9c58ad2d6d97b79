use Rattle.std.specs.Prelude.{◌≡◌, take}
use Rattle.std.specs.List.{filter}
use Rattle.envelope.specs.Cells.{is_within}
use Rattle.regionrun.proofs.strand_folds.probes_within.Given as goal

abbrev pub invariant-loop-probe : goal.invariant-loop-probe
invariant-loop-probe l = l.inside.items ≡ filter (is_within l.spans) (take l.probe-index l.probes)
