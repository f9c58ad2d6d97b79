use Rattle.std.specs.Prelude.{◌≡◌, false, take}
use Rattle.std.specs.List.{list_any}
use Rattle.envelope.specs.Cells.{has_place}
use Rattle.regionrun.proofs.strand_folds.lies_within.Given as goal

abbrev pub invariant-loop-span : goal.invariant-loop-span
invariant-loop-span l = list_any (has_place l.place) (take l.span-index l.spans) ≡ false
