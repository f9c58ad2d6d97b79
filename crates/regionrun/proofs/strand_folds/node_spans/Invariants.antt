use Rattle.std.specs.Prelude.{◌≡◌, ◌∷◌, map, take}
use Rattle.regionrun.specs.Right.{end_span}
use Rattle.regionrun.proofs.strand_folds.node_spans.Given as goal

abbrev pub invariant-loop-end : goal.invariant-loop-end
invariant-loop-end l =
    l.spans.items ≡ (l.node, 1) ∷ map (end_span l.mesh l.window) (take l.end-index l.end-items)
