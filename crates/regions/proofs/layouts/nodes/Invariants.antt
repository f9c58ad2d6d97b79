use Rattle.std.proofs.Common.{◌≡◌, map}
use Rattle.std.specs.List.{range_with_len}
use Rattle.regions.specs.declared.shapes.Shape.TheVariants.{OfNode}
use Rattle.regions.proofs.layouts.nodes.Given as goal

abbrev pub invariant-loop-node : goal.invariant-loop-node
invariant-loop-node l = l.shapes.items ≡ map OfNode (range_with_len 0 l.node)
