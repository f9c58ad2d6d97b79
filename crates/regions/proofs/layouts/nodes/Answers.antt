use Rattle.std.proofs.Common.{◌∙◌, length, map, ap, refl, arith}
use Rattle.std.specs.List.{range_with_len}
use Rattle.case_model.proofs.RowLaws.{listed_more}
use Rattle.regions.specs.declared.shapes.Shape.TheVariants.{OfNode}
use Rattle.regions.proofs.layouts.nodes.Goals as goal

pub loop-node-preserved : goal.loop-node-preserved
loop-node-preserved c = listed_more OfNode c.loop-node.node _ _ _ c.loop-node.invariant c.in_ok-push.ensures.items refl

pub returns : goal.returns
returns c = c.loop-node.invariant ∙ ap (λ n. map OfNode (range_with_len 0 n)) (omega (arith, ap length c.as_slice.ensures))
