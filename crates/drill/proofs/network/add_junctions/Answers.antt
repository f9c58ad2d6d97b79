use Rattle.std.proofs.Common.{◌∙◌, ◌+◌, ◌++◌, ap}
use Rattle.drill.specs.Network.{junction_text}
use Rattle.drill.proofs.Chains.{no_junction, one_junction}
use Rattle.drill.proofs.network.add_junctions.Goals as goal

pub loop-i-init : goal.loop-i-init
loop-i-init c = no_junction c.args.text.now.items

pub loop-i-preserved : goal.loop-i-preserved
loop-i-preserved c =
    c.in_ok-extend_from_slice.ensures.items
    ∙ ap (λ l. c.loop-i.text.items ++ l) (c.as_bytes.ensures ∙ c.junction_line-line.ensures)
    ∙ ap (λ l. l ++ junction_text (c.loop-i.i + 1)) c.loop-i.invariant
    ∙ one_junction c.args.text.now.items c.loop-i.i
