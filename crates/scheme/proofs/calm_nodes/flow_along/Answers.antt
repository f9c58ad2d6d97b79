use Rattle.std.proofs.Common.{arith, to_z-of_z, sym, ◌∙◌, get_or, ◌≡◌, ◌<◌, length}
use Rattle.scheme.specs.declared.prepared.PreparedPipe.TheVariants.{Explicit, Wide}
use Rattle.std.proofs.lemmas.Grind.{common_steps}
use Rattle.scheme.proofs.Calm.{in_words}
use Rattle.scheme.proofs.calm_nodes.flow_along.Goals as goal

pub returns-in-Some-Explicit-clause-value : goal.returns-in-Some-Explicit-clause-value
returns-in-Some-Explicit-clause-value c =
    λ case mesh prepared same.
    let pipe = c.args.end.now.pipe in
    let l = c.in-Some-Explicit.ensures.lookup in
    let below : pipe < length c.args.table.now = grind (arith, common_steps, l) in
    let entry : get_or c.args.table.now pipe Wide ≡ Explicit c.in-Some-Explicit.prepared = grind (arith, common_steps, l, c.in-Some-Explicit.field-0-is) in
    let o = in_words case mesh pipe (get_or c.args.table.now pipe Wide) c.in-Some-Explicit.prepared entry (prepared pipe below) in
    simp (to_z-of_z, c.ranges.head) at (c.flow_by.ensures.value (same ∙ sym o.1.impeded))
