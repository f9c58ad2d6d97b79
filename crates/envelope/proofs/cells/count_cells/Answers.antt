use Rattle.std.proofs.Common.{◌+◌, ◌∙◌, get_or, ap, sym, arith, rules}
use Rattle.envelope.specs.Cells.{no_span}
use Rattle.envelope.proofs.Placed.{bases-few, next-base}
use Rattle.envelope.proofs.cells.count_cells.Goals as goal

pub overflow_add-count : goal.overflow_add-count
overflow_add-count c =
    let spans = c.args.spans.now in
    let i = c.loop-span.span-index in
    let n = next-base spans i (omega arith) in
    let f = bases-few spans (i + 1) c.requires (omega arith) in
    let e = c.loop-span.invariant in
    search rules

pub loop-span-preserved : goal.loop-span-preserved
loop-span-preserved c =
    let n = next-base c.args.spans.now c.loop-span.span-index (omega arith) in
    ap (λ x. x + (get_or c.args.spans.now c.loop-span.span-index no_span).1) c.loop-span.invariant ∙ sym n

pub returns-clause-few : goal.returns-clause-few
returns-clause-few c =
    let f = bases-few c.args.spans.now c.loop-span.span-index c.requires (omega arith) in
    let e = c.loop-span.invariant in
    omega arith
