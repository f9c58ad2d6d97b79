use Rattle.std.proofs.Common.{◌+◌, ◌∙◌, length, get_or, sym, ap, arith, rules}
use Rattle.envelope.specs.Cells.{end_of_span, no_span}
use Rattle.envelope.proofs.Placed.{bases-few, cell-here, first-base, laid-out, next-base, placed-here, span-found, span-next, span-there, up-to}
use Rattle.envelope.proofs.cells.find_cell.Goals as goal

pub loop-index-init : goal.loop-index-init
loop-index-init c = record {
  inside = span-there c.args.spans.now c.args.place c.requires.within;
  passed = λ i h. absurd (omega arith);
  is = sym (first-base 0 c.args.spans.now);
}

pub overflow_add-before : goal.overflow_add-before
overflow_add-before c =
    let spans = c.args.spans.now in
    let i = c.loop-index.index in
    let n = next-base spans i c.loop-index.invariant.inside in
    let f = bases-few spans (i + 1) c.requires.rising (omega arith) in
    let e = c.loop-index.invariant.is in
    search rules

pub loop-index-preserved : goal.loop-index-preserved
loop-index-preserved c =
    let spans = c.args.spans.now in
    let index = c.loop-index.index in
    let i = c.loop-index.invariant in
    let past = up-to (λ k. end_of_span spans k) c.args.place index i.passed (omega arith) in
    record {
      inside = span-next spans c.args.place index c.requires.within past;
      passed = λ k h. past k (omega arith);
      is = ap (λ x. x + (get_or spans index no_span).1) i.is ∙ sym (next-base spans index i.inside);
    }

pub overflow_sub-result : goal.overflow_sub-result
overflow_sub-result c =
    let i = c.loop-index.invariant in
    (placed-here c.args.spans.now c.args.place c.loop-index.index c.requires.rising c.requires.within i.inside i.passed (omega arith)).low

pub overflow_add-result : goal.overflow_add-result
overflow_add-result c =
    let spans = c.args.spans.now in
    let index = c.loop-index.index in
    let i = c.loop-index.invariant in
    let p = placed-here spans c.args.place index c.requires.rising c.requires.within i.inside i.passed (omega arith) in
    let low = p.low in
    let high = p.high in
    let n = next-base spans index i.inside in
    let f = bases-few spans (index + 1) c.requires.rising (omega arith) in
    let e = i.is in
    search rules

pub returns-clause-cell : goal.returns-clause-cell
returns-clause-cell c =
    let i = c.loop-index.invariant in
    cell-here c.args.spans.now c.args.place c.loop-index.index c.loop-index.before
    (span-found c.args.spans.now c.args.place c.loop-index.index i.inside i.passed (omega arith)) i.is

pub returns-clause-inside : goal.returns-clause-inside
returns-clause-inside c =
    let spans = c.args.spans.now in
    let index = c.loop-index.index in
    let i = c.loop-index.invariant in
    let p = placed-here spans c.args.place index c.requires.rising c.requires.within i.inside i.passed (omega arith) in
    let low = p.low in
    let high = p.high in
    let a = (laid-out spans c.requires.rising).apart index (length spans) i.inside (omega arith) in
    let e = i.is in
    omega arith
