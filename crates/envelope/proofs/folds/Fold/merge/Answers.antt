use Rattle.std.proofs.Common.{subst, arith}
use Rattle.envelope.specs.Cells.{first_of_span, end_of_span}
use Rattle.envelope.specs.Faults.{HasFault}
use Rattle.envelope.specs.Folds.{spans_of, steps_of}
use Rattle.envelope.proofs.Merged.{joined-start, joined-on, joined-gap, gap-at, last-gap, mergeable, mergeable-still, places-merged, fault-wider}
use Rattle.envelope.proofs.Noted.{same-fault}
use Rattle.envelope.proofs.Told.{held, tells}
use Rattle.envelope.proofs.folds.Fold.merge.Goals as goal

pub loop-index-init : goal.loop-index-init
loop-index-init c = λ n g. joined-start c.args.self.now c.args.other.now n g

pub merge_span-requires-clause-mergeable : goal.merge_span-requires-clause-mergeable
merge_span-requires-clause-mergeable c =
    let o = c.args.self.now in
    let r = c.args.other.now in
    let m = mergeable o r c.requires.spans c.requires.probes c.requires.steps c.requires.every in
    let j = c.loop-index.invariant _ (gap-at (spans_of r) c.loop-index.index r.rising (omega arith)) in
    mergeable-still o c.loop-index.self r j.layout m

pub loop-index-preserved : goal.loop-index-preserved
loop-index-preserved c = λ n g.
    let o = c.args.self.now in
    let r = c.args.other.now in
    let i = c.loop-index.index in
    let m = mergeable o r c.requires.spans c.requires.probes c.requires.steps c.requires.every in
    let j = c.loop-index.invariant _ (gap-at (spans_of r) i r.rising (omega arith)) in
    joined-gap o r c.merge_span.new.self i n m (omega arith) g
    (joined-on o r c.loop-index.self c.merge_span.new.self 0 (first_of_span (spans_of r) i) (end_of_span (spans_of r) i) m (omega arith) (omega arith) j c.merge_span.ensures)

pub returns-clause-stands : goal.returns-clause-stands
returns-clause-stands c = λ map more p q g n.
    let o = c.args.self.now in
    let r = c.args.other.now in
    let s = c.loop-index.self in
    let j = c.loop-index.invariant 400000 (last-gap (spans_of r) c.loop-index.index r.rising (omega arith)) in
    let k = mergeable-still o s r j.layout (mergeable o r c.requires.spans c.requires.probes c.requires.steps c.requires.every) in
    tells (record {
      places = places-merged o r s map more 400000 j r.rising.low g n (held p) (held q);
      first_fault =
          c.earlier-self.ensures (spans_of s) (steps_of s) map more g (same-fault o s map j.layout (held p).first_fault)
          (fault-wider (spans_of r) (spans_of s) (steps_of s) more r.fault k.inside n (subst (λ l. HasFault (spans_of r) l more r.fault) k.steps_are (held q).first_fault));
    })

pub returns-clause-same : goal.returns-clause-same
returns-clause-same c =
    let r = c.args.other.now in
    let j = c.loop-index.invariant 400000 (last-gap (spans_of r) c.loop-index.index r.rising (omega arith)) in
    record { spans_are = j.layout.same.spans_are; probes_are = j.layout.same.probes_are; steps_are = j.layout.same.steps_are; every_is = j.layout.same.every_is }
