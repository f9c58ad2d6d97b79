use Rattle.std.proofs.Common.{◌∙◌, ◌<◌, sym, subst, arith}
use Rattle.std.proofs.lemmas.List.{length-set}
use Rattle.envelope.specs.Cells.{bases_of}
use Rattle.envelope.specs.Lines.{IsMarked}
use Rattle.envelope.proofs.Sampled.{marked-more}
use Rattle.envelope.proofs.lines.mark.Goals as goal

pub loop-probe-preserved : goal.loop-probe-preserved
loop-probe-preserved c =
    let spans = c.args.spans.now in
    let cell = c.find_cell-cell.result in
    let there : cell < c.args.count = subst (λ n. cell < n) (sym c.requires.count) c.find_cell-cell.ensures.inside in
    record {
      each = length-set _ cell _ ∙ c.loop-probe.invariant.each;
      own = marked-more spans (bases_of spans) c.args.probes.now c.loop-probe.probe cell c.loop-probe.marks.items c.loop-probe.invariant.own c.find_cell-cell.ensures.cell (subst (λ n. cell < n) (sym c.loop-probe.invariant.each) there);
    }

pub returns : goal.returns
returns c = subst (λ n. IsMarked c.args.spans.now (bases_of c.args.spans.now) c.args.probes.now n c.loop-probe.marks.items) (omega arith) c.loop-probe.invariant.own
