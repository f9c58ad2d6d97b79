use Rattle.std.proofs.Common.{◌∙◌, ap, sym}
use Rattle.case_model.specs.declared.cases.ProbeAt.TheVariants.{OnPipe}
use Rattle.report.specs.Bounds.{better}
use Rattle.report.specs.Reportable.{extremes_of}
use Rattle.report.proofs.Ordered.{folded_place}
use Rattle.report.proofs.peaks.best_with_pipe.Goals as goal

pub loop-i-preserved : goal.loop-i-preserved
loop-i-preserved c = record {
  place = c.better-best.ensures.place
      ∙ ap (λ b. better c.args.bound (extremes_of c.args.mesh.now c.args.fold.now) b (OnPipe c.args.pipe c.loop-i.i)) c.loop-i.invariant.place
      ∙ sym (folded_place (better c.args.bound (extremes_of c.args.mesh.now c.args.fold.now)) c.args.best c.args.pipe c.loop-i.i);
  there = c.better-best.ensures.there;
}
