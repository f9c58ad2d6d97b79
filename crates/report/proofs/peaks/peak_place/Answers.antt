use Rattle.std.proofs.Common.{◌≡◌, ◌∙◌, ap, sym, arith, length}
use Rattle.std.specs.List.{flat_map, fold, range_with_len}
use Rattle.case_model.specs.declared.cases.ProbeAt.TheVariants.{OnPipe}
use Rattle.report.specs.Bounds.{better, passing}
use Rattle.report.specs.Places.{pipe_places, places_of_pipe}
use Rattle.report.specs.Reportable.{extremes_of}
use Rattle.report.proofs.Leading.{best-is_first, passing-order}
use Rattle.report.proofs.Ordered.{first-pipe_place, folded_pipe}
use Rattle.report.proofs.peaks.peak_place.Goals as goal

pub loop-p-preserved : goal.loop-p-preserved
loop-p-preserved c = record {
  place = c.best_with_pipe-best.ensures.place
      ∙ ap (λ b. fold (better c.args.bound (extremes_of c.args.mesh.now c.args.fold.now)) b (places_of_pipe c.args.mesh.now c.loop-p.p)) c.loop-p.invariant.place
      ∙ sym (folded_pipe (better c.args.bound (extremes_of c.args.mesh.now c.args.fold.now)) (OnPipe 0 0) c.args.mesh.now c.loop-p.p);
  there = c.best_with_pipe-best.ensures.there;
}

pub returns-clause-place : goal.returns-clause-place
unfolding pipe_places
returns-clause-place c =
    let e : c.loop-p.p ≡ length c.args.mesh.now.pipes = omega (arith, ap length c.as_slice-p-end.ensures) in
    let first = first-pipe_place c.args.mesh.now c.requires.some in
    c.loop-p.invariant.place
    ∙ ap (λ n. fold (better c.args.bound (extremes_of c.args.mesh.now c.args.fold.now)) (OnPipe 0 0) (flat_map (places_of_pipe c.args.mesh.now) (range_with_len 0 n))) e
    ∙ best-is_first (passing c.args.bound) (extremes_of c.args.mesh.now c.args.fold.now) (OnPipe 0 0) first.0 (pipe_places c.args.mesh.now) (passing-order c.args.bound) first.1
