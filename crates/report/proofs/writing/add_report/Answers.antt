use Rattle.std.proofs.Common.{◌≡◌, ◌∙◌, ◌++◌, refl, append_assoc}
use Rattle.envelope.specs.Kept.{sample_kept}
use Rattle.report.specs.Parts.{part_text}
use Rattle.report.specs.Report.{peak_text, samples_text}
use Rattle.report.specs.Reportable.{extremes_of}
use Rattle.report.specs.declared.writing.Part.TheVariants.{Cavities, Envelopes}
use Rattle.report.proofs.PlaceLines.{report_pieces}
use Rattle.surge_io.proofs.Chains.{has_added, stopped, then_added}
use Rattle.report.proofs.writing.add_report.Goals as goal

pub returns-in_err-add_samples : goal.returns-in_err-add_samples
returns-in_err-add_samples g c =
    let case = c.args.run.now.case.now in
    let mesh = c.args.run.now.mesh.now in
    let extremes = extremes_of mesh c.args.run.now.fold.now in
    let samples = sample_kept c.args.run.now.fold.now in
    let cavities = part_text Cavities case mesh extremes in
    let envelopes = part_text Envelopes case mesh extremes in
    let peak = peak_text case mesh extremes in
    let e : samples_text case samples ++ ((cavities ++ envelopes) ++ peak) ≡ ((samples_text case samples ++ cavities) ++ envelopes) ++ peak = simp append_assoc in
    stopped ((cavities ++ envelopes) ++ peak) (e ∙ report_pieces case mesh extremes samples) c.from_residual.ensures.0 c.in_err-add_samples.ensures

pub returns-in_err-add_part : goal.returns-in_err-add_part
returns-in_err-add_part g c =
    let case = c.args.run.now.case.now in
    let mesh = c.args.run.now.mesh.now in
    let extremes = extremes_of mesh c.args.run.now.fold.now in
    let samples = sample_kept c.args.run.now.fold.now in
    let envelopes = part_text Envelopes case mesh extremes in
    let peak = peak_text case mesh extremes in
    let first = samples_text case samples ++ part_text Cavities case mesh extremes in
    let e : first ++ (envelopes ++ peak) ≡ (first ++ envelopes) ++ peak = simp append_assoc in
    stopped (envelopes ++ peak) (e ∙ report_pieces case mesh extremes samples) c.from_residual-in_err-add_part.ensures.0 (then_added refl (has_added c.in_ok-add_samples.ensures) c.in_err-add_part.ensures)

pub returns-in_err-add_part-2 : goal.returns-in_err-add_part-2
returns-in_err-add_part-2 g c =
    let case = c.args.run.now.case.now in
    let mesh = c.args.run.now.mesh.now in
    let extremes = extremes_of mesh c.args.run.now.fold.now in
    stopped (peak_text case mesh extremes) (report_pieces case mesh extremes (sample_kept c.args.run.now.fold.now)) c.from_residual-in_err-add_part-2.ensures.0
    (then_added refl (has_added (then_added refl (has_added c.in_ok-add_samples.ensures) c.in_ok-add_part.ensures)) c.in_err-add_part-2.ensures)

pub returns : goal.returns
returns g c =
    let case = c.args.run.now.case.now in
    let mesh = c.args.run.now.mesh.now in
    then_added (report_pieces case mesh (extremes_of mesh c.args.run.now.fold.now) (sample_kept c.args.run.now.fold.now))
    (has_added (then_added refl (has_added (then_added refl (has_added c.in_ok-add_samples.ensures) c.in_ok-add_part.ensures)) c.in_ok-add_part-2.ensures)) c.add_peak.ensures
