use Rattle.std.proofs.Common.{ap, arith, length, refl}
use Rattle.envelope.specs.Kept.{sample_kept}
use Rattle.report.specs.Report.{probe_lines, samples_text}
use Rattle.surge_io.proofs.Chains.{all_indexes, next_index, stopped_index}
use Rattle.report.proofs.writing.add_samples.Goals as goal

pub returns-in_err-add_probe : goal.returns-in_err-add_probe
unfolding samples_text
returns-in_err-add_probe g c =
    stopped_index (probe_lines c.args.run.now.case.now (sample_kept c.args.run.now.fold.now)) c.loop-probe.probe (length c.args.run.now.case.now.probes) (omega (arith, ap length c.as_slice-probe-end.ensures)) refl c.from_residual.ensures.0 c.loop-probe.invariant c.in_err-add_probe.ensures

pub loop-probe-preserved : goal.loop-probe-preserved
loop-probe-preserved g c = next_index (probe_lines c.args.run.now.case.now (sample_kept c.args.run.now.fold.now)) c.loop-probe.probe refl c.loop-probe.invariant c.in_ok-add_probe.ensures

pub returns : goal.returns
unfolding samples_text
returns g c = all_indexes (probe_lines c.args.run.now.case.now (sample_kept c.args.run.now.fold.now)) c.loop-probe.probe (length c.args.run.now.case.now.probes) (omega (arith, ap length c.as_slice-probe-end.ensures)) c.loop-probe.invariant
