use Rattle.std.proofs.Common.{ℕ, ◌==◌, ◌&&◌, Bool, List, get_or, subst}
use Rattle.case_model.specs.declared.cases.Probe.{Probe}
use Rattle.case_model.specs.Parts.{no_probe, probe_at}
use Rattle.case_model.specs.Sets.{FindsLeast, on_line}
use Rattle.case_model.specs.Bounds.{LeastOrNone}
use Rattle.case_model.specs.Refusals.{is_off}
use Rattle.reaches.proofs.probes.probe_refusal.Goals as goal

pub returns : goal.returns
returns c =
    let case = c.args.decided.now.case.now in
    let i = c.args.probe in
    let off : Probe → ℕ → Bool = λ q number. (number == 16) && is_off case q.at in
    let j : FindsLeast (off (probe_at case i)) c.judge.result =
    subst (λ (xs : List Probe). FindsLeast (off (get_or xs i no_probe)) c.judge.result) c.as_slice.ensures c.judge.ensures in
    subst (λ (xs : List Probe). LeastOrNone (on_line (get_or xs i no_probe).line (off (probe_at case i))) c.on.result) c.as_slice.ensures
    (c.on.ensures (off (probe_at case i)) j)
