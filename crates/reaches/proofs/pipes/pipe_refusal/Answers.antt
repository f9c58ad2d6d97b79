use Rattle.std.proofs.Common.{◌∙◌, subst, sym}
use Rattle.case_model.specs.declared.cases.Pipe.{Pipe}
use Rattle.case_model.specs.Parts.{no_pipe, pipe_at}
use Rattle.case_model.specs.Sets.{on_line}
use Rattle.case_model.specs.Bounds.{LeastOrNone}
use Rattle.case_model.specs.Refusals.{breaks_pipe}
use Rattle.reaches.specs.Decided.{IsDecided}
use Rattle.reaches.proofs.Read.{read_as}
use Rattle.reaches.proofs.pipes.pipe_refusal.Goals as goal

pub returns : goal.returns
returns c =
    let case = c.args.decided.now.case.now in
    let k = c.args.pipe in
    let q = c.index-as_slice-pipe.result in
    let d = subst (IsDecided case k) (sym c.decision_at.ensures) (c.requires.decided.found k c.requires.there) in
    let j = c.broken_rule.ensures case.dt case.tolerance (pipe_at case k) d in
    subst (λ (p : Pipe). LeastOrNone (on_line p.line (breaks_pipe case.dt case.tolerance (pipe_at case k))) c.on.result)
    (sym c.index-as_slice-pipe.is ∙ read_as c.as_slice.result.now case.pipes k q no_pipe c.index-as_slice-pipe.is c.as_slice.ensures c.requires.there)
    (c.on.ensures (breaks_pipe case.dt case.tolerance (pipe_at case k)) j)
