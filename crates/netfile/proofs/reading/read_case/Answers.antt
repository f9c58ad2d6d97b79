use Rattle.std.proofs.Common.{◌≡◌, Err, subst, sym, ap, ◌∙◌, inl, inr, arith}
use Rattle.case_model.specs.declared.cases.Case.{Case}
use Rattle.case_model.specs.Sets.{AreEmpty, IsFirst}
use Rattle.case_model.specs.Division.{mesh_of}
use Rattle.case_model.specs.Refusals.{passes}
use Rattle.case_model.specs.Limits.{IsRead}
use Rattle.case_lines.specs.Texts.{lines_of}
use Rattle.case_model.specs.Accepted.{IsAccepted}
use Rattle.netfile.specs.Built.{case_of}
use Rattle.netfile.proofs.FieldLimits.{all_named, all_placed}
use Rattle.netfile.proofs.Judged.{is_read, passed_on, long_refused, refused, accepted, fulfilled}
use Rattle.netfile.proofs.reading.read_case.Goals as goal

pub returns-then-bytes-gt-MOST_BYTES-clause-refused :
    goal.returns-then-bytes-gt-MOST_BYTES-clause-refused
returns-then-bytes-gt-MOST_BYTES-clause-refused c = long_refused c.args.bytes.now (omega arith)

pub returns-in_err-judge_lines-clause-refused : goal.returns-in_err-judge_lines-clause-refused
returns-in_err-judge_lines-clause-refused c =
    let fault = c.in_err-judge_lines.field-0.0 in
    passed_on _ fault _ c.from_residual-in_err-judge_lines.ensures.1
    (refused c.args.bytes.now fault (omega arith) (λ number line e. inl (c.in_err-judge_lines.ensures.refused number line (ap Err e))))

pub returns-in_err-judge_counts-clause-refused : goal.returns-in_err-judge_counts-clause-refused
returns-in_err-judge_counts-clause-refused c =
    let fault = c.in_err-judge_counts.field-0.0 in
    passed_on _ fault _ c.from_residual-in_err-judge_counts.ensures.1
    (refused c.args.bytes.now fault (omega arith) (λ number line e. inr (c.in_ok-judge_lines.ensures.kept, inl (c.in_err-judge_counts.ensures.refused number line (ap Err e) (lines_of c.args.bytes.now) c.in_ok-tally.ensures))))

pub case_of-requires-clause-counts : goal.case_of-requires-clause-counts
case_of-requires-clause-counts c = c.in_ok-judge_counts.ensures.kept (lines_of c.args.bytes.now) c.in_ok-tally.ensures

pub case_of-requires-clause-named : goal.case_of-requires-clause-named
case_of-requires-clause-named c = all_named (lines_of c.args.bytes.now) c.in_ok-judge_lines.ensures.kept

pub case_of-requires-clause-placed : goal.case_of-requires-clause-placed
case_of-requires-clause-placed c = all_placed (lines_of c.args.bytes.now) c.in_ok-judge_lines.ensures.kept

pub divide-requires : goal.divide-requires
divide-requires c = subst IsRead (sym c.in_ok-case.ensures) (is_read (lines_of c.args.bytes.now) c.in_ok-judge_lines.ensures.kept (c.in_ok-judge_counts.ensures.kept (lines_of c.args.bytes.now) c.in_ok-tally.ensures))

pub returns-in_err-mesh-clause-refused : goal.returns-in_err-mesh-clause-refused
returns-in_err-mesh-clause-refused c =
    let lines = lines_of c.args.bytes.now in
    let fault = c.in_err-mesh.field-0.0 in
    passed_on _ fault _ c.from_residual-in_err-mesh.ensures.1
    (refused c.args.bytes.now fault (omega arith) (λ number line e. inr (
      c.in_ok-judge_lines.ensures.kept,
      inr (
        (c.in_ok-judge_counts.ensures.kept (lines_of c.args.bytes.now) c.in_ok-tally.ensures),
        subst (λ (x : Case). IsFirst (passes x) line number) c.in_ok-case.ensures (c.in_err-mesh.ensures.refused number line (ap Err e)),
      ),
    )))

pub returns-clause-accepted : goal.returns-clause-accepted
returns-clause-accepted c =
    let lines = lines_of c.args.bytes.now in
    let e : AreEmpty (passes (case_of lines)) = subst (λ (x : Case). AreEmpty (passes x)) c.in_ok-case.ensures c.in_ok-mesh.ensures.accepted in
    let m : c.in_ok-mesh.mesh ≡ mesh_of (case_of lines) = c.in_ok-mesh.ensures.mesh ∙ ap mesh_of c.in_ok-case.ensures in
    let k : c.in_ok-case.case ≡ case_of lines = c.in_ok-case.ensures in
    let a = accepted c.args.bytes.now (omega arith) c.in_ok-judge_lines.ensures.kept (c.in_ok-judge_counts.ensures.kept (lines_of c.args.bytes.now) c.in_ok-tally.ensures) e in
    cc

pub returns-clause-fulfilled : goal.returns-clause-fulfilled
returns-clause-fulfilled c =
    let lines = lines_of c.args.bytes.now in
    let e : AreEmpty (passes (case_of lines)) = subst (λ (x : Case). AreEmpty (passes x)) c.in_ok-case.ensures c.in_ok-mesh.ensures.accepted in
    let m : c.in_ok-mesh.mesh ≡ mesh_of (case_of lines) = c.in_ok-mesh.ensures.mesh ∙ ap mesh_of c.in_ok-case.ensures in
    subst (λ (x : Case). IsAccepted x c.in_ok-mesh.mesh) (sym c.in_ok-case.ensures)
    (fulfilled lines c.in_ok-mesh.mesh c.in_ok-judge_lines.ensures.kept (c.in_ok-judge_counts.ensures.kept (lines_of c.args.bytes.now) c.in_ok-tally.ensures) e m c.in_ok-mesh.ensures.good c.in_ok-mesh.ensures.numbered)
