use Rattle.std.proofs.Common.{◌≡◌, ℕ, false, Result, MatchResult, subst}
use Rattle.case_model.specs.Division.{divides}
use Rattle.reaches.specs.declared.pipes.Division.{Division}
use Rattle.reaches.specs.Decided.{IsDivision}
use Rattle.reaches.proofs.Deciding.{found_at}
use Rattle.reaches.proofs.pipes.Decided.division.Goals as goal

pub returns-in-Ok : goal.returns-in-Ok
returns-in-Ok c =
    let case = c.args.self.now.case.now in
    let p = c.args.pipe in
    subst (λ (r : Result Division ℕ). MatchResult r (IsDivision case p) (λ n. divides case p ≡ false)) c.in-Ok.is
    (found_at case c.args.self.now.pipes.now p c.decision_at.result c.requires c.decision_at.ensures)

pub returns-in-Err : goal.returns-in-Err
returns-in-Err c =
    let case = c.args.self.now.case.now in
    let p = c.args.pipe in
    subst (λ (r : Result Division ℕ). MatchResult r (IsDivision case p) (λ n. divides case p ≡ false)) c.in-Err.is
    (found_at case c.args.self.now.pipes.now p c.decision_at.result c.requires c.decision_at.ensures)
