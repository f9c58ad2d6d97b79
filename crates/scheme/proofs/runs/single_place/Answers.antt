use Rattle.std.proofs.Common.{arith, w64, to_z, of_z}
use Rattle.case_model.specs.Runs.{calm_at}
use Rattle.case_model.proofs.Running.{nothing_done}
use Rattle.scheme.proofs.Calm.{kept_minus, run_more, stored}
use Rattle.scheme.proofs.runs.single_place.Goals as goal

pub returns-in-Some-clause-run : goal.returns-in-Some-clause-run
returns-in-Some-clause-run c =
    let p = c.args.prepared.now in
    let before = c.args.before.now in
    let single = c.requires.single in
    let longer = c.requires.each in
    let last = c.requires.before_last in
    run_more c.args.case.now c.args.mesh.now c.args.at.pipe c.args.at.place 0 p.b p.r p.top (to_z w64 (of_z w64 c.early_plus-plus.result)) (to_z w64 (of_z w64 c.both-next.result.minus)) before c.args.now.now c.args.now.now c.in-Some.spot
    c.requires.explicit c.requires.prepared (omega arith) (omega arith) (omega arith)
    (stored p.b p.r (calm_at before 0) c.early_plus-plus.result c.early_plus-plus.ensures)
    (kept_minus p.b p.r before 2 _ _ c.both-next.result.minus (omega arith) c.index-before-2.is c.both-next.ensures.minus) c.in-Some.ensures
    (nothing_done _ _ _ _ _)

pub returns-in-None-clause-run : goal.returns-in-None-clause-run
returns-in-None-clause-run c = nothing_done _ _ _ _ _
