use Rattle.std.proofs.Common.{◌≡◌, ◌+◌, ◌-◌, ◌*◌, ◌<◌, subst, arith, ℕ, length, slice_set, w64, to_z, of_z}
use Rattle.std.proofs.lemmas.List.{length-set}
use Rattle.case_model.specs.Runs.{IsCalmRun, calm_at}
use Rattle.case_model.proofs.Running.{nothing_done}
use Rattle.charline.specs.Runs.{IsPlus, IsMinus}
use Rattle.scheme.specs.Laws.{meaning_of}
use Rattle.scheme.proofs.Calm.{kept, kept_minus, run_more, stored}
use Rattle.scheme.proofs.runs.explicit_run.Goals as goal

pub loop-pair-init : goal.loop-pair-init
loop-pair-init c =
    let p = c.args.prepared.now in
    let before = c.args.before.now in
    record {
      run = nothing_done _ _ _ _ _;
      left = stored p.b p.r (calm_at before 0) c.early_plus-behind.result c.early_plus-behind.ensures;
      own = stored p.b p.r (calm_at before 1) c.early_plus-here.result c.early_plus-here.ensures;
    }

pub returns-in-None-meeting-clause-run : goal.returns-in-None-meeting-clause-run
returns-in-None-meeting-clause-run c =
    let p = c.args.prepared.now in
    let before = c.args.before.now in
    let k : ℕ = 2 * c.loop-pair.pair in
    let so = c.loop-pair.invariant in
    let same = so.run.each in
    let test = c.loop-pair-test.true in
    let more : k + 1 < length c.loop-pair.now = omega arith in
    let longer = c.requires.each in
    let last = c.requires.before_last in
    let there : k + 2 < length before = omega arith in
    run_more c.args.case.now c.args.mesh.now c.args.at.pipe c.args.at.place k p.b p.r p.top (to_z w64 c.loop-pair.behind-bits) (to_z w64 (of_z w64 c.both-next.result.minus)) before c.args.now.now c.loop-pair.now c.in-Some.spot
    c.requires.explicit c.requires.prepared (omega arith) (omega arith) there so.left
    (kept_minus p.b p.r before (k + 2) _ _ c.both-next.result.minus there c.index-before-k.is c.both-next.ensures.minus) c.in-Some.ensures so.run

pub loop-pair-preserved : goal.loop-pair-preserved
loop-pair-preserved c =
    let p = c.args.prepared.now in
    let before = c.args.before.now in
    let k : ℕ = 2 * c.loop-pair.pair in
    let one = slice_set c.loop-pair.now k c.in-Some.spot in
    let so = c.loop-pair.invariant in
    let same = so.run.each in
    let test = c.loop-pair-test.true in
    let more : k + 1 < length c.loop-pair.now = omega arith in
    let longer = c.requires.each in
    let last = c.requires.before_last in
    let there : k + 2 < length before = omega arith in
    let after : k + 3 < length before = omega arith in
    let minus = to_z w64 (of_z w64 c.both-ahead.result.minus) in
    let next = to_z w64 (of_z w64 c.both-next.result.plus) in
    let plus = to_z w64 (of_z w64 c.both-ahead.result.plus) in
    let first : IsCalmRun (meaning_of c.args.case.now c.args.mesh.now) c.args.at.pipe c.args.at.place before (k + 1) c.args.now.now one =
    run_more c.args.case.now c.args.mesh.now c.args.at.pipe c.args.at.place k p.b p.r p.top (to_z w64 c.loop-pair.behind-bits) (to_z w64 (of_z w64 c.both-next.result.minus)) before c.args.now.now c.loop-pair.now c.in-Some.spot
    c.requires.explicit c.requires.prepared (omega arith) (omega arith) there so.left
    (kept_minus p.b p.r before (k + 2) _ _ c.both-next.result.minus there c.index-before-k.is c.both-next.ensures.minus) c.in-Some.ensures so.run in
    let each : length one ≡ length c.loop-pair.now = length-set c.loop-pair.now k c.in-Some.spot in
    let each_two = length-set one (k + 1) c.in-Some-meeting.spot in
    let right : IsMinus p.b p.r (calm_at before (k + 1 + 2)) minus =
    subst (λ (n : ℕ). IsMinus p.b p.r (calm_at before n) minus) (omega arith)
    (kept_minus p.b p.r before (k + 3) _ _ c.both-ahead.result.minus after c.index-before-k-in-loop-pair.is c.both-ahead.ensures.minus) in
    record {
      run = subst (λ (n : ℕ). IsCalmRun (meaning_of c.args.case.now c.args.mesh.now) c.args.at.pipe c.args.at.place before n c.args.now.now (slice_set one (k + 1) c.in-Some-meeting.spot)) (omega arith)
          (run_more c.args.case.now c.args.mesh.now c.args.at.pipe c.args.at.place (k + 1) p.b p.r p.top (to_z w64 c.loop-pair.here-bits) minus before c.args.now.now one c.in-Some-meeting.spot
          c.requires.explicit c.requires.prepared (omega arith) (omega arith) (omega arith) so.own right c.in-Some-meeting.ensures first);
      left = subst (λ (n : ℕ). IsPlus p.b p.r (calm_at before n) next) (omega arith)
          (kept p.b p.r before (k + 2) _ _ c.both-next.result.plus there c.index-before-k.is c.both-next.ensures.plus);
      own = subst (λ (n : ℕ). IsPlus p.b p.r (calm_at before n) plus) (omega arith)
          (kept p.b p.r before (k + 3) _ _ c.both-ahead.result.plus after c.index-before-k-in-loop-pair.is c.both-ahead.ensures.plus);
    }

pub returns-in-Some-meeting-2-clause-run : goal.returns-in-Some-meeting-2-clause-run
returns-in-Some-meeting-2-clause-run c =
    let p = c.args.prepared.now in
    let before = c.args.before.now in
    let so = c.loop-pair.invariant in
    let same = so.run.each in
    let k : ℕ = length c.loop-pair.now - 1 in
    let end = c.loop-pair.auto.pair-end in
    let none = c.loop-pair-test.false in
    let odd = c.if-now-eq1.true in
    let last_pair : 2 * c.loop-pair.pair ≡ k = omega arith in
    let less : k < length c.loop-pair.now = omega arith in
    let longer = c.requires.each in
    let last = c.requires.before_last in
    let there : k + 2 < length before = omega arith in
    let each = length-set c.loop-pair.now k c.in-Some-meeting-2.spot in
    let all = slice_set c.loop-pair.now k c.in-Some-meeting-2.spot in
    let behind = to_z w64 c.loop-pair.behind-bits in
    subst (λ (n : ℕ). IsCalmRun (meaning_of c.args.case.now c.args.mesh.now) c.args.at.pipe c.args.at.place before n c.args.now.now all) (omega arith)
    (run_more c.args.case.now c.args.mesh.now c.args.at.pipe c.args.at.place k p.b p.r p.top behind (to_z w64 (of_z w64 c.both-ahead-then-now-eq1.result.minus)) before c.args.now.now c.loop-pair.now c.in-Some-meeting-2.spot
    c.requires.explicit c.requires.prepared (omega arith) less there
    (subst (λ (n : ℕ). IsPlus p.b p.r (calm_at before n) behind) last_pair so.left)
    (kept_minus p.b p.r before (k + 2) _ _ c.both-ahead-then-now-eq1.result.minus there c.index-before-k-then-now-eq1.is c.both-ahead-then-now-eq1.ensures.minus) c.in-Some-meeting-2.ensures
    (subst (λ (n : ℕ). IsCalmRun (meaning_of c.args.case.now c.args.mesh.now) c.args.at.pipe c.args.at.place before n c.args.now.now c.loop-pair.now) last_pair so.run))
