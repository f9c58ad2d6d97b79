use Rattle.std.proofs.Common.{◌≡◌, ◌+◌, ◌<◌, ◌≤◌, ◌⊎◌, length, subst, sym, arith}
use Rattle.envelope.proofs.Settled.{joined-more, none-joined}
use Rattle.envelope.proofs.extremes.join_each.Goals as goal

pub loop-i-init : goal.loop-i-init
loop-i-init p c = record { joined = none-joined c.args.spots.now c.args.first c.args.step c.args.cells.now; plain = λ last l h. h }

pub loop-i-preserved : goal.loop-i-preserved
loop-i-preserved p c =
    let so = c.loop-i.invariant in
    record {
      joined = joined-more c.args.spots.now c.args.first c.loop-i.i c.args.step c.args.cells.now c.loop-i.cells c.join_spot.new.cells c.index-spots-i.result
          c.loop-i-test.true c.index-spots-i.is so.joined c.join_spot.ensures.here c.join_spot.ensures.others c.join_spot.ensures.count;
      plain = λ last l h. c.join_spot.ensures.plain last l (so.plain last l h);
    }

pub returns-clause-here : goal.returns-clause-here
returns-clause-here p c = λ i h. c.loop-i.invariant.joined.here i (omega arith)

pub returns-clause-others : goal.returns-clause-others
returns-clause-others p c =
    let e : c.loop-i.i ≡ length c.args.spots.now = omega arith in
    λ k h. c.loop-i.invariant.joined.others k (subst (λ n. (k < c.args.first) ⊎ (c.args.first + n ≤ k)) (sym e) h)

pub returns-clause-count : goal.returns-clause-count
returns-clause-count p c = c.loop-i.invariant.joined.count_is

pub returns-clause-plain : goal.returns-clause-plain
returns-clause-plain p c = c.loop-i.invariant.plain

pub join_spot-requires-clause-late : goal.join_spot-requires-clause-late
join_spot-requires-clause-late p c = λ late. c.loop-i.invariant.plain c.args.step (omega arith) (c.requires.late late)
