use Rattle.std.proofs.Common.{◌<◌, ◌∙◌, sym, subst}
use Rattle.regionrun.proofs.Turning.{one-loaded, same-on}
use Rattle.regionrun.proofs.turns.feed_all.Goals as goal

pub loop-side-preserved : goal.loop-side-preserved
loop-side-preserved g c =
    record {
      right = c.feed_side.ensures.right;
      same = same-on c.args.frontier.now c.loop-side.frontier c.feed_side.new.frontier
          c.loop-side.invariant.same c.feed_side.ensures.same;
      computed = c.feed_side.ensures.computed ∙ c.loop-side.invariant.computed;
      fed = one-loaded c.loop-side.frontier c.feed_side.new.frontier c.loop-side.side
          c.feed_side.ensures.loaded c.loop-side.invariant.fed
          (subst (λ k. c.loop-side.side < k) (sym c.loop-side.invariant.same.sides_are)
          c.loop-side-test.true);
    }
