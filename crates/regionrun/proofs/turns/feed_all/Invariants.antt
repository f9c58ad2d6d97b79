use Rattle.std.specs.Prelude.{◌≡◌, ℕ, ◌<◌, true}
use Rattle.regionrun.specs.Right.{IsRight, IsSameStrand, has_loaded}
use Rattle.regionrun.proofs.turns.feed_all.Given as goal

abbrev pub invariant-loop-side : goal.invariant-loop-side
invariant-loop-side g l = record {
  right : IsRight (g.L.Law.meaning l.course.law.now) l.course.layout.now l.frontier;
  same : IsSameStrand l.fn.frontier l.frontier;
  computed : l.frontier.computed ≡ l.fn.frontier.computed;
  fed : (c : ℕ) → c < l.side → has_loaded l.frontier c ≡ true;
}
