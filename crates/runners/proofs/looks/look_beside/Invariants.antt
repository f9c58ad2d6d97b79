use Rattle.std.specs.Prelude.{ℕ}
use Rattle.runners.specs.Advances.{HaveSeen}
use Rattle.runners.specs.Ends.{AreReadersAt}
use Rattle.runners.proofs.looks.look_beside.Given as goal

abbrev pub invariant-loop-side : goal.invariant-loop-side
invariant-loop-side g l = record {
  seen : HaveSeen l.side l.fn.readers l.readers;
  at : (n : ℕ) → AreReadersAt (g.L.Law.meaning l.tag.law.now) l.tag.layout.now l.tag.histories.now
      l.number n l.fn.readers
      → AreReadersAt (g.L.Law.meaning l.tag.law.now) l.tag.layout.now l.tag.histories.now l.number
      n l.readers;
}
