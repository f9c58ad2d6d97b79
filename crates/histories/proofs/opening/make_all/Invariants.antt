use Rattle.histories.specs.Dealing.{AreMade}
use Rattle.histories.proofs.opening.make_all.Given as goal

abbrev pub invariant-loop-strand : goal.invariant-loop-strand
invariant-loop-strand g l =
    AreMade (g.L.Law.meaning l.opening.law.now) l.opening.layout.now l.opening.slots l.strand
    l.histories.items l.writers.items l.dealt.items
