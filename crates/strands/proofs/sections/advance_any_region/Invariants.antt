use Rattle.std.proofs.Common.{◌-◌}
use Rattle.fronts.specs.Fronts.{ever, loaded, swept}
use Rattle.fronts.specs.Stretches.{count_of}
use Rattle.strands.specs.Sections.{IsAdvanced}
use Rattle.strands.proofs.sections.advance_any_region.Given as goal

abbrev pub invariant-loop-k : goal.invariant-loop-k
invariant-loop-k g l =
    let n = count_of l.fn.stretch - 1 in
    IsAdvanced (g.L.Law.meaning l.law) ever (loaded l.fn.start l.fn.window n) (swept l.fn.start l.fn.window n (l.k - 1))
    l.fn.stretch l.stretch l.fn.fold l.fold
