use Rattle.std.proofs.Common.{◌≡◌}
use Rattle.regions.specs.Layouts.{sections_before}
use Rattle.regions.proofs.numbers.sections_before.Given as goal

abbrev pub invariant-loop-earlier : goal.invariant-loop-earlier
invariant-loop-earlier l = l.count ≡ sections_before l.mesh l.window l.earlier
