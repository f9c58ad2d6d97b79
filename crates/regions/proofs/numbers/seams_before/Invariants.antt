use Rattle.std.proofs.Common.{◌≡◌}
use Rattle.regions.specs.Layouts.{seams_before}
use Rattle.regions.proofs.numbers.seams_before.Given as goal

abbrev pub invariant-loop-earlier : goal.invariant-loop-earlier
invariant-loop-earlier l = l.count ≡ seams_before l.mesh l.window l.earlier
