use Rattle.std.proofs.Common.{◌≡◌, drop}
use Rattle.case_rules.specs.Known.{given_at}
use Rattle.case_rules.proofs.singles.find_single.Given as goal

abbrev pub invariant-loop-given : goal.invariant-loop-given
invariant-loop-given l = given_at (drop l.given-index l.singles) l.single ≡ given_at l.singles l.single
