use Rattle.std.proofs.Common.{arith}
use Rattle.fixed_num.proofs.RootSteps.{step_is_some, step_stays_above, stands}
use Rattle.fixed_num.proofs.roots.root_of_size.Goals as goal

pub loop-guess-preserved : goal.loop-guess-preserved
loop-guess-preserved l = record {
  some = step_is_some l.args.n l.loop-guess.guess l.if-n-eq0.false l.loop-guess.invariant.some l.loop-guess-test.true;
  above = step_stays_above l.args.n l.loop-guess.guess l.loop-guess.invariant.some;
  small = omega (arith, l.loop-guess-test.true, l.loop-guess.invariant.small);
}

pub returns-clause-below : goal.returns-clause-below
returns-clause-below c = stands c.args.n c.loop-guess.guess c.loop-guess.invariant.some (omega (arith, c.loop-guess-test.false))
