use Rattle.fixed_num.proofs.Shifts.{scale_of, few_zeros, small_shift, over_shift, within_shift}
use Rattle.fixed_num.proofs.reciprocals.scale.Goals as goal

pub overflow_sub-result-2 : goal.overflow_sub-result-2
overflow_sub-result-2 c = let s = scale_of c.args.divisor c.requires.low c.requires.high in few_zeros _ _ s.0 s.1

pub returns-clause-small : goal.returns-clause-small
returns-clause-small c = let s = scale_of c.args.divisor c.requires.low c.requires.high in small_shift _ _ s.0 s.1

pub returns-clause-over : goal.returns-clause-over
returns-clause-over c = let s = scale_of c.args.divisor c.requires.low c.requires.high in over_shift _ _ s.0 s.1

pub returns-clause-within : goal.returns-clause-within
returns-clause-within c = let s = scale_of c.args.divisor c.requires.low c.requires.high in within_shift _ _ s.0 s.1
