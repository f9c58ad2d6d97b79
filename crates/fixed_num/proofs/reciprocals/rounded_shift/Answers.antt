use Rattle.fixed_num.specs.Reciprocals.{shifted_half_up}
use Rattle.fixed_num.proofs.Shifts.{sum_fits, shift_is}
use Rattle.fixed_num.proofs.reciprocals.rounded_shift.Goals as goal

pub overflow_add-result : goal.overflow_add-result
overflow_add-result c = sum_fits c.args.x c.args.middle c.args.places c.ranges.x c.ranges.middle c.requires.number c.requires.some c.requires.few c.requires.middle

pub returns : goal.returns
unfolding shifted_half_up
returns c = shift_is c.args.x c.args.middle c.args.places c.ranges.x c.ranges.middle c.requires.number c.requires.some c.requires.few c.requires.middle
