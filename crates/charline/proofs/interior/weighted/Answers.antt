use Rattle.fixed_num.proofs.Fits.{wide_product}
use Rattle.charline.proofs.Sizes.{weighted_below}
use Rattle.charline.proofs.interior.weighted.Goals as goal

pub returns-clause-value : goal.returns-clause-value
returns-clause-value c = wide_product c.args.c c.args.z c.ranges.c c.ranges.z

pub returns-clause-size : goal.returns-clause-size
returns-clause-size c = rw (wide_product c.args.c c.args.z c.ranges.c c.ranges.z) (weighted_below c.args.c c.args.z c.requires.value_in)
