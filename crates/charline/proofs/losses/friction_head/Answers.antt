use Rattle.std.proofs.Common.{rules}
use Rattle.charline.specs.Characteristics.{friction_head}
use Rattle.fixed_num.specs.Rounding.{rnd}
use Rattle.charline.proofs.losses.friction_head.Goals as goal

pub returns-then-q-lt0-clause-value : goal.returns-then-q-lt0-clause-value
unfolding friction_head rnd
returns-then-q-lt0-clause-value c = search rules

pub returns-else-q-lt0-clause-value : goal.returns-else-q-lt0-clause-value
unfolding friction_head rnd
returns-else-q-lt0-clause-value c = search rules
