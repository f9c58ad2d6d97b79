use Rattle.std.proofs.Common.{rules}
use Rattle.charline.specs.Characteristics.{friction_impedance}
use Rattle.fixed_num.specs.Rounding.{rnd}
use Rattle.charline.proofs.impedances.friction_impedance.Goals as goal

pub returns-clause-value : goal.returns-clause-value
unfolding friction_impedance rnd
returns-clause-value c = search rules
