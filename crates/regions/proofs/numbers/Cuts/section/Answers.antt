use Rattle.std.proofs.Common.{arith}
use Rattle.regions.proofs.Counting.{number-add}
use Rattle.regions.proofs.numbers.Cuts.section.Goals as goal

pub returns : goal.returns
returns c = λ mesh w p is. omega (arith, is.section, number-add mesh w p c.args.index)
