use Rattle.std.proofs.Common.{arith}
use Rattle.report.proofs.Numbers.{step-within}
use Rattle.report.proofs.writing.step_of.Goals as goal

pub overflow_mul-result : goal.overflow_mul-result
overflow_mul-result c = let h = step-within c.args.j c.args.case.now.every c.args.case.now.steps c.requires.sampled in omega (arith, h, c.requires.few)
