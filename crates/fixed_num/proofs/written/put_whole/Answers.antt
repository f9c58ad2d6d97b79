use Rattle.std.proofs.Common.{arith}
use Rattle.fixed_num.proofs.Texts.{all_digits}
use Rattle.fixed_num.proofs.written.put_whole.Goals as goal

pub returns-clause-text : goal.returns-clause-text
returns-clause-text c =
    let text = rw (c.count_digits-count.ensures.value, all_digits c.args.n (omega arith)) at c.put_last.ensures in text
