use Rattle.charline.proofs.Calm.{plus_from, minus_from}
use Rattle.charline.proofs.runs.Prepared.both.Goals as goal

pub returns-clause-plus : goal.returns-clause-plus
returns-clause-plus c =
    let from = c.args.from.now in
    plus_from c.args.self.now.b c.args.self.now.r from.h from.q c.rise-rise.result from.head from.flow c.args.self.now.limits.high c.rise-rise.ensures.size c.rise-rise.ensures.value

pub returns-clause-minus : goal.returns-clause-minus
returns-clause-minus c =
    let from = c.args.from.now in
    minus_from c.args.self.now.b c.args.self.now.r from.h from.q c.rise-rise.result from.head from.flow c.args.self.now.limits.high c.rise-rise.ensures.size c.rise-rise.ensures.value
