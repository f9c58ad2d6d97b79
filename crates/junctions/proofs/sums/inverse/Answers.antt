use Rattle.std.proofs.Common.{arith, ◌+◌, ◌/◌, ◌*◌, ◌%◌, sym}
use Rattle.junctions.proofs.Quotients.{rounded_down, rounded_up, thousands}
use Rattle.junctions.proofs.sums.inverse.Goals as goal

pub returns-then-left-b-clause-value : goal.returns-then-left-b-clause-value
returns-then-left-b-clause-value c =
    let e = thousands 10000000000000000000 c.args.b in
    sym (rounded_up 10000000000000000000000 c.args.b (10000000000000000000 / c.args.b * 1000 + 10000000000000000000 % c.args.b * 1000 / c.args.b) (10000000000000000000 % c.args.b * 1000 % c.args.b) (omega arith) e (omega arith) (omega arith))

pub returns-else-left-b-clause-value : goal.returns-else-left-b-clause-value
returns-else-left-b-clause-value c =
    let e = thousands 10000000000000000000 c.args.b in
    sym (rounded_down 10000000000000000000000 c.args.b (10000000000000000000 / c.args.b * 1000 + 10000000000000000000 % c.args.b * 1000 / c.args.b) (10000000000000000000 % c.args.b * 1000 % c.args.b) (omega arith) e (omega arith))
