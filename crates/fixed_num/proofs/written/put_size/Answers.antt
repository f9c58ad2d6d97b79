use Rattle.std.proofs.Common.{arith, ◌^◌, ◌/◌}
use Rattle.std.proofs.Math.Nat.{one-le-pow}
use Rattle.std.specs.Fmt.{decimal}
use Rattle.fixed_num.specs.Written.{fraction_text}
use Rattle.fixed_num.proofs.Texts.{placed_twice}
use Rattle.fixed_num.proofs.written.put_size.Goals as goal

pub nonzero_div-n : goal.nonzero_div-n
nonzero_div-n c = grind (arith, one-le-pow)

pub returns-clause-text : goal.returns-clause-text
returns-clause-text c =
    let joined = placed_twice c.args.into.now (decimal (c.args.n / 10 ^ c.args.places)) (fraction_text c.args.places c.args.n) c.args.at (omega arith) in grind (arith, joined)
