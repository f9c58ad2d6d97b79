use Rattle.std.proofs.Common.{arith, to_z-of_z}
use Rattle.envelope.proofs.Settled.{later}
use Rattle.envelope.proofs.extremes.join_new.Goals as goal

pub returns : goal.returns
returns c = record {
  here = λ x xh xv f g last l a gs gn p. c.joined.ensures.taken f g last a p (c.of_one.ensures.taken x g last (grind (arith, to_z-of_z)) (grind (arith, to_z-of_z)) l gs gn);
  plain = λ last l o p. c.joined.ensures.plain last p (later c.args.step last _ l (c.of_one.ensures.plain (grind (arith, to_z-of_z))));
}
