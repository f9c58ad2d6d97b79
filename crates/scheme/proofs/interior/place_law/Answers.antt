use Rattle.std.proofs.Common.{arith, refl, to_z-of_z}
use Rattle.std.proofs.lemmas.Bool.{ne_eqb}
use Rattle.scheme.specs.Laws.{inner_law}
use Rattle.scheme.proofs.Suiting.{coefficients}
use Rattle.scheme.proofs.interior.place_law.Goals as goal

pub impedance-b-requires-clause-coefficients : goal.impedance-b-requires-clause-coefficients
impedance-b-requires-clause-coefficients g c = coefficients c.args.case.now c.args.mesh.now c.requires.fit

pub resistance-r-requires-clause-coefficients : goal.resistance-r-requires-clause-coefficients
resistance-r-requires-clause-coefficients g c = coefficients c.args.case.now c.args.mesh.now c.requires.fit

pub returns-then-this-ne0 : goal.returns-then-this-ne0
unfolding inner_law
returns-then-this-ne0 g c = let f = c.requires.linear (rw (ne_eqb g.row.LINEAR 0 c.if-this-ne0.true) refl) in grind (arith, to_z-of_z, c.linear_point.ensures, f)

pub returns-else-this-ne0 : goal.returns-else-this-ne0
unfolding inner_law
returns-else-this-ne0 g c = let f = c.requires.explicit (grind (arith, c.if-this-ne0.false)) in grind (arith, to_z-of_z, c.explicit_point.ensures, f)
