use Rattle.std.proofs.Common.{◌≡◌, arith, to_z-of_z}
use Rattle.case_model.specs.Formulas.{elevation_between}
use Rattle.reaches.proofs.Level.{same_ends}
use Rattle.reaches.proofs.elevations.elevation_between.Goals as goal

pub returns-then-first-last-clause-value : goal.returns-then-first-last-clause-value
unfolding elevation_between
returns-then-first-last-clause-value c =
    let h : c.args.first ≡ c.args.last = grind (arith, to_z-of_z) in
    grind (arith, to_z-of_z, same_ends c.args.first c.args.last c.args.place c.args.reaches h c.requires.some)
