use Rattle.std.proofs.Common.{arith, to_z-of_z, ◌≡◌, pos, ◌-ℤ◌, ◌∙◌}
use Rattle.fixed_num.specs.Rounding.{rnd}
use Rattle.fixed_num.proofs.Fits.{fits}
use Rattle.junctions.proofs.Raised.{mean_is, mean_few}
use Rattle.junctions.proofs.means.mean_by.Goals as goal

pub returns-clause-value : goal.returns-clause-value
returns-clause-value c =
    let d = c.args.weight in
    let e = mean_is c.args.heads d c.raised.result c.requires.low c.requires.heads_in (simp (to_z-of_z, c.ranges.heads) at c.raised.ensures.value) in
    let f = mean_few c.args.heads d c.requires.low c.requires.heads_in in
    grind (arith, to_z-of_z, e, fits (rnd c.args.heads (pos d)) (omega arith))

pub returns-clause-size : goal.returns-clause-size
returns-clause-size c =
    let d = c.args.weight in
    let e = mean_is c.args.heads d c.raised.result c.requires.low c.requires.heads_in (simp (to_z-of_z, c.ranges.heads) at c.raised.ensures.value) in
    let f = mean_few c.args.heads d c.requires.low c.requires.heads_in in
    grind (arith, to_z-of_z, e, fits (rnd c.args.heads (pos d)) (omega arith))
