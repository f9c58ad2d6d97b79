use Rattle.std.proofs.Common.{◌≤◌, length, pos, arith, to_z-of_z}
use Rattle.std.proofs.lemmas.Grind.{common_steps}
use Rattle.fixed_num.specs.Written.{written}
use Rattle.fixed_num.proofs.Widths.{short_written}
use Rattle.drill.proofs.fields.push_count.Goals as goal

pub returns-clause-few : goal.returns-clause-few
returns-clause-few c =
    let few : length (written 0 (pos c.args.count)) ≤ 22 = short_written 0 (pos c.args.count) (omega arith) (omega (arith, c.ranges.count.fits)) in
    grind (arith, common_steps, to_z-of_z)
