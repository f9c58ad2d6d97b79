use Rattle.std.proofs.Common.{◌≤◌, length, arith, to_z-of_z}
use Rattle.std.proofs.lemmas.Grind.{common_steps}
use Rattle.fixed_num.specs.Written.{written}
use Rattle.fixed_num.proofs.Widths.{short_written}
use Rattle.surge_io.proofs.line.Line.add_number.Goals as goal

pub add_field-requires : goal.add_field-requires
add_field-requires c =
    let few : length (written c.args.places c.args.value) ≤ 22 = short_written c.args.places c.args.value c.requires.places (grind (arith, to_z-of_z)) in
    grind (arith, common_steps, to_z-of_z)

pub returns-clause-few : goal.returns-clause-few
returns-clause-few c =
    let few : length (written c.args.places c.args.value) ≤ 22 = short_written c.args.places c.args.value c.requires.places (grind (arith, to_z-of_z)) in
    grind (arith, common_steps, to_z-of_z)
