use Rattle.std.proofs.Common.{drop}
use Rattle.std.proofs.lemmas.Int.{to_z-of_z}
use Rattle.std.specs.Int.{w128}
use Rattle.fixed_num.proofs.Back.{back_from}
use Rattle.fixed_num.proofs.written.write_decimal.Goals as goal

pub returns-clause-back : goal.returns-clause-back
returns-clause-back c =
    let passed = to_z-of_z w128 c.args.value c.ranges.value in
    let text = rw passed at c.put_number.ensures.text in
    let length = rw passed at c.put_number.ensures.length in
    back_from c.args.places c.args.value c.put_number.new.into (drop c.put_number.result c.args.into.now) c.put_number.result text length
