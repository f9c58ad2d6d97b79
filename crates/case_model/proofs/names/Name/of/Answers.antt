use Rattle.std.proofs.Common.{◌≡◌}
use Rattle.case_model.specs.Padding.{padded_new}
use Rattle.case_model.proofs.names.Name.of.Goals as goal

pub invariant_of-result : goal.invariant_of-result
invariant_of-result c =
    let e : c.copy_from_slice.new.self ≡ c.args.bytes.now = cc in
    rw e (padded_new c.args.bytes.now c.requires)
