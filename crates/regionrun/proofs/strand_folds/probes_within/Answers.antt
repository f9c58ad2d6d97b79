use Rattle.std.proofs.Common.{◌∙◌, sym}
use Rattle.regionrun.proofs.Unprobed.{has-none}
use Rattle.regionrun.proofs.strand_folds.probes_within.Goals as goal

pub returns-then-not-may_be_probed : goal.returns-then-not-may_be_probed
returns-then-not-may_be_probed c =
    c.new-inside.ensures.items ∙ sym (has-none c.args.spans.now c.args.probes.now c.args.probed.now c.requires
    (c.may_be_probed.ensures c.if-not-may_be_probed.true))
