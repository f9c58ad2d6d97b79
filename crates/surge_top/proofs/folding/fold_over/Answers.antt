use Rattle.surge_top.proofs.Reporting.{one_span, probes_within}
use Rattle.surge_top.proofs.folding.fold_over.Goals as goal

pub make-requires-clause-spans : goal.make-requires-clause-spans
make-requires-clause-spans c = one_span c.args.mesh.now.places c.sizes.ensures.small.numbers

pub make-requires-clause-probes : goal.make-requires-clause-probes
make-requires-clause-probes c =
    probes_within c.args.case.now c.args.mesh.now c.args.probes.now c.numbers_tell_places.ensures.below c.requires.accepted.numbered c.sizes.ensures.probes c.requires.probes
