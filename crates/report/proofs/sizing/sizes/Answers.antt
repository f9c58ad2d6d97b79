use Rattle.report.proofs.Fitting.{parts_of, probes_on, small}
use Rattle.report.proofs.sizing.sizes.Goals as goal

pub returns-clause-small : goal.returns-clause-small
returns-clause-small c =
    small c.args.case.now c.args.mesh.now c.requires (c.accepted_cases_are_kept.ensures.kept c.args.case.now c.requires.kept) (parts_of c.args.case.now c.args.mesh.now c.requires c.accepted_cases_are_kept.ensures.parts)

pub returns-clause-sized : goal.returns-clause-sized
returns-clause-sized c =
    let parts = parts_of c.args.case.now c.args.mesh.now c.requires c.accepted_cases_are_kept.ensures.parts in
    record { same_nodes = parts.nodes; same_pipes = parts.count; few_nodes = c.requires.read.few_nodes; few_pipes = c.requires.read.few_pipes }

pub returns-clause-probes : goal.returns-clause-probes
returns-clause-probes c =
    probes_on c.args.case.now c.args.mesh.now c.requires (c.accepted_cases_are_kept.ensures.kept c.args.case.now c.requires.kept) (parts_of c.args.case.now c.args.mesh.now c.requires c.accepted_cases_are_kept.ensures.parts)
