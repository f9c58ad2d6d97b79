use Rattle.std.proofs.Common.{length}
use Rattle.case_model.specs.Sets.{either, any_below}
use Rattle.case_model.specs.Refusals.{part_rules, pipe_rules, node_rules, probe_rules}
use Rattle.reaches.proofs.division.parts_refusal.Goals as goal

pub returns : goal.returns
unfolding part_rules
returns c =
    let case = c.args.decided.now.case.now in
    let pipes = any_below (pipe_rules case) (length case.pipes) in
    let nodes = any_below (node_rules case) (length case.nodes) in
    let probes = any_below (probe_rules case) (length case.probes) in
    c.lesser.ensures (either pipes nodes) probes (c.lesser-of_pipes_and_nodes.ensures pipes nodes c.pipes_refusal.ensures c.nodes_refusal.ensures) c.probes_refusal.ensures
