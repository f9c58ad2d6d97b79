use Rattle.std.proofs.Common.{◌++◌, refl, sym, append_assoc}
use Rattle.std.specs.List.{flat_map}
use Rattle.surge_io.proofs.Chains.{has_added, stopped, then_added}
use Rattle.case_writing.specs.CaseText.{network_text, node_text, pipe_text, probe_text}
use Rattle.case_writing.proofs.writing.add_network.Goals as goal

pub returns-in_err-add_nodes : goal.returns-in_err-add_nodes
unfolding network_text
returns-in_err-add_nodes g c =
    let case = c.args.case.now in
    let pipes = flat_map (pipe_text case.nodes) case.pipes in
    let probes = flat_map (probe_text case.pipes case.nodes) case.probes in
    stopped (pipes ++ probes) (rw (c.as_slice-tables.ensures, c.as_slice-nodes.ensures) (sym (append_assoc (flat_map (node_text case.tables) case.nodes) pipes probes)))
    c.from_residual.ensures.0 c.in_err-add_nodes.ensures

pub returns-in_err-add_pipes : goal.returns-in_err-add_pipes
unfolding network_text
returns-in_err-add_pipes g c =
    let case = c.args.case.now in
    stopped (flat_map (probe_text case.pipes case.nodes) case.probes) (rw (c.as_slice-tables.ensures, c.as_slice-nodes.ensures, c.as_slice-pipes.ensures) refl)
    c.from_residual-in_err-add_pipes.ensures.0 (then_added refl (has_added c.in_ok-add_nodes.ensures) c.in_err-add_pipes.ensures)

pub returns : goal.returns
unfolding network_text
returns g c =
    then_added (rw (c.as_slice-tables.ensures, c.as_slice-nodes.ensures, c.as_slice-pipes.ensures, c.as_slice.ensures) refl)
    (has_added (then_added refl (has_added c.in_ok-add_nodes.ensures) c.in_ok-add_pipes.ensures)) c.add_probes.ensures
