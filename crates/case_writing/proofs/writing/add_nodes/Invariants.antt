use Rattle.std.proofs.Common.{take}
use Rattle.std.specs.List.{flat_map}
use Rattle.surge_io.proofs.Chains.{HasAdded}
use Rattle.case_writing.specs.CaseText.{node_text}
use Rattle.case_writing.proofs.writing.add_nodes.Given as goal

abbrev pub invariant-loop-node : goal.invariant-loop-node
invariant-loop-node g l = HasAdded g.K.Sink.held g.K.Sink.faults l.initial.out l.initial.page l.out l.page (flat_map (node_text l.tables) (take l.node-index l.nodes))
