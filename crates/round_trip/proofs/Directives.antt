-- The directive of each line of the written text.
use Rattle.std.proofs.Common.{◌≡◌, Some, List, refl}
use Rattle.case_model.specs.declared.cases.Table.{Table}
use Rattle.case_model.specs.declared.cases.TableKind.{TableKind}
use Rattle.case_model.specs.declared.cases.TableKind.TheVariants.{Heads, Flows, Openings, Speeds, Curve, Gas}
use Rattle.case_model.specs.declared.cases.Node.{Node}
use Rattle.case_model.specs.declared.cases.NodeKind.{NodeKind}
use Rattle.case_model.specs.declared.cases.NodeKind.TheVariants.{Reservoir as ReservoirKind, Junction as JunctionKind, Discharge as DischargeKind, Inline as InlineKind, Pump as PumpKind, Tank as TankKind, Vessel as VesselKind}
use Rattle.case_model.specs.declared.cases.Pipe.{Pipe}
use Rattle.case_model.specs.declared.cases.Probe.{Probe}
use Rattle.case_model.specs.declared.cases.ProbeAt.{ProbeAt}
use Rattle.case_model.specs.declared.cases.ProbeAt.TheVariants.{OnPipe, OnNode}
use Rattle.case_lines.specs.declared.words.NodeWord.{NodeWord}
use Rattle.case_lines.specs.declared.words.NodeWord.TheVariants.{Reservoir, Junction, Discharge, Inline, Pump, Tank, Vessel}
use Rattle.case_lines.specs.declared.words.Directive.{Directive}
use Rattle.case_lines.specs.declared.words.Directive.TheVariants.{OfTable, OfNode, OfPipe, OfProbe, OfWatch}
use Rattle.case_lines.specs.Words.{single_of, table_of, node_of, directive_of}
use Rattle.case_rules.specs.Said.{directive_said}
use Rattle.case_writing.specs.CaseText.{table_word, node_word, spot_fields}
use Rattle.round_trip.specs.Lines.{table_line, node_line, pipe_line, probe_line}

-- the word of a kind of node
abbrev pub kind_word : NodeKind → NodeWord
kind_word (ReservoirKind head) = Reservoir
kind_word (JunctionKind demand start) = Junction
kind_word (DischargeKind q0 h0 outlet opening start) = Discharge
kind_word (InlineKind q0 h0 opening start start2) = Inline
kind_word (PumpKind curve speed start start2) = Pump
kind_word (TankKind area start) = Tank
kind_word (VesselKind gas volume) = Vessel

-- the directive of a probe or a watch
abbrev pub spot_directive : ProbeAt → Directive
spot_directive (OnPipe pipe place) = OfProbe
spot_directive (OnNode node) = OfWatch

table_directive : (k : TableKind) → directive_of (table_word k) ≡ Some (OfTable k)
unfolding directive_of single_of table_of node_of
table_directive Heads = refl
table_directive Flows = refl
table_directive Openings = refl
table_directive Speeds = refl
table_directive Curve = refl
table_directive Gas = refl

node_directive : (k : NodeKind) → directive_of (node_word k) ≡ Some (OfNode (kind_word k))
unfolding directive_of single_of table_of node_of
node_directive (ReservoirKind head) = refl
node_directive (JunctionKind demand start) = refl
node_directive (DischargeKind q0 h0 outlet opening start) = refl
node_directive (InlineKind q0 h0 opening start start2) = refl
node_directive (PumpKind curve speed start start2) = refl
node_directive (TankKind area start) = refl
node_directive (VesselKind gas volume) = refl

pub of_table : (t : Table) → directive_said (table_line t) ≡ Some (OfTable t.kind)
unfolding directive_said table_line
of_table t = table_directive t.kind

pub of_node : (tables : List Table) (n : Node) → directive_said (node_line tables n) ≡ Some (OfNode (kind_word n.kind))
unfolding directive_said node_line
of_node tables n = node_directive n.kind

pub of_pipe : (nodes : List Node) (p : Pipe) → directive_said (pipe_line nodes p) ≡ Some OfPipe
unfolding directive_said pipe_line directive_of single_of table_of node_of
of_pipe nodes p = refl

of_spot : (pipes : List Pipe) (nodes : List Node) (at : ProbeAt) → directive_said (spot_fields pipes nodes at) ≡ Some (spot_directive at)
unfolding directive_said directive_of single_of table_of node_of
of_spot pipes nodes (OnPipe pipe place) = refl
of_spot pipes nodes (OnNode node) = refl

pub of_probe : (pipes : List Pipe) (nodes : List Node) (q : Probe) → directive_said (probe_line pipes nodes q) ≡ Some (spot_directive q.at)
unfolding probe_line
of_probe pipes nodes q = of_spot pipes nodes q.at
