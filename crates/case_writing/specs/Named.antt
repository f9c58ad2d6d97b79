-- Which tables, pipes and nodes a part of a case names.
use Rattle.std.specs.Prelude.{ℕ, ◌<◌, List, length}
use Rattle.case_model.specs.declared.cases.Table.{Table}
use Rattle.case_model.specs.declared.cases.Value.{Value}
use Rattle.case_model.specs.declared.cases.Value.TheVariants.{Fixed, ByTable}
use Rattle.case_model.specs.declared.cases.NodeKind.{NodeKind}
use Rattle.case_model.specs.declared.cases.NodeKind.TheVariants.{Reservoir, Junction, Discharge}
use Rattle.case_model.specs.declared.cases.NodeKind.TheVariants.{Inline, Pump, Tank, Vessel}
use Rattle.case_model.specs.declared.cases.ProbeAt.{ProbeAt}
use Rattle.case_model.specs.declared.cases.ProbeAt.TheVariants.{OnPipe, OnNode}

-- the table that a value names is there
abbrev pub IsNamed : List Table → Value → Type 0
IsNamed tables (Fixed x) = Unit {0}
IsNamed tables (ByTable t) = t < length tables

-- the tables that a node names are there
abbrev pub AreNamed : List Table → NodeKind → Type 0
AreNamed tables (Reservoir head) = IsNamed tables head
AreNamed tables (Junction demand start) = IsNamed tables demand
AreNamed tables (Discharge q0 h0 outlet opening start) = IsNamed tables opening
AreNamed tables (Inline q0 h0 opening start start2) = IsNamed tables opening
AreNamed tables (Pump curve speed start start2) = (curve < length tables) × IsNamed tables speed
AreNamed tables (Tank area start) = Unit {0}
AreNamed tables (Vessel gas volume) = gas < length tables

-- the pipe or the node where a probe stands is there
abbrev pub IsThere : ℕ → ℕ → ProbeAt → Type 0
IsThere pipes nodes (OnPipe pipe place) = pipe < pipes
IsThere pipes nodes (OnNode node) = node < nodes
