-- The parts of a case by their index.
use Rattle.std.specs.Prelude.{ℕ, pos, [], slice_index_or}
use Rattle.case_model.specs.declared.cases.Case.{Case}
use Rattle.case_model.specs.declared.cases.Table.{Table}
use Rattle.case_model.specs.declared.cases.TableKind.TheVariants.{Heads}
use Rattle.case_model.specs.declared.cases.Value.TheVariants.{Fixed}
use Rattle.case_model.specs.declared.cases.Node.{Node}
use Rattle.case_model.specs.declared.cases.NodeKind.TheVariants.{Reservoir}
use Rattle.case_model.specs.declared.cases.Pipe.{Pipe}
use Rattle.case_model.specs.declared.cases.Probe.{Probe}
use Rattle.case_model.specs.declared.cases.ProbeAt.TheVariants.{OnPipe}

-- what stands for a part that the case doesn't have
abbrev pub no_pipe : Pipe
no_pipe =
    record {
      name = [];
      line = 0;
      first = 0;
      last = 0;
      length = pos 0;
      diameter = pos 0;
      speed = pos 0;
      friction = pos 0;
      flow = pos 0;
    }

abbrev pub no_node : Node
no_node = record { name = []; line = 0; elevation = pos 0; kind = Reservoir (Fixed (pos 0)) }

abbrev pub no_table : Table
no_table = record { name = []; line = 0; kind = Heads; points = [] }

abbrev pub no_probe : Probe
no_probe = record { line = 0; at = OnPipe 0 0 }

abbrev pub pipe_at : Case → ℕ → Pipe
pipe_at case p = slice_index_or case.pipes p no_pipe

abbrev pub node_at : Case → ℕ → Node
node_at case k = slice_index_or case.nodes k no_node

abbrev pub table_at : Case → ℕ → Table
table_at case t = slice_index_or case.tables t no_table

abbrev pub probe_at : Case → ℕ → Probe
probe_at case q = slice_index_or case.probes q no_probe
