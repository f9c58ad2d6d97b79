-- The parts of a report that have a line for each place.
use Rattle.std.specs.Prelude.{ℕ, ◌+◌, List, length}
use Rattle.std.specs.List.{flat_map, range_with_len}
use Rattle.case_model.specs.Mesh.{reaches}
use Rattle.case_model.specs.declared.cases.Case.{Case}
use Rattle.case_model.specs.declared.cases.ProbeAt.{ProbeAt}
use Rattle.case_model.specs.declared.cases.ProbeAt.TheVariants.{OnPipe, OnNode}
use Rattle.case_model.specs.declared.meshes.Mesh.{Mesh}
use Rattle.envelope.specs.declared.extremes.Extreme.{Extreme}
use Rattle.report.specs.Places.{places}
use Rattle.report.specs.Report.{cavity_line, envelope_line}
use Rattle.report.specs.declared.writing.Part.{Part}
use Rattle.report.specs.declared.writing.Part.TheVariants.{Cavities, Envelopes}

-- the line of a place
abbrev pub place_line : Part → Case → (ProbeAt → Extreme) → ProbeAt → List ℕ
place_line Cavities case extremes at = cavity_line case at (extremes at)
place_line Envelopes case extremes at = envelope_line case at (extremes at)

abbrev pub node_line : Part → Case → (ProbeAt → Extreme) → ℕ → List ℕ
node_line part case extremes k = place_line part case extremes (OnNode k)

abbrev pub pipe_line : Part → Case → (ProbeAt → Extreme) → ℕ → ℕ → List ℕ
pipe_line part case extremes p i = place_line part case extremes (OnPipe p i)

-- the lines of all nodes, of the places of one pipe, and of those of all pipes
abbrev pub node_lines : Part → Case → Mesh → (ProbeAt → Extreme) → List ℕ
node_lines part case mesh extremes =
    flat_map (node_line part case extremes) (range_with_len 0 (length mesh.ends))

unfoldable pub lines_of_pipe : Part → Case → Mesh → (ProbeAt → Extreme) → ℕ → List ℕ
lines_of_pipe part case mesh extremes p =
    flat_map (pipe_line part case extremes p) (range_with_len 0 (reaches mesh p + 1))

abbrev pub pipe_lines : Part → Case → Mesh → (ProbeAt → Extreme) → List ℕ
pipe_lines part case mesh extremes =
    flat_map (lines_of_pipe part case mesh extremes) (range_with_len 0 (length mesh.pipes))

-- the lines of all places, in order of number
unfoldable pub part_text : Part → Case → Mesh → (ProbeAt → Extreme) → List ℕ
part_text part case mesh extremes = flat_map (place_line part case extremes) (places mesh)
