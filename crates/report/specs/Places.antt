-- The places of a mesh in order of number: the nodes in file order, then places 0 to N of each pipe
-- in file order.
use Rattle.std.specs.Prelude.{◌≡◌, ℕ, ◌+◌, ◌<◌, ◌≤◌, ◌⊎◌, List, ◌++◌, map, length}
use Rattle.std.specs.List.{flat_map, range_with_len}
use Rattle.case_model.specs.Mesh.{reaches}
use Rattle.case_model.specs.declared.cases.Case.{Case}
use Rattle.case_model.specs.declared.cases.ProbeAt.{ProbeAt}
use Rattle.case_model.specs.declared.cases.ProbeAt.TheVariants.{OnPipe, OnNode}
use Rattle.case_model.specs.declared.meshes.Mesh.{Mesh}

abbrev pub node_places : Mesh → List ProbeAt
node_places mesh = map OnNode (range_with_len 0 (length mesh.ends))

abbrev pub places_of_pipe : Mesh → ℕ → List ProbeAt
places_of_pipe mesh p = map (OnPipe p) (range_with_len 0 (reaches mesh p + 1))

unfoldable pub pipe_places : Mesh → List ProbeAt
pipe_places mesh = flat_map (places_of_pipe mesh) (range_with_len 0 (length mesh.pipes))

unfoldable pub places : Mesh → List ProbeAt
places mesh = node_places mesh ++ pipe_places mesh

-- a place of one of the pipes
abbrev pub IsOnPipe : Mesh → ProbeAt → Type 0
IsOnPipe mesh (OnPipe pipe place) = (pipe < length mesh.pipes) × (place ≤ reaches mesh pipe)
IsOnPipe mesh (OnNode node) = ⊥

-- of two places of pipes the first comes before the other: its pipe does, or it does on the same
-- pipe
abbrev pub IsBefore : ProbeAt → ProbeAt → Type 0
IsBefore (OnPipe p i) (OnPipe q j) = (p < q) ⊎ ((p ≡ q) × (i < j))
IsBefore (OnPipe p i) (OnNode k) = ⊥
IsBefore (OnNode k) at = ⊥

-- the pipe or the node of a place is one of the case
abbrev pub IsNamed : Case → ProbeAt → Type 0
IsNamed case (OnPipe pipe place) = pipe < length case.pipes
IsNamed case (OnNode node) = node < length case.nodes
