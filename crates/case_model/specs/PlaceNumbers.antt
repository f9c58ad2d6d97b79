-- Places of the mesh and their numbers: the nodes in file order, then places 0 to N of each pipe in
-- file order.
use Rattle.std.specs.Prelude.{ℕ, ◌+◌, ◌-◌, ◌<◌, ◌≤◌, nat_le, nat_lt, if◌then◌else◌, List, [], ◌∷◌}
use Rattle.std.specs.Prelude.{length}
use Rattle.case_model.specs.declared.cases.ProbeAt.{ProbeAt}
use Rattle.case_model.specs.declared.cases.ProbeAt.TheVariants.{OnPipe, OnNode}
use Rattle.case_model.specs.declared.meshes.Mesh.{Mesh}
use Rattle.case_model.specs.declared.meshes.PipeMesh.{PipeMesh}
use Rattle.case_model.specs.Mesh.{reaches, base_of}

-- the number of a place: a node's index, or the place's count from the first of its pipe
abbrev pub number_of : Mesh → ProbeAt → ℕ
number_of mesh (OnNode node) = node
number_of mesh (OnPipe pipe place) = base_of mesh pipe + place

-- a node of the mesh, or a place of one of its pipes
abbrev pub IsOn : Mesh → ProbeAt → Type 0
IsOn mesh (OnNode node) = node < length mesh.ends
IsOn mesh (OnPipe pipe place) = (pipe < length mesh.pipes) × (place ≤ reaches mesh pipe)

-- the place of a number among the places of these pipes, of which the first has the index `pipe`
abbrev pub place_among : ℕ → List PipeMesh → ℕ → ProbeAt
place_among pipe [] k = OnPipe pipe k
place_among pipe (p ∷ ps) k =
    if nat_le k p.reaches then OnPipe pipe k else place_among (pipe + 1) ps (k - (p.reaches + 1))

-- the place of a number
unfoldable pub place_at : Mesh → ℕ → ProbeAt
place_at mesh k =
    if nat_lt k (length mesh.ends) then OnNode k
    else place_among 0 mesh.pipes (k - length mesh.ends)
