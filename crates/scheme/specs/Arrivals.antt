-- What arrives at a node along its pipe ends. After Wylie and Streeter, Fluid Transients in
-- Systems: boundary conditions.
use Rattle.std.specs.Prelude.{◌<◌, ℕ, ℤ, Option, Some, None, if◌then◌else◌, List, [], ◌∷◌, length}
use Rattle.std.specs.Prelude.{slice_index_or}
use Rattle.case_model.specs.declared.cases.Friction.{Friction}
use Rattle.case_model.specs.declared.points.Point.{Point}
use Rattle.case_model.specs.declared.meshes.Arrival.{Arrival}
use Rattle.case_model.specs.declared.meshes.End.{End}
use Rattle.case_model.specs.declared.meshes.Mesh.{Mesh}
use Rattle.case_model.specs.Mesh.{no_pipe as no_pipe_mesh}
use Rattle.charline.specs.Characteristics.{IsImpedance, IsResistance, arrive_plus, arrive_minus}

-- the impedance of a pipe of the mesh, and the friction of one of its reaches
abbrev pub impedance : Mesh → ℕ → ℤ
impedance mesh p = (slice_index_or mesh.pipes p no_pipe_mesh).b

abbrev pub resistance : Mesh → ℕ → ℤ
resistance mesh p = (slice_index_or mesh.pipes p no_pipe_mesh).r

-- each pipe of the mesh has an impedance and a friction within their limits
pub record HasCoefficients (mesh : Mesh) : Type 0 where
  pub impedances : (p : ℕ) → p < length mesh.pipes → IsImpedance (impedance mesh p)
  pub resistances : (p : ℕ) → p < length mesh.pipes → IsResistance (resistance mesh p)

-- what arrives along one end, from the point beside it: C+ at a pipe's last place, C- at place 0
abbrev pub arrival_from : Friction → Mesh → End → Point → Option Arrival
arrival_from friction mesh e point =
    if e.at_last then arrive_plus friction (impedance mesh e.pipe) (resistance mesh e.pipe) point
    else arrive_minus friction (impedance mesh e.pipe) (resistance mesh e.pipe) point

abbrev pub joined : Option Arrival → Option (List Arrival) → Option (List Arrival)
joined (Some a) (Some arrivals) = Some (a ∷ arrivals)
joined (Some a) None = None
joined None arrivals = None

-- what arrives along all ends; nothing where one point is Bad or one characteristic out of range
abbrev pub arrivals_from : Friction → Mesh → List End → List Point → Option (List Arrival)
arrivals_from friction mesh [] near = Some []
arrivals_from friction mesh (e ∷ ends) [] = None
arrivals_from friction mesh (e ∷ ends) (point ∷ near) =
    joined (arrival_from friction mesh e point) (arrivals_from friction mesh ends near)
