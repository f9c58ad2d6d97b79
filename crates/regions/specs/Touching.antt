-- Where strands stand on the mesh, and that a section ends at the stations beside it.
use Rattle.std.specs.Prelude.{◌≡◌, ℕ, ◌+◌, ◌/◌, ◌<◌, ◌≤◌, ◌⊎◌, false, if◌then◌else◌, length}
use Rattle.case_model.specs.declared.meshes.Mesh.{Mesh}
use Rattle.case_model.specs.Mesh.{reaches, ends_of}
use Rattle.regions.specs.declared.shapes.Layout.{Layout}
use Rattle.regions.specs.declared.shapes.Shape.{Shape}
use Rattle.regions.specs.declared.shapes.Shape.TheVariants.{OfNode, OfSeam, OfSection}
use Rattle.regions.specs.Sides.{end_at, shape_at, is_section, sides_of, side_of, back_of}

-- where strand x of this shape stands: a seam with half a window of places to both its sides, a
-- section as long as a window of w steps
abbrev pub IsStanding : Mesh → ℕ → ℕ → Shape → Type 0
IsStanding mesh w x (OfNode node) = (node ≡ x) × (node < length mesh.ends)
IsStanding mesh w x (OfSeam pipe place left right) =
    (pipe < length mesh.pipes) × ((w + 1) / 2 ≤ place) × (place + (w + 1) / 2 ≤ reaches mesh pipe)
IsStanding mesh w x (OfSection pipe place count left right) =
    (pipe < length mesh.pipes) × (2 ≤ count) × (w ≤ count) × (place + count ≤ reaches mesh pipe)

-- the pipe of a station's side c, and the place of the station on it, by the station's shape
abbrev pub station_pipe : Mesh → ℕ → Shape → ℕ
station_pipe mesh c (OfNode node) = (end_at mesh node c).pipe
station_pipe mesh c (OfSeam pipe place left right) = pipe
station_pipe mesh c (OfSection pipe place count left right) = pipe

abbrev pub station_place : Mesh → ℕ → Shape → ℕ
station_place mesh c (OfNode node) =
    if (end_at mesh node c).at_last then reaches mesh (end_at mesh node c).pipe else 0
station_place mesh c (OfSeam pipe place left right) = place
station_place mesh c (OfSection pipe place count left right) = place

-- the neighbour of station x at side c is a section of the same pipe, which begins or ends there
pub record IsTouching (layout : Layout) (mesh : Mesh) (x c : ℕ) : Type 0 where
  pub place : ℕ
  pub count : ℕ
  pub left : ℕ
  pub right : ℕ
  pub shape : shape_at layout (side_of layout mesh x c)
      ≡ OfSection (station_pipe mesh c (shape_at layout x)) place count left right
  pub meets : ((back_of layout mesh x c ≡ 0)
      × (station_place mesh c (shape_at layout x) ≡ place))
      ⊎ ((back_of layout mesh x c ≡ 1)
      × (station_place mesh c (shape_at layout x) ≡ place + count))

-- a pipe that has an end at a node is one of the mesh, and at least as long as a window of w steps
pub record IsLongEnd (mesh : Mesh) (w p : ℕ) : Type 0 where
  pub there : p < length mesh.pipes
  pub long : w ≤ reaches mesh p

-- strands stand on the mesh, and neighbours touch
pub record AreTouching (layout : Layout) (mesh : Mesh) : Type 0 where
  pub stands : (x : ℕ) → x < length layout.shapes
      → IsStanding mesh layout.window x (shape_at layout x)
  pub ends : (k j : ℕ) → k < length mesh.ends → j < length (ends_of mesh k)
      → IsLongEnd mesh layout.window (end_at mesh k j).pipe
  pub touches : (x c : ℕ) → x < length layout.shapes → is_section layout x ≡ false
      → c < sides_of layout mesh x → IsTouching layout mesh x c
