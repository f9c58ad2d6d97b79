-- The neighbours of strands.
use Rattle.std.specs.Prelude.{◌≡◌, ℕ, ◌-◌, ◌<◌, ◌⊎◌, ◌==◌, not, Bool, true, false, if◌then◌else◌}
use Rattle.std.specs.Prelude.{length, slice_index_or}
use Rattle.case_model.specs.declared.meshes.End.{End}
use Rattle.case_model.specs.declared.meshes.Mesh.{Mesh}
use Rattle.case_model.specs.Joints.{no_end}
use Rattle.case_model.specs.Mesh.{ends_of, end_node, end_index}
use Rattle.regions.specs.declared.shapes.Layout.{Layout}
use Rattle.regions.specs.declared.shapes.Shape.{Shape}
use Rattle.regions.specs.declared.shapes.Shape.TheVariants.{OfNode, OfSeam, OfSection}
use Rattle.regions.specs.Layouts.{sections_at, section_number}

-- the end at index j of node k
abbrev pub end_at : Mesh → ℕ → ℕ → End
end_at mesh k j = slice_index_or (ends_of mesh k) j no_end

-- strand x
abbrev pub shape_at : Layout → ℕ → Shape
shape_at layout x = slice_index_or layout.shapes x (OfNode 0)

abbrev pub is_section_shape : Shape → Bool
is_section_shape (OfNode node) = false
is_section_shape (OfSeam pipe place left right) = false
is_section_shape (OfSection pipe place count left right) = true

-- whether strand x is a section, and not a station
abbrev pub is_section : Layout → ℕ → Bool
is_section layout x = is_section_shape (shape_at layout x)

-- how many neighbours a strand of this shape has
abbrev pub sides_in : Mesh → Shape → ℕ
sides_in mesh (OfNode node) = length (ends_of mesh node)
sides_in mesh (OfSeam pipe place left right) = 2
sides_in mesh (OfSection pipe place count left right) = 2

-- the section at an end of a pipe
abbrev pub section_at_end : Mesh → ℕ → End → ℕ
section_at_end mesh w e =
    section_number mesh w e.pipe (if e.at_last then sections_at mesh w e.pipe - 1 else 0)

-- the neighbour at index j
abbrev pub side_in : Mesh → ℕ → ℕ → Shape → ℕ
side_in mesh w j (OfNode node) = section_at_end mesh w (end_at mesh node j)
side_in mesh w j (OfSeam pipe place left right) = if j == 0 then left else right
side_in mesh w j (OfSection pipe place count left right) = if j == 0 then left else right

-- which side of a station the section of pipe p is that ends there, at its last place or at place
-- 0; the shape is the station's
abbrev pub side_of_station : Mesh → ℕ → Bool → Shape → ℕ
side_of_station mesh p last (OfNode node) = end_index mesh p last
side_of_station mesh p last (OfSeam pipe place left right) = if last then 0 else 1
side_of_station mesh p last (OfSection pipe place count left right) = 0

-- which side of its neighbour at index j a strand of this shape is
abbrev pub back_in : Layout → Mesh → ℕ → Shape → ℕ
back_in layout mesh j (OfNode node) = if (end_at mesh node j).at_last then 1 else 0
back_in layout mesh j (OfSeam pipe place left right) = if j == 0 then 1 else 0
back_in layout mesh j (OfSection pipe place count left right) =
    if j == 0
    then side_of_station mesh pipe false (shape_at layout left)
    else side_of_station mesh pipe true (shape_at layout right)

-- how many neighbours strand x has
unfoldable pub sides_of : Layout → Mesh → ℕ → ℕ
sides_of layout mesh x = sides_in mesh (shape_at layout x)

-- its neighbour at index j, by number
unfoldable pub side_of : Layout → Mesh → ℕ → ℕ → ℕ
side_of layout mesh x j = side_in mesh layout.window j (shape_at layout x)

-- which side of that neighbour strand x is, by this same adjacency
unfoldable pub back_of : Layout → Mesh → ℕ → ℕ → ℕ
back_of layout mesh x j = back_in layout mesh j (shape_at layout x)

-- neighbours are neighbours of one another, of the other kind, at the index that each has for the
-- other
pub record AreMutual (layout : Layout) (mesh : Mesh) : Type 0 where
  pub inside : (x j : ℕ) → x < length layout.shapes → j < sides_of layout mesh x
      → side_of layout mesh x j < length layout.shapes
  pub index : (x j : ℕ) → x < length layout.shapes → j < sides_of layout mesh x
      → back_of layout mesh x j < sides_of layout mesh (side_of layout mesh x j)
  pub again : (x j : ℕ) → x < length layout.shapes → j < sides_of layout mesh x
      → side_of layout mesh (side_of layout mesh x j) (back_of layout mesh x j) ≡ x
  pub twice : (x j : ℕ) → x < length layout.shapes → j < sides_of layout mesh x
      → back_of layout mesh (side_of layout mesh x j) (back_of layout mesh x j) ≡ j
  pub kinds : (x j : ℕ) → x < length layout.shapes → j < sides_of layout mesh x
      → is_section layout (side_of layout mesh x j) ≡ not (is_section layout x)

-- each end in a node's list is found there again
pub record IsWired (mesh : Mesh) : Type 0 where
  pub node : (k j : ℕ) → k < length mesh.ends → j < length (ends_of mesh k)
      → end_node mesh (end_at mesh k j).pipe (end_at mesh k j).at_last ≡ k
  pub index : (k j : ℕ) → k < length mesh.ends → j < length (ends_of mesh k)
      → end_index mesh (end_at mesh k j).pipe (end_at mesh k j).at_last ≡ j

-- in order of pipes, and of one pipe the end at place 0 before that at its last place
abbrev pub IsBefore : End → End → Type 0
IsBefore a b = (a.pipe < b.pipe) ⊎ ((a.pipe ≡ b.pipe) × (a.at_last ≡ false) × (b.at_last ≡ true))

-- the ends of each node stand in that order
pub record AreOrdered (mesh : Mesh) : Type 0 where
  pub each : (k i j : ℕ) → k < length mesh.ends → i < j → j < length (ends_of mesh k)
      → IsBefore (end_at mesh k i) (end_at mesh k j)
