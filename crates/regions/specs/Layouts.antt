-- The strands of a mesh, in order: its nodes, its seams, its sections.
use Rattle.std.specs.Prelude.{ℕ, ◌+◌, ◌-◌, ◌==◌, true, false, if◌then◌else◌, List, ◌++◌, length}
use Rattle.std.specs.Prelude.{map, take, sum_by}
use Rattle.std.specs.List.{flat_map, range_with_len}
use Rattle.case_model.specs.declared.meshes.Mesh.{Mesh}
use Rattle.case_model.specs.declared.meshes.PipeMesh.{PipeMesh}
use Rattle.case_model.specs.Mesh.{reaches, end_node}
use Rattle.regions.specs.declared.shapes.Layout.{Layout}
use Rattle.regions.specs.declared.shapes.Shape.{Shape}
use Rattle.regions.specs.declared.shapes.Shape.TheVariants.{OfNode, OfSeam, OfSection}
use Rattle.regions.specs.Cuts.{window_of, windows_of, sections, section_reaches, cut}

-- how many sections pipe p has
abbrev pub sections_at : Mesh → ℕ → ℕ → ℕ
sections_at mesh w p = sections w (reaches mesh p)

-- how many seams and sections the pipes before pipe p have
unfoldable pub seams_before : Mesh → ℕ → ℕ → ℕ
seams_before mesh w p =
    sum_by (λ (pipe : PipeMesh). sections w pipe.reaches - 1) (take p mesh.pipes)

unfoldable pub sections_before : Mesh → ℕ → ℕ → ℕ
sections_before mesh w p = sum_by (λ (pipe : PipeMesh). sections w pipe.reaches) (take p mesh.pipes)

-- the number of the seam where section j of pipe p begins, for j from 1 on: behind the nodes
unfoldable pub seam_number : Mesh → ℕ → ℕ → ℕ → ℕ
seam_number mesh w p j = length mesh.ends + seams_before mesh w p + (j - 1)

-- the number of section j of pipe p: behind the nodes and all seams
unfoldable pub section_number : Mesh → ℕ → ℕ → ℕ → ℕ
section_number mesh w p j = length mesh.ends + seams_before mesh w (length mesh.pipes)
    + sections_before mesh w p + j

-- the station at cut c of pipe p: a node at both ends of the pipe, and a seam elsewhere
unfoldable pub station_number : Mesh → ℕ → ℕ → ℕ → ℕ
station_number mesh w p c =
    if c == 0 then end_node mesh p false
    else if c == sections_at mesh w p then end_node mesh p true
    else seam_number mesh w p c

-- the seam in which section j of pipe p ends
abbrev pub seam_shape : Mesh → ℕ → ℕ → ℕ → Shape
seam_shape mesh w p j =
    OfSeam p (cut w (reaches mesh p) (j + 1))
    (section_number mesh w p j) (section_number mesh w p (j + 1))

-- section j of pipe p
abbrev pub section_shape : Mesh → ℕ → ℕ → ℕ → Shape
section_shape mesh w p j =
    OfSection p (cut w (reaches mesh p) j) (section_reaches w (reaches mesh p) j)
    (station_number mesh w p j) (station_number mesh w p (j + 1))

-- the seams and the sections of pipe p, in order of place
abbrev pub seams_of : Mesh → ℕ → ℕ → List Shape
seams_of mesh w p = map (seam_shape mesh w p) (range_with_len 0 (sections_at mesh w p - 1))

abbrev pub sections_of : Mesh → ℕ → ℕ → List Shape
sections_of mesh w p = map (section_shape mesh w p) (range_with_len 0 (sections_at mesh w p))

-- all strands over a window of w steps
unfoldable pub shapes_of : Mesh → ℕ → List Shape
shapes_of mesh w =
    map OfNode (range_with_len 0 (length mesh.ends))
    ++ flat_map (seams_of mesh w) (range_with_len 0 (length mesh.pipes))
    ++ flat_map (sections_of mesh w) (range_with_len 0 (length mesh.pipes))

-- the layout of a mesh for so many steps, with windows of at most so many steps as wished
unfoldable pub layout_of : ℕ → Mesh → ℕ → Layout
layout_of steps mesh wish = record {
  window = window_of mesh wish;
  windows = windows_of (window_of mesh wish) steps;
  shapes = shapes_of mesh (window_of mesh wish);
}
