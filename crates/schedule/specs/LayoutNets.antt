-- The net of a layout, and the lists that hold it.
use Rattle.std.specs.Prelude.{◌≡◌, ℕ, ◌<◌, Bool, false, List, [], length, slice_index_or}
use Rattle.case_model.specs.declared.meshes.Mesh.{Mesh}
use Rattle.regions.specs.declared.shapes.Layout.{Layout}
use Rattle.regions.specs.Sides.{is_section, sides_of, side_of, back_of}
use Rattle.schedule.specs.declared.links.Link.{Link}
use Rattle.schedule.specs.Counted.{no_link}
use Rattle.schedule.specs.Nets.{Net}

-- strands, sides and windows of the layout of a mesh
abbrev pub layout_net : Layout → Mesh → ℕ → Net
layout_net layout mesh slots = record {
  strands = length layout.shapes;
  windows = layout.windows;
  slots = slots;
  is_section = is_section layout;
  sides = sides_of layout mesh;
  side = side_of layout mesh;
  back = back_of layout mesh;
}

-- the first `count` neighbours of strand x
pub record AreLinksOf (layout : Layout) (mesh : Mesh) (x count : ℕ)
    (links : List Link) : Type 0 where
  pub each : length links ≡ count
  pub strands : (j : ℕ) → j < count → (slice_index_or links j no_link).strand
      ≡ side_of layout mesh x j
  pub backs : (j : ℕ) → j < count → (slice_index_or links j no_link).back ≡ back_of layout mesh x j

-- the neighbours of each of the first `count` strands
pub record AreLinked (layout : Layout) (mesh : Mesh) (count : ℕ)
    (links : List (List Link)) : Type 0 where
  pub each : length links ≡ count
  pub linked : (x : ℕ) → x < count
      → AreLinksOf layout mesh x (sides_of layout mesh x) (slice_index_or links x [])

-- whether strands are sections, for the first `count`
pub record AreKinds (layout : Layout) (count : ℕ) (kinds : List Bool) : Type 0 where
  pub each : length kinds ≡ count
  pub kind : (x : ℕ) → x < count → slice_index_or kinds x false ≡ is_section layout x
