-- The places that strands of each shape keep.
use Rattle.std.specs.Prelude.{◌≡◌, ℕ, ◌+◌, ◌-◌, ◌*◌}
use Rattle.case_model.specs.Mesh.{base_of}
use Rattle.case_model.specs.declared.meshes.Mesh.{Mesh}
use Rattle.fronts.specs.Stretches.{IsStretchOf}
use Rattle.fronts.specs.declared.stretches.Stretch.{Stretch}
use Rattle.regions.specs.declared.shapes.Shape.{Shape}
use Rattle.regions.specs.declared.shapes.Shape.TheVariants.{OfNode, OfSeam, OfSection}
use Rattle.strands.specs.Stations.{half}

-- the stretch of a section of this shape
abbrev pub IsSectionStretch : Mesh → Shape → Stretch → Type 0
IsSectionStretch mesh (OfNode node) stretch = ⊥
IsSectionStretch mesh (OfSeam pipe place left right) stretch = ⊥
IsSectionStretch mesh (OfSection pipe place count left right) stretch =
    IsStretchOf pipe place (base_of mesh pipe + place) (count + 1) stretch

-- the stretch of a seam of this shape
abbrev pub IsSeamStretch : Mesh → ℕ → Shape → Stretch → Type 0
IsSeamStretch mesh w (OfNode node) stretch = ⊥
IsSeamStretch mesh w (OfSeam pipe place left right) stretch =
    IsStretchOf pipe (place - half w) (base_of mesh pipe + place - half w) (2 * half w + 1) stretch
IsSeamStretch mesh w (OfSection pipe place count left right) stretch = ⊥

-- the shape is that of a node
abbrev pub IsNodeOf : Shape → ℕ → Type 0
IsNodeOf (OfNode node) k = k ≡ node
IsNodeOf (OfSeam pipe place left right) k = ⊥
IsNodeOf (OfSection pipe place count left right) k = ⊥
