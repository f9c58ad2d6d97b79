-- What a strand keeps of its places, by its kind: what is computed of it, what it takes in, and
-- what it hands on. Windows have w steps; c is how many regions are computed.
use Rattle.std.specs.Prelude.{◌≡◌, ℕ, zero, suc, ◌+◌, ◌-◌, ◌*◌, ◌<◌, ◌≤◌, ◌==◌, ◌||◌, Bool, true}
use Rattle.std.specs.Prelude.{false, if◌then◌else◌, length, map, slice_index_or}
use Rattle.case_model.specs.Meaning.{Meaning}
use Rattle.case_model.specs.declared.meshes.Mesh.{Mesh}
use Rattle.case_model.specs.declared.points.Point.{Point}
use Rattle.envelope.specs.declared.folds.Fold.{Fold}
use Rattle.fronts.specs.Fronts.{loaded, risen, tent}
use Rattle.fronts.specs.Stretches.{AreSamePlaces, count_of}
use Rattle.fronts.specs.declared.stretches.Stretch.{Stretch}
use Rattle.regions.specs.declared.shapes.Shape.{Shape}
use Rattle.regionrun.specs.Places.{IsNodeOf, IsSeamStretch, IsSectionStretch}
use Rattle.regionrun.specs.declared.bodies.Body.{Body}
use Rattle.regionrun.specs.declared.bodies.Body.TheVariants.{OfNode, OfSeam, OfSection}
use Rattle.strands.specs.Beside.{inner_side, outer_side}
use Rattle.strands.specs.Hubs.{HasInner, HasOuter, IsForWindow, IsHubAfter, IsHubAt, IsSameHub}
use Rattle.strands.specs.Hubs.{NotesHub, hub_marks, spokes_of}
use Rattle.strands.specs.Marks.{Marks, is_between}
use Rattle.strands.specs.Seams.{IsSeamAt, IsSeamDone}
use Rattle.strands.specs.Sections.{NotesInside}
use Rattle.strands.specs.Stations.{NotesTriangles, half, seam_front}
use Rattle.strands.specs.Tents.{IsFreshSection, IsSectionAt, IsUnfed}
use Rattle.strands.specs.Blocks.{HasPoints, section_side, station_side}
use Rattle.strands.specs.declared.tents.Section.{Section}

-- whether these are the places of a section
abbrev pub is_section_body : Body → Bool
is_section_body (OfSection section) = true
is_section_body (OfSeam seam) = false
is_section_body (OfNode hub) = false

-- the body has the places of a strand of this shape
abbrev pub IsBodyOf : Mesh → ℕ → Shape → Body → Type 0
IsBodyOf mesh w shape (OfSection section) = IsSectionStretch mesh shape section.stretch
IsBodyOf mesh w shape (OfSeam seam) = IsSeamStretch mesh w shape seam.stretch
IsBodyOf mesh w shape (OfNode hub) = IsNodeOf shape hub.node

-- how many neighbours the strand has
abbrev pub side_count : Body → ℕ
side_count (OfSection section) = 2
side_count (OfSeam seam) = 2
side_count (OfNode hub) = length (spokes_of hub)

-- whether the block of side c is loaded
abbrev pub has_block : Body → ℕ → Bool
has_block (OfSection section) c = if c == 0 then section.left else section.right
has_block (OfSeam seam) c = if c == 0 then seam.left else seam.right
has_block (OfNode hub) c = slice_index_or (map (λ spoke. spoke.loaded) (spokes_of hub)) c false

-- the step after which the window begins whose blocks the next region needs: a section's region
-- m + 1 goes over window m
abbrev pub window_start : Body → ℕ → ℕ → ℕ
window_start (OfSection section) w c = (c - 1) * w
window_start (OfSeam seam) w c = c * w
window_start (OfNode hub) w c = c * w

-- the places are those that windows of w steps want
abbrev pub FitsWindow : ℕ → Body → Type 0
FitsWindow w (OfSection section) = w + 1 ≤ count_of section.stretch
FitsWindow w (OfSeam seam) = (1 ≤ w) × (count_of seam.stretch ≡ 2 * half w + 1)
FitsWindow w (OfNode hub) = IsForWindow w hub

-- a section of which c regions are computed
abbrev pub IsSectionAfter : Meaning → ℕ → Section → ℕ → Type 0
IsSectionAfter law w section zero = IsFreshSection law section
IsSectionAfter law w section (suc m) = IsSectionAt law w (m * w) section

-- a strand of which c regions are computed, with the blocks that are loaded for the next one
abbrev pub IsBodyAt : Meaning → ℕ → Body → ℕ → Type 0
IsBodyAt law w (OfSection section) c = IsSectionAfter law w section c
IsBodyAt law w (OfSeam seam) c = IsSeamAt law w (c * w) seam
IsBodyAt law w (OfNode hub) c = IsHubAt law w (c * w) hub

-- the same where the next region needs blocks
abbrev pub IsOpen : Meaning → ℕ → ℕ → Body → Type 0
IsOpen law w c (OfSection section) = IsSectionAt law w ((c - 1) * w) section
IsOpen law w c (OfSeam seam) = IsSeamAt law w (c * w) seam
IsOpen law w c (OfNode hub) = IsHubAt law w (c * w) hub

-- the strand when its region number c was computed last
abbrev pub IsComputed : Meaning → ℕ → ℕ → Body → Type 0
IsComputed law w c (OfSection section) = IsSectionAt law w (c * w) section × IsUnfed section
IsComputed law w c (OfSeam seam) = IsSeamDone law w (c * w) seam × IsSeamAt law w (c * w + w) seam
IsComputed law w c (OfNode hub) = IsHubAfter law w (c * w) w hub × IsHubAt law w (c * w + w) hub

-- a block has the points that the next region needs of a side
abbrev pub HasIncoming : Meaning → ℕ → ℕ → ℕ → Body → (ℕ → Point → Type 0) → Type 0
HasIncoming law w c side (OfSection section) tells =
    HasPoints w (station_side law section.stretch (side == 0) w ((c - 1) * w)) tells
HasIncoming law w c side (OfSeam seam) tells =
    HasPoints w (outer_side law seam.stretch (side == 1) (half w) (c * w)) tells
HasIncoming law w c side (OfNode hub) tells = HasOuter law w (c * w) side hub tells

-- a block has the points of region c for a side
abbrev pub HasOutgoing : Meaning → ℕ → ℕ → ℕ → Body → (ℕ → Point → Type 0) → Type 0
HasOutgoing law w c side (OfSection section) tells =
    HasPoints w (section_side law section.stretch (side == 0) (c * w)) tells
HasOutgoing law w c side (OfSeam seam) tells =
    HasPoints w (inner_side law seam.stretch (side == 1) (half w) w (c * w)) tells
HasOutgoing law w c side (OfNode hub) tells = HasInner law w (c * w) side hub tells

-- two bodies of the same kind, with the same places
abbrev pub IsSameBody : Body → Body → Type 0
IsSameBody (OfSection old) (OfSection new) = AreSamePlaces old.stretch new.stretch
IsSameBody (OfSection old) (OfSeam new) = ⊥
IsSameBody (OfSection old) (OfNode new) = ⊥
IsSameBody (OfSeam old) (OfSection new) = ⊥
IsSameBody (OfSeam old) (OfSeam new) = AreSamePlaces old.stretch new.stretch
IsSameBody (OfSeam old) (OfNode new) = ⊥
IsSameBody (OfNode old) (OfSection new) = ⊥
IsSameBody (OfNode old) (OfSeam new) = ⊥
IsSameBody (OfNode old) (OfNode new) = IsSameHub old new

-- no block is loaded
abbrev pub IsBareBody : Body → Type 0
IsBareBody body = (c : ℕ) → c < side_count body → has_block body c ≡ false

-- all blocks that the next region needs are loaded
abbrev pub IsFedBody : Body → ℕ → Type 0
IsFedBody body c =
    (side : ℕ) → (is_section_body body ≡ true → 1 ≤ c) → side < side_count body
    → has_block body side ≡ true

-- the block of this side is loaded, and nothing changes of the places and of the other sides
pub record HasLoaded (side : ℕ) (old new : Body) : Type 0 where
  pub same : IsSameBody old new
  pub loaded : (c : ℕ) → c < side_count old → has_block new c ≡ (has_block old c || (c == side))

-- the fold has the places that the strand's regions own
abbrev pub IsNoting : ℕ → Fold → Body → Type 0
IsNoting w fold (OfSection section) = NotesInside section.stretch fold
IsNoting w fold (OfSeam seam) = NotesTriangles w seam.stretch fold
IsNoting w fold (OfNode hub) = NotesHub hub fold

-- the steps and places of region c
abbrev pub section_marks : ℕ → Stretch → ℕ → Marks
section_marks w stretch zero =
    is_between stretch (risen (count_of stretch - 1) 0) (tent 0 (count_of stretch - 1))
section_marks w stretch (suc m) =
    is_between stretch (loaded (m * w) w (count_of stretch - 1))
    (tent (m * w + w) (count_of stretch - 1))

abbrev pub body_marks : ℕ → Body → ℕ → Marks
body_marks w (OfSection section) c = section_marks w section.stretch c
body_marks w (OfSeam seam) c =
    is_between seam.stretch (seam_front w (c * w) 0) (seam_front w (c * w) w)
body_marks w (OfNode hub) c = hub_marks w (c * w) 0 w hub
