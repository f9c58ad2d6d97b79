-- Which points (places at steps, and nodes at steps) lie in which region of which strand.
use Rattle.std.specs.Prelude.{◌≡◌, ℕ, zero, suc, ◌+◌, ◌-◌, ◌*◌, ◌/◌, ◌<◌, ◌≤◌, ◌⊎◌, min, nat_le}
use Rattle.std.specs.Prelude.{true, false, if◌then◌else◌, length}
use Rattle.std.specs.List.{position_or_len, range_with_len}
use Rattle.case_model.specs.declared.meshes.Mesh.{Mesh}
use Rattle.case_model.specs.Mesh.{reaches, end_node}
use Rattle.regions.specs.declared.shapes.TheConstants.{WIDEST_WINDOW}
use Rattle.regions.specs.declared.parts.Part.{Part}
use Rattle.regions.specs.declared.parts.Part.TheVariants.{Own, Left, Right}
use Rattle.regions.specs.declared.shapes.Layout.{Layout}
use Rattle.regions.specs.declared.shapes.Shape.{Shape}
use Rattle.regions.specs.declared.shapes.Shape.TheVariants.{OfNode, OfSeam, OfSection}
use Rattle.regions.specs.declared.shapes.Spot.{Spot}
use Rattle.regions.specs.declared.shapes.Spot.TheVariants.{AtNode, Inside}
use Rattle.regions.specs.Cuts.{section_reaches, cut}
use Rattle.regions.specs.Layouts.{sections_at, section_number, station_number}
use Rattle.regions.specs.Sides.{shape_at}

-- in a section of n reaches, the distance from the nearer station
abbrev pub height : ℕ → ℕ → ℕ
height n i = min i (n - i)

-- a point at distance d from a station is in the station's region m, over the steps m*w + k: at d =
-- 0 the station itself, for k from 1 to w, and farther off a triangle, where d < k and d + k <= w
pub record InStation (w m d t : ℕ) : Type 0 where
  pub after : m * w + d < t
  pub before : t + d ≤ (m + 1) * w

-- place i of a section, at step t, is in its region m + 1: it is in no station's region
pub record InBand (w n m i t : ℕ) : Type 0 where
  pub after : m * w + height n i < t
  pub before : t ≤ (m + 1) * w + height n i
  pub left : (k : ℕ) → InStation w k i t → ⊥
  pub right : (k : ℕ) → InStation w k (n - i) t → ⊥

-- place i of a section of n reaches, 0 < i < n, is in this region of the section
abbrev pub InSection : ℕ → ℕ → ℕ → ℕ → ℕ → Type 0
InSection w n zero i t = (1 ≤ t) × (t ≤ height n i)
InSection w n (suc m) i t = InBand w n m i t

-- place i of pipe p, at step t, is in region m of station x by this shape, a section that ends at x
abbrev pub InStationBy : ℕ → ℕ → ℕ → ℕ → ℕ → ℕ → Shape → Type 0
InStationBy w x m p i t (OfNode node) = ⊥
InStationBy w x m p i t (OfSeam pipe place left right) = ⊥
InStationBy w x m p i t (OfSection pipe place count left right) =
    (pipe ≡ p) × (place ≤ i) × (i ≤ place + count)
    × (((left ≡ x) × InStation w m (i - place) t)
    ⊎ ((right ≡ x) × InStation w m (place + count - i) t))

-- place i of pipe p, at step t, is in region m of station x
pub record InStations (layout : Layout) (x m p i t : ℕ) : Type 0 where
  pub region : m < layout.windows
  pub section : ℕ
  pub there : section < length layout.shapes
  pub by : InStationBy layout.window x m p i t (shape_at layout section)

-- the same of any spot, by the shape of strand x
abbrev pub InShape : Layout → ℕ → ℕ → ℕ → Shape → Spot → Type 0
InShape layout x m t (OfNode node) (AtNode k) = (node ≡ k) × (m < layout.windows)
    × InStation layout.window m 0 t
InShape layout x m t (OfNode node) (Inside p i) = InStations layout x m p i t
InShape layout x m t (OfSeam pipe place left right) (AtNode k) = ⊥
InShape layout x m t (OfSeam pipe place left right) (Inside p i) = InStations layout x m p i t
InShape layout x m t (OfSection pipe place count left right) (AtNode k) = ⊥
InShape layout x m t (OfSection pipe place count left right) (Inside p i) =
    (pipe ≡ p) × (place < i) × (i < place + count) × (m ≤ layout.windows)
    × InSection layout.window count m (i - place) t

-- the spot, at step t, is in region m of strand x
abbrev pub InRegion : Layout → ℕ → ℕ → Spot → ℕ → Type 0
InRegion layout x m spot t = InShape layout x m t (shape_at layout x) spot

-- ---- the owner

-- which part of space and time has place i of a section of n reaches at step t, 0 <= i <= n
unfoldable pub part_from : ℕ → ℕ → ℕ → ℕ → ℕ → Part
part_from w n i t m =
    if nat_le (t + height n i) ((m + 1) * w)
    then (if nat_le i (n - i) then Left m else Right m)
    else Own (m + 1)

unfoldable pub part_of : ℕ → ℕ → ℕ → ℕ → Part
part_of w n i t =
    if nat_le t (height n i) then Own 0 else part_from w n i t ((t - height n i - 1) / w)

-- the section of pipe p that has place i: the first that ends there or behind it
unfoldable pub section_of : Mesh → ℕ → ℕ → ℕ → ℕ
section_of mesh w p i =
    position_or_len (λ j. nat_le i (cut w (reaches mesh p) (j + 1)))
    (range_with_len 0 (sections_at mesh w p))

-- a region of a strand
pub record Owner : Type 0 where
  pub strand : ℕ
  pub region : ℕ

-- what a part of section j of pipe p belongs to
abbrev pub owner_by : Mesh → ℕ → ℕ → ℕ → Part → Owner
owner_by mesh w p j (Own r) = record { strand = section_number mesh w p j; region = r }
owner_by mesh w p j (Left m) = record { strand = station_number mesh w p j; region = m }
owner_by mesh w p j (Right m) = record { strand = station_number mesh w p (j + 1); region = m }

-- whose region has place i of pipe p at step t
abbrev pub place_owner : Mesh → ℕ → ℕ → ℕ → ℕ → ℕ → Owner
place_owner mesh w p i t j =
    owner_by mesh w p j
    (part_of w (section_reaches w (reaches mesh p) j) (i - cut w (reaches mesh p) j) t)

-- whose region has a spot at step t
unfoldable pub owner_of : Mesh → ℕ → Spot → ℕ → Owner
owner_of mesh w (AtNode k) t = record { strand = k; region = (t - 1) / w }
owner_of mesh w (Inside p i) t = place_owner mesh w p i t (section_of mesh w p i)

-- the mesh has this spot
abbrev pub HasSpot : Mesh → Spot → Type 0
HasSpot mesh (AtNode k) = k < length mesh.ends
HasSpot mesh (Inside p i) = (p < length mesh.pipes) × (i ≤ reaches mesh p)

-- to lie in a region is to have it as owner: each spot of the mesh, at each step of the windows,
-- lies in exactly one region; the end of a pipe lies in that of its node
pub record IsPartition (layout : Layout) (mesh : Mesh) : Type 0 where
  pub owned : (spot : Spot) (t x m : ℕ) → HasSpot mesh spot → x < length layout.shapes
      → InRegion layout x m spot t → owner_of mesh layout.window spot t
      ≡ record { strand = x; region = m }
  pub there : (spot : Spot) (t : ℕ) → HasSpot mesh spot → 1 ≤ t → t ≤ layout.windows * layout.window
      → (owner_of mesh layout.window spot t).strand < length layout.shapes
  pub inside : (spot : Spot) (t : ℕ) → HasSpot mesh spot → 1 ≤ t
      → t ≤ layout.windows * layout.window
      → InRegion layout (owner_of mesh layout.window spot t).strand
      (owner_of mesh layout.window spot t).region spot t
  pub first : (p t : ℕ) → p < length mesh.pipes → 1 ≤ t
      → owner_of mesh layout.window (Inside p 0) t
      ≡ owner_of mesh layout.window (AtNode (end_node mesh p false)) t
  pub last : (p t : ℕ) → p < length mesh.pipes → 1 ≤ t
      → owner_of mesh layout.window (Inside p (reaches mesh p)) t
      ≡ owner_of mesh layout.window (AtNode (end_node mesh p true)) t

-- what a layout has whose sections are as long as a window: its numbers are small enough to compute
-- with
abbrev pub IsLong : ℕ → Shape → Type 0
IsLong w (OfNode node) = Unit {0}
IsLong w (OfSeam pipe place left right) = Unit {0}
IsLong w (OfSection pipe place count left right) = (w ≤ count) × (place + count ≤ 400_000)

pub record IsWhole (layout : Layout) : Type 0 where
  pub some : 1 ≤ layout.window
  pub few : layout.window ≤ WIDEST_WINDOW
  pub windows : layout.windows ≤ 100_000_000
  pub strands : length layout.shapes ≤ 1_000_000
  pub long : (y : ℕ) → y < length layout.shapes → IsLong layout.window (shape_at layout y)
