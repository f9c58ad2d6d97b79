-- The blocks that strands hand to their neighbours: which points they hold, and in which order.
use Rattle.std.specs.Prelude.{◌≡◌, ℕ, ◌+◌, ◌-◌, ◌*◌, ◌/◌, ◌%◌, ◌<◌, ◌≤◌, ◌⊎◌, ◌==◌, true, false}
use Rattle.std.specs.Prelude.{min, if◌then◌else◌, length}
use Rattle.case_model.specs.declared.meshes.Mesh.{Mesh}
use Rattle.regions.specs.declared.shapes.Layout.{Layout}
use Rattle.regions.specs.declared.shapes.Shape.{Shape}
use Rattle.regions.specs.declared.shapes.Shape.TheVariants.{OfNode, OfSeam, OfSection}
use Rattle.regions.specs.declared.shapes.Spot.{Spot}
use Rattle.regions.specs.declared.shapes.Spot.TheVariants.{AtNode, Inside}
use Rattle.regions.specs.Sides.{shape_at, is_section, sides_of, side_of, back_of}
use Rattle.regions.specs.Regions.{InRegion}

-- what a section's block holds for a side, by the distance d from that side's station and the steps
-- k after the start of the block's window: the two last points that the section has there before
-- the station's triangle
pub record InSectionBlock (w d k : ℕ) : Type 0 where
  pub away : 1 ≤ d
  pub near : (k + 1 ≡ d) ⊎ (k ≡ d)
  pub fits : d + k ≤ w

-- what a station's block holds for a side: the two last points of its column and its triangle
pub record InStationBlock (w d k : ℕ) : Type 0 where
  pub near : (k + d + 1 ≡ w) ⊎ (k + d ≡ w)
  pub after : d < k

-- point j of a section's block for a side, as (d, k)
abbrev pub section_point : ℕ → ℕ × ℕ
section_point j = (j / 2 + 1, (j + 1) / 2)

-- point j of a station's block for a side, as (d, k); where w is odd, the last distance has one
-- point alone
abbrev pub station_point : ℕ → ℕ → ℕ × ℕ
station_point w j = (j / 2, if j + 1 == w then w - j / 2 else w - 1 - j / 2 + j % 2)

-- and which point (d, k) is
abbrev pub section_index : ℕ → ℕ → ℕ
section_index d k = d + k - 1

abbrev pub station_index : ℕ → ℕ → ℕ → ℕ
station_index w d k = min (3 * d + k + 1 - w) (w - 1)

-- point j of a block of strand x for one of its sides
unfoldable pub block_point_of : Layout → ℕ → ℕ → ℕ × ℕ
block_point_of layout x j =
    if is_section layout x then section_point j else station_point layout.window j

-- a nearer place comes first, and then an earlier step
abbrev pub IsEarlier : ℕ × ℕ → ℕ × ℕ → Type 0
IsEarlier a b = (a.0 < b.0) ⊎ ((a.0 ≡ b.0) × (a.1 < b.1))

-- the points 0 to w - 1 are those of the set, each once, in order
pub record AreInOrder (w : ℕ) (Holds : ℕ → ℕ → Type 0) (point : ℕ → ℕ × ℕ)
    (index : ℕ → ℕ → ℕ) : Type 0 where
  pub held : (j : ℕ) → j < w → Holds (point j).0 (point j).1
  pub there : (d k : ℕ) → Holds d k → index d k < w
  pub found : (d k : ℕ) → Holds d k → point (index d k) ≡ (d, k)
  pub once : (j : ℕ) → j < w → index (point j).0 (point j).1 ≡ j
  pub order : (i j : ℕ) → i < j → j < w → IsEarlier (point i) (point j)

-- the place of a section at distance d from its left station (side 0) or its right one (side 1)
abbrev pub side_spot : ℕ → ℕ → Shape → Spot
side_spot side d (OfNode node) = AtNode node
side_spot side d (OfSeam pipe place left right) = Inside pipe place
side_spot side d (OfSection pipe place count left right) =
    if side == 0 then Inside pipe (place + d) else Inside pipe (place + count - d)

-- the spot of point j of the blocks of strand y for its side c: of a section one of its own places,
-- of a station one of the section at that side
unfoldable pub block_spot : Layout → Mesh → ℕ → ℕ → ℕ → Spot
block_spot layout mesh y c j =
    if is_section layout y
    then side_spot c (section_point j).0 (shape_at layout y)
    else side_spot (back_of layout mesh y c) (station_point layout.window j).0
    (shape_at layout (side_of layout mesh y c))

-- and its step in block b
unfoldable pub block_step : Layout → ℕ → ℕ → ℕ → ℕ
block_step layout y b j = b * layout.window + (block_point_of layout y j).1

-- where the points of blocks lie: those of a section's block b at step 0 or in its regions up to b,
-- those of a station's block b in its region b
pub record AreWritten (layout : Layout) (mesh : Mesh) : Type 0 where
  pub section : (y c j b : ℕ) → y < length layout.shapes → is_section layout y ≡ true → c < 2
      → j < layout.window → b < layout.windows
      → (block_step layout y b j ≡ 0)
      ⊎ ((r : ℕ) × (r ≤ b)
      × InRegion layout y r (block_spot layout mesh y c j) (block_step layout y b j))
  pub station : (y c j b : ℕ) → y < length layout.shapes → is_section layout y ≡ false
      → c < sides_of layout mesh y → j < layout.window → b < layout.windows
      → InRegion layout y b (block_spot layout mesh y c j) (block_step layout y b j)
