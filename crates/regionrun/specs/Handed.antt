-- The blocks that strands hand to one another, as points and as words.
use Rattle.std.specs.Prelude.{◌≡◌, ◌≢◌, ℕ, ◌+◌, ◌-◌, ◌*◌, ◌<◌, ◌≤◌, Bool, false, if◌then◌else◌}
use Rattle.std.specs.Prelude.{List, [], ◌∷◌, length, slice_index_or, slice_range}
use Rattle.case_model.specs.declared.points.Point.{Point}
use Rattle.case_model.specs.declared.points.Point.TheVariants.{Bad}
use Rattle.case_model.specs.declared.meshes.Mesh.{Mesh}
use Rattle.case_model.specs.Meaning.{Meaning}
use Rattle.case_model.specs.Range.{IsPoint}
use Rattle.case_model.specs.Rows.{Row, row}
use Rattle.case_model.specs.Words.{words_of}
use Rattle.fronts.specs.Stretches.{count_of}
use Rattle.fronts.specs.declared.stretches.Stretch.{Stretch}
use Rattle.regions.specs.declared.shapes.Layout.{Layout}
use Rattle.regions.specs.declared.shapes.Shape.TheVariants.{OfSection}
use Rattle.regions.specs.declared.shapes.Spot.{Spot}
use Rattle.regions.specs.declared.shapes.Spot.TheVariants.{AtNode, Inside}
use Rattle.regions.specs.Blocks.{block_spot, block_step}
use Rattle.regions.specs.Sides.{back_of, is_section, shape_at, side_of, sides_of}
use Rattle.strands.specs.Beside.{HasBeside}
use Rattle.strands.specs.Stations.{half}
use Rattle.strands.specs.Blocks.{HasPoints}

-- the point that a row has at a place of a pipe; a node has none
abbrev pub point_on : Row → Spot → Point
point_on row (AtNode node) = Bad
point_on row (Inside pipe place) = row.point pipe place

-- point j of block b of strand y for its side c
unfoldable pub block_point : Meaning → Layout → ℕ → ℕ → ℕ → ℕ → Point
block_point law layout y c b j =
    point_on (row law (block_step layout y b j)) (block_spot layout law.mesh y c j)

-- a block has the points of block b of strand y for its side c
abbrev pub ArePointsFor : Meaning → Layout → ℕ → ℕ → ℕ → (ℕ → Point → Type 0) → Type 0
ArePointsFor law layout y c b tells = HasPoints layout.window (block_point law layout y c b) tells

-- the part for side c of a list that has so many items for each side
abbrev pub part : {X : Type 0} → ℕ → ℕ → List X → List X
part width c items = slice_range items (width * c) (width * c + width)

-- the four words of point number j
abbrev pub quad : List ℕ → ℕ → List ℕ
quad words j =
    slice_index_or words (4 * j) 0 ∷ slice_index_or words (4 * j + 1) 0
    ∷ slice_index_or words (4 * j + 2) 0 ∷ slice_index_or words (4 * j + 3) 0 ∷ []

-- so many points stand in these words
pub record HasWords (count : ℕ) (point : ℕ → Point) (words : List ℕ) : Type 0 where
  pub each : (j : ℕ) → j < count → quad words j ≡ words_of (point j)

-- point number j stands in these words
abbrev pub words_tell : List ℕ → ℕ → Point → Type 0
words_tell words j point = IsPoint point × (quad words j ≡ words_of point)

-- the words of point number j are these
abbrev pub words_have : List ℕ → ℕ → Point → Type 0
words_have words j point = quad words j ≡ words_of point

-- these are the words of so many points of a block
pub record AreWordsOf (count : ℕ) (tells : ℕ → Point → Type 0) (words : List ℕ) : Type 0 where
  pub each : (j : ℕ) (point : Point) → j < count → tells j point → words_have words j point

-- point number j is put into words, and nothing else changes
pub record IsWritten (j : ℕ) (point : Point) (old new : List ℕ) : Type 0 where
  pub same : length new ≡ length old
  pub here : quad new j ≡ words_of point
  pub beside : (i : ℕ) → i ≢ j → quad new i ≡ quad old i

-- these words are block b of strand y for its side c
pub record IsBlockFor (law : Meaning) (layout : Layout) (y c b : ℕ) (words : List ℕ) : Type 0 where
  pub each : length words ≡ 4 * layout.window
  pub points : HasWords layout.window (block_point law layout y c b) words

-- these words are block b of strand y: its parts for all its sides, one after another
pub record IsBlock (law : Meaning) (layout : Layout) (y b : ℕ) (words : List ℕ) : Type 0 where
  pub each : length words ≡ 4 * layout.window * sides_of layout law.mesh y
  pub parts : (c : ℕ) → c < sides_of layout law.mesh y
      → IsBlockFor law layout y c b (part (4 * layout.window) c words)

-- the stretch has the places of strand x, a section
pub record HasSection (layout : Layout) (x : ℕ) (stretch : Stretch) : Type 0 where
  pub left : ℕ
  pub right : ℕ
  pub shape : shape_at layout x ≡ OfSection stretch.pipe stretch.first (count_of stretch - 1)
      left right
  pub long : layout.window + 1 ≤ count_of stretch

-- the stretch has strand x, a station, in its place `at`, and at the right or the left of it places
-- of the section that is its neighbour at index c
pub record HasStation (layout : Layout) (mesh : Mesh) (x c : ℕ) (right : Bool) (at : ℕ)
    (stretch : Stretch) : Type 0 where
  pub station : is_section layout x ≡ false
  pub place : ℕ
  pub count : ℕ
  pub first : ℕ
  pub last : ℕ
  pub shape : shape_at layout (side_of layout mesh x c)
      ≡ OfSection stretch.pipe place count first last
  pub back : back_of layout mesh x c ≡ (if right then 0 else 1)
  pub meets : stretch.first + at ≡ (if right then place else place + count)
  pub room : HasBeside right at (half layout.window) (count_of stretch)
