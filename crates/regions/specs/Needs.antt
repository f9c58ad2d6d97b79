-- What the laws of a region's points read, and where it lies.
use Rattle.std.specs.Prelude.{◌≡◌, ℕ, zero, suc, ◌+◌, ◌<◌, ◌≤◌, ◌==◌, if◌then◌else◌, Bool, true}
use Rattle.std.specs.Prelude.{false, Option, Some, None, length}
use Rattle.case_model.specs.declared.meshes.Mesh.{Mesh}
use Rattle.case_model.specs.Meaning.{Meaning}
use Rattle.case_model.specs.Mesh.{reaches, ends_of, next_to, end_node}
use Rattle.case_model.specs.Rows.{Row, next}
use Rattle.regions.specs.declared.shapes.Layout.{Layout}
use Rattle.regions.specs.declared.shapes.Spot.{Spot}
use Rattle.regions.specs.declared.shapes.Spot.TheVariants.{AtNode, Inside}
use Rattle.regions.specs.Blocks.{block_spot, block_step}
use Rattle.regions.specs.Regions.{InRegion}
use Rattle.regions.specs.Sides.{end_at, is_section, sides_of, side_of, back_of}

-- the block that region m of a strand needs of each side: a section's region 0 needs none
abbrev pub needs_of : Bool → ℕ → Option ℕ
needs_of false m = Some m
needs_of true zero = None
needs_of true (suc m) = Some m

-- what the law of a spot reads one step earlier: an inner place itself and the places beside it, a
-- node its own state and the places beside it on its pipes; the ends of pipes come with their node
abbrev pub Reads : Mesh → Spot → Spot → Type 0
Reads mesh (Inside p i) (Inside q j) = (q ≡ p) × (0 < i) × (i < reaches mesh p) × (i ≤ j + 1)
    × (j ≤ i + 1)
Reads mesh (Inside p i) (AtNode k) = ⊥
Reads mesh (AtNode k) (AtNode l) = k ≡ l
Reads mesh (AtNode k) (Inside q j) = (c : ℕ) × (c < length (ends_of mesh k))
    × ((end_at mesh k c).pipe ≡ q) × (next_to mesh (end_at mesh k c) ≡ j)

-- the spot that is computed together with this one: of a pipe's end the node where the pipe ends
abbrev pub home_of : Mesh → Spot → Spot
home_of mesh (AtNode k) = AtNode k
home_of mesh (Inside p i) =
    if i == 0 then AtNode (end_node mesh p false)
    else if i == reaches mesh p then AtNode (end_node mesh p true)
    else Inside p i

-- two rows agree at a spot: at a node on its state, at a place on its point
abbrev pub AgreeAt : Row → Row → Spot → Type 0
AgreeAt one other (AtNode k) = one.state k ≡ other.state k
AgreeAt one other (Inside p i) = (one.point p i) ≡ (other.point p i)

-- two rows agree on all that is read for a spot
abbrev pub AgreeOnReads : Mesh → Row → Row → Spot → Type 0
AgreeOnReads mesh one other spot = (near : Spot) → Reads mesh (home_of mesh spot) near
    → AgreeAt one other near

-- the rows that a law makes of them for step s agree at it
abbrev pub AgreeAfter : Meaning → ℕ → Row → Row → Spot → Type 0
AgreeAfter law s one other spot = AgreeAt (next law s one) (next law s other) spot

-- where what a point of region m of strand x reads lies: at step 0, in this or an earlier region of
-- the strand, or in the block that the region needs of a side
pub data Source (layout : Layout) (mesh : Mesh) (x m : ℕ) (spot : Spot) (t : ℕ) : Type 0 where
  AtStart : t ≡ 0 → Source layout mesh x m spot t
  InOwn : (r : ℕ) → r ≤ m → InRegion layout x r spot t → Source layout mesh x m spot t
  InBlock : (c b j : ℕ) → c < sides_of layout mesh x → needs_of (is_section layout x) m ≡ Some b
      → b < layout.windows → j < layout.window
      → block_spot layout mesh (side_of layout mesh x c) (back_of layout mesh x c) j ≡ spot
      → block_step layout (side_of layout mesh x c) b j ≡ t → Source layout mesh x m spot t

-- what regions need is enough: all that is read has such a source
abbrev pub AreEnough : Layout → Mesh → Type 0
AreEnough layout mesh = (x m t : ℕ) (spot near : Spot) → x < length layout.shapes
    → Reads mesh spot near
    → InRegion layout x m spot (t + 1) → Source layout mesh x m near t
