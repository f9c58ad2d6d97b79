-- The points of blocks, as the strands that hand them on have them in their stretches.
use Rattle.std.proofs.Common.{◌≡◌, ℕ, ◌+◌, ◌-◌, ◌*◌, ◌/◌, ◌<◌, ◌≤◌, ◌⊎◌, inl, inr, ◌∙◌, ap, sym}
use Rattle.std.proofs.Common.{subst, refl, arith, Bool, true, false, not, if◌then◌else◌}
use Rattle.std.proofs.Common.{◌==◌, length}
use Rattle.case_model.specs.declared.points.Point.{Point}
use Rattle.case_model.specs.declared.meshes.Mesh.{Mesh}
use Rattle.case_model.specs.Meaning.{Meaning}
use Rattle.case_model.specs.Mesh.{ends_of, reaches}
use Rattle.case_model.specs.Rows.{row}
use Rattle.fronts.specs.Stretches.{AreSamePlaces, IsStretchOf, count_of}
use Rattle.fronts.specs.declared.stretches.Stretch.{Stretch}
use Rattle.regions.specs.declared.shapes.Layout.{Layout}
use Rattle.regions.specs.declared.shapes.Shape.TheVariants.{OfNode, OfSeam, OfSection}
use Rattle.regions.specs.declared.shapes.Spot.TheVariants.{Inside}
use Rattle.regions.specs.Blocks.{block_point_of, block_spot, block_step, side_spot}
use Rattle.regions.specs.Sides.{AreMutual, back_in, back_of, end_at, is_section, is_section_shape}
use Rattle.regions.specs.Sides.{shape_at, side_of, sides_in, sides_of}
use Rattle.regions.specs.Touching.{IsStanding, IsTouching, station_pipe, station_place}
use Rattle.strands.specs.Beside.{HasBeside, beside, inner_side, outer_side}
use Rattle.strands.specs.Stations.{half}
use Rattle.strands.specs.Blocks.{HasPoints, from_end, section_side, station_side, station_step}
use Rattle.regionrun.specs.Lawful.{IsLawful}
use Rattle.regionrun.specs.Handed.{HasSection, HasStation, ArePointsFor, block_point, point_on}
use Rattle.regions.proofs.Joining.{zero-or-one}

-- ---- points of blocks by the kind of their strand

-- point j of a section's block
section-block : (law : Meaning) (layout : Layout) (y c b j : ℕ) → is_section layout y ≡ true
    → block_point law layout y c b j
    ≡ point_on (row law (b * layout.window + (j + 1) / 2))
    (side_spot c (j / 2 + 1) (shape_at layout y))
unfolding block_point block_spot block_step block_point_of
section-block law layout y c b j e = rw e refl

-- point j of a station's block
station-block : (law : Meaning) (layout : Layout) (y c b j : ℕ) → is_section layout y ≡ false
    → block_point law layout y c b j
    ≡ point_on (row law (b * layout.window + station_step layout.window j))
    (side_spot (back_of layout law.mesh y c) (j / 2)
    (shape_at layout (side_of layout law.mesh y c)))
unfolding block_point block_spot block_step block_point_of
station-block law layout y c b j e = rw e refl

-- ---- a section

-- the place of a section at a distance from its left or its right end
section-spot : (c d p place n l r : ℕ) → c < 2 → d ≤ n
    → side_spot c d (OfSection p place n l r) ≡ Inside p (place + from_end (c == 0) n d)
section-spot c d p place n l r b a = elim (zero-or-one c b) [
  | inl e ↦ subst (λ z. side_spot z d (OfSection p place n l r)
      ≡ Inside p (place + from_end (z == 0) n d)) (sym e) refl
  | inr e ↦
      subst (λ z. side_spot z d (OfSection p place n l r)
      ≡ Inside p (place + from_end (z == 0) n d)) (sym e)
      (ap (Inside p) (omega arith))
]

pub section-of : (layout : Layout) (x p place n l r number : ℕ) (stretch : Stretch)
    → shape_at layout x ≡ OfSection p place n l r → IsStretchOf p place number (n + 1) stretch
    → layout.window ≤ n
    → HasSection layout x stretch
section-of layout x p place n l r number stretch shape is long =
    let size : count_of stretch ≡ n + 1 = is.count_is in
    let m : count_of stretch - 1 ≡ n = omega arith in
    record {
      left = l;
      right = r;
      shape = shape ∙ ap (λ z. OfSection z place n l r) (sym is.pipe_is)
          ∙ ap (λ z. OfSection stretch.pipe z n l r) (sym is.first_is)
          ∙ ap (λ z. OfSection stretch.pipe stretch.first z l r) (sym m);
      long = omega arith;
    }

-- what a section hands on to its side c
pub section-hands : (law : Meaning) (layout : Layout) (y c b j : ℕ) (stretch : Stretch)
    → HasSection layout y stretch → c < 2 → j < layout.window
    → block_point law layout y c b j ≡ section_side law stretch (c == 0) (b * layout.window) j
unfolding section_side
section-hands law layout y c b j stretch h side within =
    let step = b * layout.window + (j + 1) / 2 in
    let long : layout.window + 1 ≤ count_of stretch = h.long in
    section-block law layout y c b j (ap is_section_shape h.shape)
    ∙ ap (λ z. point_on (row law step) (side_spot c (j / 2 + 1) z)) h.shape
    ∙ ap (point_on (row law step))
    (section-spot c (j / 2 + 1) stretch.pipe stretch.first (count_of stretch - 1)
    h.left h.right side (omega arith))

-- and what the station at its side c hands on to it
pub section-takes : (law : Meaning) (layout : Layout) (x c b j : ℕ) (stretch : Stretch)
    → AreMutual layout law.mesh → x < length layout.shapes → HasSection layout x stretch → c < 2
    → j < layout.window
    → block_point law layout (side_of layout law.mesh x c) (back_of layout law.mesh x c) b j
    ≡ station_side law stretch (c == 0) layout.window (b * layout.window) j
unfolding station_side sides_of
section-takes law layout x c b j stretch both inside h side within =
    let step = b * layout.window + station_step layout.window j in
    let y = side_of layout law.mesh x c in
    let back = back_of layout law.mesh x c in
    let long : layout.window + 1 ≤ count_of stretch = h.long in
    let own : is_section layout x ≡ true = ap is_section_shape h.shape in
    let some : c < sides_of layout law.mesh x =
    subst (λ z. c < sides_in law.mesh z) (sym h.shape) side in
    station-block law layout y back b j (both.kinds x c inside some ∙ ap not own)
    ∙ ap (λ z. point_on (row law step)
    (side_spot z (j / 2) (shape_at layout (side_of layout law.mesh y back))))
    (both.twice x c inside some)
    ∙ ap (λ z. point_on (row law step) (side_spot c (j / 2) (shape_at layout z)))
    (both.again x c inside some)
    ∙ ap (λ z. point_on (row law step) (side_spot c (j / 2) z)) h.shape
    ∙ ap (point_on (row law step))
    (section-spot c (j / 2) stretch.pipe stretch.first (count_of stretch - 1) h.left h.right side
    (omega arith))

-- ---- a station

-- the place beside a station, in the section there
station-spot : (right : Bool) (at far count d p first place n l r : ℕ)
    → HasBeside right at far count → d ≤ far
    → first + at ≡ (if right then place else place + n)
    → side_spot (if right then 0 else 1) d (OfSection p place n l r)
    ≡ Inside p (first + beside right at d)
station-spot true at far count d p first place n l r h a e = ap (Inside p) (omega arith)
station-spot false at far count d p first place n l r h a e =
    let m : far ≤ at = h.0 in ap (Inside p) (omega arith)

-- what a station hands on to the section at its side c
pub station-hands : (law : Meaning) (layout : Layout) (x c b j : ℕ) (right : Bool) (at : ℕ)
    (stretch : Stretch)
    → HasStation layout law.mesh x c right at stretch → j < layout.window
    → block_point law layout x c b j
    ≡ inner_side law stretch right at layout.window (b * layout.window) j
unfolding inner_side
station-hands law layout x c b j right at stretch h within =
    let step = b * layout.window + station_step layout.window j in
    station-block law layout x c b j h.station
    ∙ ap (λ z. point_on (row law step)
    (side_spot z (j / 2) (shape_at layout (side_of layout law.mesh x c)))) h.back
    ∙ ap (λ z. point_on (row law step) (side_spot (if right then 0 else 1) (j / 2) z)) h.shape
    ∙ ap (point_on (row law step))
    (station-spot right at (half layout.window) (count_of stretch) (j / 2)
    stretch.pipe stretch.first h.place h.count h.first h.last
    h.room (omega arith) h.meets)

-- and what that section hands on to it
pub station-takes : (law : Meaning) (layout : Layout) (x c b j : ℕ) (right : Bool) (at : ℕ)
    (stretch : Stretch)
    → HasStation layout law.mesh x c right at stretch → j < layout.window
    → block_point law layout (side_of layout law.mesh x c) (back_of layout law.mesh x c) b j
    ≡ outer_side law stretch right at (b * layout.window) j
unfolding outer_side
station-takes law layout x c b j right at stretch h within =
    let step = b * layout.window + (j + 1) / 2 in
    let y = side_of layout law.mesh x c in
    section-block law layout y (back_of layout law.mesh x c) b j (ap is_section_shape h.shape)
    ∙ ap (λ z. point_on (row law step) (side_spot z (j / 2 + 1) (shape_at layout y))) h.back
    ∙ ap (λ z. point_on (row law step) (side_spot (if right then 0 else 1) (j / 2 + 1) z)) h.shape
    ∙ ap (point_on (row law step))
    (station-spot right at (half layout.window) (count_of stretch) (j / 2 + 1)
    stretch.pipe stretch.first h.place h.count h.first h.last
    h.room (omega arith) h.meets)

-- ---- the stations of a layout

-- the side of a station's stretch by its index, and the index that the section there has for it
side-index : (c : ℕ) → c < 2 → c ≡ (if c == 1 then 1 else 0)
side-index c h = elim (zero-or-one c h) [
  | inl e ↦ subst (λ z. z ≡ (if z == 1 then 1 else 0)) (sym e) refl
  | inr e ↦ subst (λ z. z ≡ (if z == 1 then 1 else 0)) (sym e) refl
]

seam-back : (right : Bool) (c : ℕ) → c ≡ (if right then 1 else 0)
    → ◌≡◌ {A = ℕ} (if c == 0 then 1 else 0) (if right then 0 else 1)
seam-back true c e = rw e refl
seam-back false c e = rw e refl

seam-room : (right : Bool) (far count : ℕ) → count ≡ 2 * far + 1 → HasBeside right far far count
seam-room true far count e = omega arith
seam-room false far count e = (omega arith, omega arith)

-- the place where a station stands is an end of the section beside it
touch-meets : (right : Bool) (back at place count : ℕ) → back ≡ (if right then 0 else 1)
    → ((back ≡ 0) × (at ≡ place)) ⊎ ((back ≡ 1) × (at ≡ place + count))
    → at ≡ (if right then place else place + count)
touch-meets true back at place count e (inl h) = h.1
touch-meets true back at place count e (inr h) = let m : back ≡ 1 = h.0 in absurd (omega arith)
touch-meets false back at place count e (inl h) = let m : back ≡ 0 = h.0 in absurd (omega arith)
touch-meets false back at place count e (inr h) = h.1

-- a stretch whose place `at` is where the station stands
beside-station : (layout : Layout) (mesh : Mesh) (x c p place : ℕ) (right : Bool) (at : ℕ)
    (stretch : Stretch) → is_section layout x ≡ false → IsTouching layout mesh x c
    → station_pipe mesh c (shape_at layout x) ≡ p → station_place mesh c (shape_at layout x) ≡ place
    → back_of layout mesh x c ≡ (if right then 0 else 1)
    → stretch.pipe ≡ p → stretch.first + at ≡ place
    → HasBeside right at (half layout.window) (count_of stretch)
    → HasStation layout mesh x c right at stretch
beside-station layout mesh x c p place right at stretch station h pipe stands back on begins room =
    record {
      station = station;
      place = h.place;
      count = h.count;
      first = h.left;
      last = h.right;
      shape = h.shape
          ∙ ap (λ z. OfSection z h.place h.count h.left h.right) (pipe ∙ sym on);
      back = back;
      meets = begins ∙ sym stands
          ∙ touch-meets right (back_of layout mesh x c) (station_place mesh c (shape_at layout x))
          h.place h.count back h.meets;
      room = room;
    }

seam-beside : (layout : Layout) (mesh : Mesh) (x c p place l r number : ℕ) (right : Bool)
    (stretch : Stretch) → c ≡ (if right then 1 else 0)
    → shape_at layout x ≡ OfSeam p place l r → IsTouching layout mesh x c
    → half layout.window ≤ place
    → IsStretchOf p (place - half layout.window) number (2 * half layout.window + 1) stretch
    → HasStation layout mesh x c right (half layout.window) stretch
unfolding back_of
seam-beside layout mesh x c p place l r number right stretch index shape touch low is =
    let begins : stretch.first ≡ place - half layout.window = is.first_is in
    beside-station layout mesh x c p place right (half layout.window) stretch
    (ap is_section_shape shape) touch (ap (station_pipe mesh c) shape)
    (ap (station_place mesh c) shape)
    (ap (back_in layout mesh c) shape ∙ seam-back right c index) is.pipe_is (omega arith)
    (seam-room right (half layout.window) (count_of stretch) is.count_is)

-- a seam in the middle of its stretch
pub seam-station : (layout : Layout) (mesh : Mesh) (x c p place l r number : ℕ) (stretch : Stretch)
    → shape_at layout x ≡ OfSeam p place l r → c < 2 → IsTouching layout mesh x c
    → half layout.window ≤ place
    → IsStretchOf p (place - half layout.window) number (2 * half layout.window + 1) stretch
    → HasStation layout mesh x c (c == 1) (half layout.window) stretch
seam-station layout mesh x c p place l r number stretch shape side touch low is =
    seam-beside layout mesh x c p place l r number (c == 1) stretch (side-index c side)
    shape touch low is

spoke-back : (last : Bool) → ◌≡◌ {A = ℕ} (if last then 1 else 0) (if not last then 0 else 1)
spoke-back true = refl
spoke-back false = refl

spoke-room : (last : Bool) (far count : ℕ) → count ≡ far + 1
    → HasBeside (not last) (if last then far else 0) far count
spoke-room true far count e = (omega arith, omega arith)
spoke-room false far count e = omega arith

spoke-begins : (last : Bool) (far size first : ℕ) → far ≤ size
    → first ≡ (if last then size - far else 0)
    → first + (if last then far else 0) ≡ (if last then size else 0)
spoke-begins true far size first h b = omega arith
spoke-begins false far size first h b = omega arith

-- a node at the end of its stretch, which lies on the pipe of the node's end at index c
pub spoke-station : (layout : Layout) (mesh : Mesh) (x c k number : ℕ) (last : Bool)
    (stretch : Stretch) → shape_at layout x ≡ OfNode k → IsTouching layout mesh x c
    → (end_at mesh k c).at_last ≡ last
    → half layout.window ≤ reaches mesh (end_at mesh k c).pipe
    → IsStretchOf (end_at mesh k c).pipe
    (if last then reaches mesh (end_at mesh k c).pipe - half layout.window else 0) number
    (half layout.window + 1) stretch
    → HasStation layout mesh x c (not last) (if last then half layout.window else 0) stretch
unfolding back_of
spoke-station layout mesh x c k number last stretch shape touch side long is =
    let p = (end_at mesh k c).pipe in
    beside-station layout mesh x c p (if last then reaches mesh p else 0) (not last)
    (if last then half layout.window else 0) stretch (ap is_section_shape shape) touch
    (ap (station_pipe mesh c) shape)
    (ap (station_place mesh c) shape ∙ ap (λ z. if z then reaches mesh p else 0) side)
    (ap (back_in layout mesh c) shape ∙ ap (λ z. if z then 1 else 0) side ∙ spoke-back last)
    is.pipe_is (spoke-begins last (half layout.window) (reaches mesh p)
    stretch.first long is.first_is)
    (spoke-room last (half layout.window) (count_of stretch) is.count_is)

-- ---- strands of a lawful layout

-- a section as long as a window
pub section-lawful : (layout : Layout) (mesh : Mesh) (x p place n l r number : ℕ)
    (stretch : Stretch)
    → IsLawful layout mesh → x < length layout.shapes
    → shape_at layout x ≡ OfSection p place n l r → IsStretchOf p place number (n + 1) stretch
    → HasSection layout x stretch
section-lawful layout mesh x p place n l r number stretch lawful inside shape is =
    section-of layout x p place n l r number stretch shape is
    (subst (IsStanding mesh layout.window x) shape (lawful.touching.stands x inside)).2

-- a seam with half a window of places to both its sides
pub seam-lawful : (layout : Layout) (mesh : Mesh) (x c p place l r number : ℕ) (stretch : Stretch)
    → IsLawful layout mesh → x < length layout.shapes → shape_at layout x ≡ OfSeam p place l r
    → c < 2
    → IsStretchOf p (place - half layout.window) number (2 * half layout.window + 1) stretch
    → HasStation layout mesh x c (c == 1) (half layout.window) stretch
unfolding sides_of
seam-lawful layout mesh x c p place l r number stretch lawful inside shape side is =
    let some : c < sides_of layout mesh x = subst (λ z. c < sides_in mesh z) (sym shape) side in
    seam-station layout mesh x c p place l r number stretch shape side
    (lawful.touching.touches x c inside (ap is_section_shape shape) some)
    (subst (IsStanding mesh layout.window x) shape (lawful.touching.stands x inside)).1 is

half-inside : (w n : ℕ) → w ≤ n → half w ≤ n
half-inside w n h = omega arith

-- a node with half a window of places on each of its pipes
pub spoke-lawful : (layout : Layout) (mesh : Mesh) (x c k number : ℕ) (last : Bool)
    (stretch : Stretch) → IsLawful layout mesh → x < length layout.shapes
    → shape_at layout x ≡ OfNode k → c < length (ends_of mesh k)
    → (end_at mesh k c).at_last ≡ last
    → IsStretchOf (end_at mesh k c).pipe
    (if last then reaches mesh (end_at mesh k c).pipe - half layout.window else 0) number
    (half layout.window + 1) stretch
    → HasStation layout mesh x c (not last) (if last then half layout.window else 0) stretch
unfolding sides_of
spoke-lawful layout mesh x c k number last stretch lawful inside shape side end is =
    let some : c < sides_of layout mesh x = subst (λ z. c < sides_in mesh z) (sym shape) side in
    let there : k < length mesh.ends =
    (subst (IsStanding mesh layout.window x) shape (lawful.touching.stands x inside)).1 in
    spoke-station layout mesh x c k number last stretch shape
    (lawful.touching.touches x c inside (ap is_section_shape shape) some) end
    (half-inside layout.window (reaches mesh (end_at mesh k c).pipe)
    (lawful.touching.ends k c there side).long) is

-- ---- the points of blocks

-- points that are those of two equal rows
pub same-points : (count : ℕ) (one other : ℕ → Point) (tells : ℕ → Point → Type 0)
    → ((j : ℕ) → j < count → one j ≡ other j)
    → HasPoints count one tells → HasPoints count other tells
same-points count one other tells e h = record { each = λ j b. subst (tells j) (e j b) (h.each j b) }

-- what strands lend are their blocks, and in the blocks that they are given they have their
-- neighbours' points
pub section-lends : (law : Meaning) (layout : Layout) (y c b : ℕ) (stretch : Stretch)
    (tells : ℕ → Point → Type 0)
    → HasSection layout y stretch → c < 2
    → HasPoints layout.window (section_side law stretch (c == 0) (b * layout.window)) tells
    → ArePointsFor law layout y c b tells
section-lends law layout y c b stretch tells h side has =
    same-points layout.window (section_side law stretch (c == 0) (b * layout.window))
    (block_point law layout y c b) tells
    (λ j l. sym (section-hands law layout y c b j stretch h side l)) has

pub section-has : (law : Meaning) (layout : Layout) (x c b : ℕ) (stretch : Stretch)
    (tells : ℕ → Point → Type 0)
    → AreMutual layout law.mesh → x < length layout.shapes → HasSection layout x stretch → c < 2
    → ArePointsFor law layout (side_of layout law.mesh x c) (back_of layout law.mesh x c) b tells
    → HasPoints layout.window (station_side law stretch (c == 0) layout.window (b * layout.window))
    tells
section-has law layout x c b stretch tells both inside h side block =
    same-points layout.window
    (block_point law layout (side_of layout law.mesh x c) (back_of layout law.mesh x c) b)
    (station_side law stretch (c == 0) layout.window (b * layout.window)) tells
    (λ j l. section-takes law layout x c b j stretch both inside h side l) block

pub station-lends : (law : Meaning) (layout : Layout) (x c b : ℕ) (right : Bool) (at : ℕ)
    (stretch : Stretch) (tells : ℕ → Point → Type 0)
    → HasStation layout law.mesh x c right at stretch
    → HasPoints layout.window (inner_side law stretch right at layout.window (b * layout.window))
    tells
    → ArePointsFor law layout x c b tells
station-lends law layout x c b right at stretch tells h has =
    same-points layout.window
    (inner_side law stretch right at layout.window (b * layout.window))
    (block_point law layout x c b) tells
    (λ j l. sym (station-hands law layout x c b j right at stretch h l)) has

pub station-has : (law : Meaning) (layout : Layout) (x c b : ℕ) (right : Bool) (at : ℕ)
    (stretch : Stretch) (tells : ℕ → Point → Type 0)
    → HasStation layout law.mesh x c right at stretch
    → ArePointsFor law layout (side_of layout law.mesh x c) (back_of layout law.mesh x c) b tells
    → HasPoints layout.window (outer_side law stretch right at (b * layout.window)) tells
station-has law layout x c b right at stretch tells h block =
    same-points layout.window
    (block_point law layout (side_of layout law.mesh x c) (back_of layout law.mesh x c) b)
    (outer_side law stretch right at (b * layout.window)) tells
    (λ j l. station-takes law layout x c b j right at stretch h l) block

-- ---- stretches of the same places

pub same-section : (layout : Layout) (x : ℕ) (old new : Stretch) → AreSamePlaces old new
    → HasSection layout x old
    → HasSection layout x new
same-section layout x old new same h =
    let size : count_of new ≡ count_of old = same.count_is in
    let long : layout.window + 1 ≤ count_of old = h.long in
    record {
      left = h.left;
      right = h.right;
      shape = h.shape ∙ ap (λ z. OfSection z old.first (count_of old - 1) h.left h.right)
          (sym same.pipe_is)
          ∙ ap (λ z. OfSection new.pipe z (count_of old - 1) h.left h.right) (sym same.first_is)
          ∙ ap (λ z. OfSection new.pipe new.first (z - 1) h.left h.right) (sym size);
      long = omega arith;
    }

pub same-station : (layout : Layout) (mesh : Mesh) (x c : ℕ) (right : Bool) (at : ℕ)
    (old new : Stretch) → AreSamePlaces old new
    → HasStation layout mesh x c right at old → HasStation layout mesh x c right at new
same-station layout mesh x c right at old new same h = record {
  station = h.station;
  place = h.place;
  count = h.count;
  first = h.first;
  last = h.last;
  shape = h.shape ∙ ap (λ z. OfSection z h.place h.count h.first h.last) (sym same.pipe_is);
  back = h.back;
  meets = ap (λ z. z + at) same.first_is ∙ h.meets;
  room = subst (HasBeside right at (half layout.window)) (sym same.count_is) h.room;
}
