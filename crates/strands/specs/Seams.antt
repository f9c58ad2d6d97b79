-- The strand of a seam: what it has taken in of the blocks beside it, and how far it is computed.
use Rattle.std.specs.Prelude.{◌≡◌, ℕ, ◌+◌, ◌-◌, ◌*◌, ◌/◌, ◌≤◌, ◌||◌, not, nat_lt, Bool}
use Rattle.std.specs.Prelude.{true, false, if◌then◌else◌}
use Rattle.case_model.specs.Meaning.{Meaning}
use Rattle.fronts.specs.Fronts.{Holds}
use Rattle.fronts.specs.Stretches.{AreSamePlaces, IsStretchOf, count_of}
use Rattle.fronts.specs.declared.stretches.Stretch.{Stretch}
use Rattle.strands.specs.Sections.{IsLine}
use Rattle.strands.specs.Stations.{half, seam_front, seam_since}
use Rattle.strands.specs.declared.seams.Seam.{Seam}

-- the places of a seam
abbrev pub stretch_of : Seam → Stretch
stretch_of seam = seam.stretch

-- whether the block of the section at its right or its left is loaded
abbrev pub has_block : Bool → Seam → Bool
has_block true seam = seam.right
has_block false seam = seam.left

-- whether what lies at the side of place x is loaded; c is the seam's place
abbrev pub is_loaded : Bool → Bool → ℕ → ℕ → Bool
is_loaded left right c x = if nat_lt x c then left else if nat_lt c x then right else true

-- the front around the seam with the blocks that are loaded of the window of w steps from step s
-- on, and since when points are held; of a side that isn't loaded nothing is held
abbrev pub open_front : Bool → Bool → ℕ → ℕ → ℕ → ℕ
open_front left right w s x = if is_loaded left right (half w) x then seam_front w s 0 x else s

abbrev pub open_since : Bool → Bool → ℕ → ℕ → ℕ → ℕ
open_since left right w s x = if is_loaded left right (half w) x then seam_since w s x else s + 1

-- a seam that is computed up to step s, with the blocks that are loaded of the window from it on
pub record IsSeamAt (law : Meaning) (w s : ℕ) (seam : Seam) : Type 0 where
  pub line : IsLine law seam.stretch
  pub size : count_of seam.stretch ≡ 2 * half w + 1
  pub some : 1 ≤ w
  pub holds : Holds law (open_since seam.left seam.right w s) (open_front seam.left seam.right w s)
      seam.stretch

-- a seam whose window from step s on is computed, with the points of its triangles still there
pub record IsSeamDone (law : Meaning) (w s : ℕ) (seam : Seam) : Type 0 where
  pub line : IsLine law seam.stretch
  pub size : count_of seam.stretch ≡ 2 * half w + 1
  pub some : 1 ≤ w
  pub bare_left : seam.left ≡ false
  pub bare_right : seam.right ≡ false
  pub holds : Holds law (seam_since w s) (seam_front w s w) seam.stretch

-- a seam in this place of a pipe, with no block loaded
pub record IsSeamOf (pipe place number w : ℕ) (seam : Seam) : Type 0 where
  pub bare_left : seam.left ≡ false
  pub bare_right : seam.right ≡ false
  pub stretch : IsStretchOf pipe (place - half w) (number - half w) (2 * half w + 1) seam.stretch

-- the block of one side is loaded, and nothing else of what seams are made of has changed
pub record IsLoaded (right : Bool) (old new : Seam) : Type 0 where
  pub same : AreSamePlaces old.stretch new.stretch
  pub left_is : new.left ≡ (not right || old.left)
  pub right_is : new.right ≡ (right || old.right)

-- the place number of the seam itself: it stands in the middle of its stretch
abbrev pub number_of_seam : Seam → ℕ
number_of_seam seam = seam.stretch.number + count_of seam.stretch / 2
