-- Which steps and places of the rows the regions of a strand own, and where they lie.
use Rattle.std.specs.Prelude.{◌≡◌, ℕ, ◌+◌, ◌-◌, ◌*◌, ◌/◌, ◌<◌, ◌≤◌, ◌⊎◌, ◌==◌, ◌&&◌, ◌||◌, nat_lt}
use Rattle.std.specs.Prelude.{max, Bool, true, if◌then◌else◌, length}
use Rattle.std.specs.List.{list_any}
use Rattle.case_model.specs.declared.cases.ProbeAt.{ProbeAt}
use Rattle.case_model.specs.declared.cases.ProbeAt.TheVariants.{OnPipe, OnNode}
use Rattle.case_model.specs.declared.meshes.End.{End}
use Rattle.case_model.specs.declared.meshes.Mesh.{Mesh}
use Rattle.case_model.specs.Mesh.{reaches, base_of, ends_of}
use Rattle.case_model.specs.PlaceNumbers.{place_at}
use Rattle.fronts.specs.Bands.{from_place}
use Rattle.regions.specs.declared.shapes.Layout.{Layout}
use Rattle.regions.specs.declared.shapes.Shape.{Shape}
use Rattle.regions.specs.declared.shapes.Shape.TheVariants.{OfNode, OfSeam, OfSection}
use Rattle.regions.specs.declared.shapes.Spot.{Spot}
use Rattle.regions.specs.declared.shapes.Spot.TheVariants.{AtNode, Inside}
use Rattle.regions.specs.Regions.{InRegion, Owner, owner_of}
use Rattle.regions.specs.Sides.{end_at}
use Rattle.strands.specs.Marks.{Marks}

-- a place of the mesh as a spot
abbrev pub spot_of : ProbeAt → Spot
spot_of (OnPipe pipe place) = Inside pipe place
spot_of (OnNode node) = AtNode node

-- whose region has place number k at step s; step 0 goes with step 1
abbrev pub owner_at : Mesh → ℕ → ℕ → ℕ → Owner
owner_at mesh w s k = owner_of mesh w (spot_of (place_at mesh k)) (max 1 s)

-- the steps and places of strand x in its regions below c, and its places at step 0
unfoldable pub owned : Mesh → ℕ → ℕ → ℕ → Marks
owned mesh w x c s k =
    nat_lt k mesh.places && (((owner_at mesh w s k).strand == x)
    && ((s == 0) || nat_lt (owner_at mesh w s k).region c))

-- those of all strands below n, in all their regions
unfoldable pub owned_below : Mesh → ℕ → ℕ → Marks
owned_below mesh w n s k = nat_lt k mesh.places && nat_lt (owner_at mesh w s k).strand n

-- these marks are the steps and places of region m of strand x
pub record AreOfRegion (layout : Layout) (mesh : Mesh) (x m : ℕ) (marks : Marks) : Type 0 where
  pub inside : (s k : ℕ) → k < mesh.places → 1 ≤ s → s ≤ layout.windows * layout.window
      → InRegion layout x m (spot_of (place_at mesh k)) s → marks s k ≡ true
  pub there : (s k : ℕ) → marks s k ≡ true → k < mesh.places
  pub later : (s k : ℕ) → marks s k ≡ true → 1 ≤ s
  pub only : (s k : ℕ) → marks s k ≡ true → InRegion layout x m (spot_of (place_at mesh k)) s

-- the place of a pipe's end, and its place number
abbrev pub end_place : Mesh → End → ℕ
end_place mesh e = if e.at_last then reaches mesh e.pipe else 0

abbrev pub end_number : Mesh → End → ℕ
end_number mesh e = base_of mesh e.pipe + end_place mesh e

-- the place numbers that a strand of this shape has at step 0: a section those between its
-- stations, a seam its own, a node its own and those of its pipe ends
abbrev pub is_own : Mesh → Shape → ℕ → Bool
is_own mesh (OfNode node) k =
    (k == node) || list_any (λ e. k == end_number mesh e) (ends_of mesh node)
is_own mesh (OfSeam pipe place left right) k = k == base_of mesh pipe + place
is_own mesh (OfSection pipe place count left right) k =
    nat_lt (base_of mesh pipe + place) k && nat_lt k (base_of mesh pipe + place + count)

-- place number k is that of a place of the pipe, at a distance of at most d from this place
pub record IsNear (mesh : Mesh) (pipe place d k : ℕ) : Type 0 where
  pub low : base_of mesh pipe ≤ k
  pub high : k ≤ base_of mesh pipe + reaches mesh pipe
  pub near : from_place (base_of mesh pipe + place) k ≤ d

-- where the places lie that a strand of this shape has at any step, over a window of w steps
abbrev pub IsReached : Mesh → ℕ → Shape → ℕ → Type 0
IsReached mesh w (OfNode node) k =
    (k ≡ node) ⊎ ((j : ℕ) × (j < length (ends_of mesh node))
    × IsNear mesh (end_at mesh node j).pipe (end_place mesh (end_at mesh node j)) ((w - 1) / 2) k)
IsReached mesh w (OfSeam pipe place left right) k = IsNear mesh pipe place ((w - 1) / 2) k
IsReached mesh w (OfSection pipe place count left right) k =
    (base_of mesh pipe + place < k) × (k < base_of mesh pipe + place + count)
