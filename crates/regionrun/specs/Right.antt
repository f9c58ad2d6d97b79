-- When a strand is right: what it keeps are the points of the rows of the law, and its fold was
-- told all that its regions own.
use Rattle.std.specs.Prelude.{◌≡◌, ℕ, ◌+◌, ◌-◌, ◌*◌, ◌/◌, ◌<◌, ◌≤◌, Bool, true}
use Rattle.std.specs.Prelude.{false, List, [], ◌∷◌, length, map, if◌then◌else◌, Some}
use Rattle.case_model.specs.declared.meshes.End.{End}
use Rattle.case_model.specs.declared.meshes.Mesh.{Mesh}
use Rattle.case_model.specs.declared.points.Point.{Point}
use Rattle.case_model.specs.Meaning.{Meaning}
use Rattle.case_model.specs.Mesh.{base_of, ends_of, reaches}
use Rattle.envelope.specs.Folds.{IsSameFold, Stands, spans_of, steps_of}
use Rattle.regions.specs.declared.shapes.Layout.{Layout}
use Rattle.regions.specs.declared.shapes.Shape.{Shape}
use Rattle.regions.specs.declared.shapes.Shape.TheVariants.{OfNode, OfSeam, OfSection}
use Rattle.regions.specs.LaidOut.{IsLaidOut}
use Rattle.regions.specs.Needs.{needs_of}
use Rattle.regions.specs.Sides.{back_of, is_section, shape_at, side_of, sides_of}
use Rattle.regionrun.specs.Bodies.{IsBodyAt, IsBodyOf, has_block}
use Rattle.regionrun.specs.declared.bodies.Body.{Body}
use Rattle.regionrun.specs.declared.frontiers.Frontier.{Frontier}
use Rattle.regionrun.specs.Handed.{ArePointsFor, IsBlockFor}
use Rattle.regionrun.specs.Owned.{owned}
use Rattle.schedule.specs.Nets.{regions_of}
use Rattle.strands.specs.Marks.{marked}

-- how many regions strand x has
abbrev pub region_count : Layout → ℕ → ℕ
region_count layout x = regions_of (is_section layout x) layout.windows

-- the places that the regions of a strand reach: its own, and those of a station's triangles
abbrev pub end_span : Mesh → ℕ → End → ℕ × ℕ
end_span mesh w e =
    if e.at_last
    then (base_of mesh e.pipe + reaches mesh e.pipe - (w - 1) / 2, (w - 1) / 2 + 1)
    else (base_of mesh e.pipe, (w - 1) / 2 + 1)

unfoldable pub strand_spans : Mesh → ℕ → Shape → List (ℕ × ℕ)
strand_spans mesh w (OfNode node) = (node, 1) ∷ map (end_span mesh w) (ends_of mesh node)
strand_spans mesh w (OfSeam pipe place left right) =
    (base_of mesh pipe + place - (w - 1) / 2, 2 * ((w - 1) / 2) + 1) ∷ []
strand_spans mesh w (OfSection pipe place count left right) =
    (base_of mesh pipe + place + 1, count - 1) ∷ []

-- of so many regions of strand x the body has the points that its next region and its blocks are
-- made of
pub record Keeps (law : Meaning) (layout : Layout) (c : ℕ) (shape : Shape) (body : Body)
    : Type 0 where
  pub places : IsBodyOf law.mesh layout.window shape body
  pub points : IsBodyAt law layout.window body c

-- a strand of which so many regions are computed
pub record IsRightAt (law : Meaning) (layout : Layout) (c : ℕ) (frontier : Frontier) : Type 0 where
  pub laid_out : IsLaidOut layout law.mesh
  pub there : frontier.number < length layout.shapes
  pub window_is : frontier.window ≡ layout.window
  pub windows_are : frontier.windows ≡ layout.windows
  pub sides_are : frontier.sides ≡ sides_of layout law.mesh frontier.number
  pub regions : c ≤ region_count layout frontier.number
  pub keeps : Keeps law layout c (shape_at layout frontier.number) frontier.body
  pub spans : spans_of frontier.fold
      ≡ strand_spans law.mesh layout.window (shape_at layout frontier.number)
  pub steps : steps_of frontier.fold ≤ layout.windows * layout.window
  pub stands : Stands frontier.fold
      (marked law (owned law.mesh layout.window frontier.number c))

abbrev pub IsRight : Meaning → Layout → Frontier → Type 0
IsRight law layout frontier = IsRightAt law layout frontier.computed frontier

-- these words are the block that the next region of a strand needs of a side
pub record IsWanted (law : Meaning) (layout : Layout) (frontier : Frontier) (c : ℕ)
    (words : List ℕ) : Type 0 where
  pub right : IsRight law layout frontier
  pub side : c < sides_of layout law.mesh frontier.number
  pub block : ℕ
  pub needed : needs_of (is_section layout frontier.number) frontier.computed ≡ Some block
  pub handed : IsBlockFor law layout (side_of layout law.mesh frontier.number c)
      (back_of layout law.mesh frontier.number c) block words

pub record IsWantedSome (law : Meaning) (frontier : Frontier) (c : ℕ) (words : List ℕ)
    : Type 0 where
  pub layout : Layout
  pub wanted : IsWanted law layout frontier c words

-- a block has these points
pub record IsGiven (law : Meaning) (layout : Layout) (frontier : Frontier) (c : ℕ)
    (tells : ℕ → Point → Type 0) : Type 0 where
  pub right : IsRight law layout frontier
  pub side : c < sides_of layout law.mesh frontier.number
  pub block : ℕ
  pub needed : needs_of (is_section layout frontier.number) frontier.computed ≡ Some block
  pub handed : ArePointsFor law layout (side_of layout law.mesh frontier.number c)
      (back_of layout law.mesh frontier.number c) block tells

pub record IsGivenSome (law : Meaning) (frontier : Frontier) (c : ℕ)
    (tells : ℕ → Point → Type 0) : Type 0 where
  pub layout : Layout
  pub given : IsGiven law layout frontier c tells

-- whether the block of side c is loaded
unfoldable pub has_loaded : Frontier → ℕ → Bool
has_loaded frontier c = has_block frontier.body c

-- all blocks that the next region needs are loaded
abbrev pub IsFed : Layout → Frontier → Type 0
IsFed layout frontier =
    (b c : ℕ) → needs_of (is_section layout frontier.number) frontier.computed ≡ Some b
    → c < frontier.sides → has_loaded frontier c ≡ true

-- the next region of a strand can be computed
pub record IsReadySome (law : Meaning) (frontier : Frontier) : Type 0 where
  pub layout : Layout
  pub right : IsRight law layout frontier
  pub more : frontier.computed < region_count layout frontier.number
  pub fed : IsFed layout frontier

-- nothing of a strand has changed but how far it is
pub record IsSameStrand (old new : Frontier) : Type 0 where
  pub number_is : new.number ≡ old.number
  pub window_is : new.window ≡ old.window
  pub windows_are : new.windows ≡ old.windows
  pub sides_are : new.sides ≡ old.sides
  pub fold_is : IsSameFold old.fold new.fold

-- and no block is loaded
abbrev pub IsBare : Frontier → Type 0
IsBare frontier = (c : ℕ) → c < frontier.sides → has_loaded frontier c ≡ false
