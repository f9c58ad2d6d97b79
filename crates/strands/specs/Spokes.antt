-- The spokes of a node: for each pipe end at it a stretch of the places of that pipe from the end
-- inward.
use Rattle.std.specs.List.{list_any}
use Rattle.std.specs.Prelude.{◌≡◌, ℕ, ◌+◌, ◌-◌, ◌<◌, ◌≤◌, Bool, true, false, List, min}
use Rattle.std.specs.Prelude.{not}
use Rattle.case_model.specs.Meaning.{Meaning}
use Rattle.case_model.specs.Mesh.{next_to, reaches}
use Rattle.case_model.specs.Rows.{row}
use Rattle.case_model.specs.declared.points.Point.{Point}
use Rattle.strands.specs.Beside.{inner_side, outer_side}
use Rattle.case_model.specs.declared.meshes.End.{End}
use Rattle.envelope.specs.Cells.{AreInOneSpan}
use Rattle.envelope.specs.Folds.{IsSameFold, Stands, spans_of}
use Rattle.envelope.specs.declared.folds.Fold.{Fold}
use Rattle.fronts.specs.Bands.{from_place}
use Rattle.fronts.specs.Fronts.{Holds, fan, fan_since}
use Rattle.fronts.specs.Stretches.{AreSamePlaces, count_of}
use Rattle.strands.specs.Marks.{Marks, is_between, is_only, marked, or_marked}
use Rattle.strands.specs.Sections.{IsNumberedLine}
use Rattle.strands.specs.Stations.{half}
use Rattle.strands.specs.declared.spokes.Spoke.{Spoke}

-- the end's place on a pipe, or on a spoke, of n reaches: the last place, or place 0
abbrev pub end_place : Bool → ℕ → ℕ
end_place true n = n
end_place false n = 0

-- the front of a spoke after k steps of the window of w steps from step s on, and since when points
-- are held
abbrev pub spoke_front : Bool → ℕ → ℕ → ℕ → ℕ → ℕ
spoke_front last w s k x = fan s w k (from_place (end_place last (half w)) x)

abbrev pub spoke_since : Bool → ℕ → ℕ → ℕ → ℕ
spoke_since last w s x = fan_since s (from_place (end_place last (half w)) x)

-- the same before the window's region: where the section's block isn't loaded, of step s the end
-- alone is held
abbrev pub open_front : Bool → Bool → ℕ → ℕ → ℕ → ℕ
open_front true last w s x = spoke_front last w s 0 x
open_front false last w s x = s

abbrev pub open_since : Bool → Bool → ℕ → ℕ → ℕ → ℕ
open_since true last w s x = spoke_since last w s x
open_since false last w s x = s + min 1 (from_place (end_place last (half w)) x)

-- a spoke for windows of w steps: it lies on its pipe from the end inward
pub record IsSpoke (law : Meaning) (w : ℕ) (spoke : Spoke) : Type 0 where
  pub some : 1 ≤ w
  pub line : IsNumberedLine law spoke.stretch
  pub size : count_of spoke.stretch ≡ half w + 1
  pub end_is : spoke.stretch.first + end_place spoke.last (half w)
      ≡ end_place spoke.last (reaches law.mesh spoke.stretch.pipe)

-- a spoke that is computed up to step s, with its block where that is loaded
pub record IsSpokeAt (law : Meaning) (w s : ℕ) (spoke : Spoke) : Type 0 where
  pub on_pipe : IsSpoke law w spoke
  pub holds : Holds law (open_since spoke.loaded spoke.last w s)
      (open_front spoke.loaded spoke.last w s) spoke.stretch

-- a spoke of which k steps of the window from step s on are computed
pub record IsSpokeAfter (law : Meaning) (w s k : ℕ) (spoke : Spoke) : Type 0 where
  pub on_pipe : IsSpoke law w spoke
  pub holds : Holds law (spoke_since spoke.last w s) (spoke_front spoke.last w s k) spoke.stretch

-- the spoke that is made of an end: the end's point of step 0 is there, and no block
pub record IsNewSpoke (law : Meaning) (w : ℕ) (end : End) (spoke : Spoke) : Type 0 where
  pub at : IsSpokeAt law w 0 spoke
  pub pipe_is : spoke.stretch.pipe ≡ end.pipe
  pub last_is : spoke.last ≡ end.at_last
  pub bare : spoke.loaded ≡ false

-- two spokes have the same places, from the same end
pub record IsSameSpoke (old new : Spoke) : Type 0 where
  pub places : AreSamePlaces old.stretch new.stretch
  pub last_is : new.last ≡ old.last

-- where the places from the end inward up to distance `most` begin, and those without the end
abbrev pub run_low : Bool → ℕ → ℕ → ℕ
run_low true n most = n - most
run_low false n most = 0

abbrev pub inner_low : Bool → ℕ → ℕ → ℕ
inner_low true n most = n - most
inner_low false n most = 1

-- the first of a spoke's places without the farthest from the end
abbrev pub nearer_low : Bool → ℕ
nearer_low true = 1
nearer_low false = 0

-- the fold has all places of a spoke without the farthest: the end and its triangle
abbrev pub NotesSpoke : Spoke → Fold → Type 0
NotesSpoke spoke fold =
    AreInOneSpan (spans_of fold) (spoke.stretch.number + nearer_low spoke.last)
    (count_of spoke.stretch - 1)

-- the block of the window from step s on that a spoke takes in, and the one that it hands on
abbrev pub spoke_outer : Meaning → ℕ → ℕ → Spoke → ℕ → Point
spoke_outer law w s spoke =
    outer_side law spoke.stretch (not spoke.last) (end_place spoke.last (half w)) s

abbrev pub spoke_inner : Meaning → ℕ → ℕ → Spoke → ℕ → Point
spoke_inner law w s spoke =
    inner_side law spoke.stretch (not spoke.last) (end_place spoke.last (half w)) w s

-- the point beside the end at a step of a window, where the spoke is computed up to it
abbrev pub IsBeside : ℕ → Spoke → Point → Type 0
IsBeside step spoke point =
    (law : Meaning) (w s k : ℕ) → IsSpokeAfter law w s k spoke → k < w → step ≡ s + k
    → point ≡ (row law step).point spoke.stretch.pipe (next_to law.mesh
    (record { pipe = spoke.stretch.pipe; at_last = spoke.last }))

-- the steps of the window from step s on, after the first `from` up to `until` of them, at the
-- places of some spokes
abbrev pub spokes_marks : ℕ → ℕ → ℕ → ℕ → List Spoke → Marks
spokes_marks w s from until spokes t p =
    list_any (λ spoke. is_between spoke.stretch (spoke_front spoke.last w s from)
    (spoke_front spoke.last w s until) t p) spokes

-- step 0 at the ends of some spokes
abbrev pub ends_marks : ℕ → List Spoke → Marks
ends_marks w spokes t p =
    list_any (λ spoke. is_only 0 (spoke.stretch.number + end_place spoke.last (half w)) t p) spokes

-- a spoke is computed by one step more, and has no whole block any more
pub record IsSpokeLater (law : Meaning) (w s k : ℕ) (old new : Spoke) : Type 0 where
  pub same : IsSameSpoke old new
  pub bare : new.loaded ≡ false
  pub computed : IsSpokeAfter law w s (k + 1) new

-- and the fold was told of it
pub record IsSpokeStepped (law : Meaning) (w s k : ℕ) (old new : Spoke) (before after : Fold)
    : Type 0 where
  pub later : IsSpokeLater law w s k old new
  pub same_fold : IsSameFold before after
  pub stands : (marks : Marks) → Stands before (marked law marks)
      → Stands after (marked law (or_marked marks
      (is_between old.stretch (spoke_front old.last w s k) (spoke_front old.last w s (k + 1)))))
