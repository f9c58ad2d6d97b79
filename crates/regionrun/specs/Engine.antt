-- What every engine keeps of the strands of a layout and of their blocks, and gives back.
use Rattle.std.specs.Prelude.{◌≡◌, ℕ, ◌+◌, ◌<◌, ◌≤◌, Bool, not, if◌then◌else◌, List, length}
use Rattle.std.specs.Prelude.{slice_index_or}
use Rattle.case_model.specs.Meaning.{Meaning}
use Rattle.envelope.specs.Folds.{IsSameFold}
use Rattle.regions.specs.declared.shapes.Layout.{Layout}
use Rattle.regions.specs.Sides.{is_section}
use Rattle.regionrun.specs.declared.frontiers.Frontier.{Frontier}
use Rattle.regionrun.specs.declared.one_strand.Strand.{Strand}
use Rattle.regionrun.specs.Bodies.{IsComputed}
use Rattle.regionrun.specs.Lawful.{IsLawful}
use Rattle.regionrun.specs.Right.{IsBare, IsRight, IsSameStrand}
use Rattle.regionrun.specs.Stubs.{HasStub}
use Rattle.schedule.specs.LayoutNets.{layout_net}
use Rattle.schedule.specs.Nets.{IsSameNet, Net}

-- strand x of a layout, with so many of its regions computed and entered, and no block loaded
pub record IsStrandAt {S : Type 0} (strand_of entered_of : S → ℕ) (law : Meaning)
    (layout : Layout) (x c : ℕ) (strand : Strand S) : Type 0 where
  pub number_is : strand.frontier.number ≡ x
  pub computed_is : strand.frontier.computed ≡ c
  pub right : IsRight law layout strand.frontier
  pub bare : IsBare strand.frontier
  pub stub : HasStub strand_of entered_of x c strand.stub

-- all strands of a layout, in order
pub record AreAt {S : Type 0} (strand_of entered_of : S → ℕ) (law : Meaning) (layout : Layout)
    (count : ℕ → ℕ) (strands : List (Strand S)) : Type 0 where
  pub each : length strands ≡ length layout.shapes
  pub strand : (x : ℕ) (d : Strand S) → x < length layout.shapes
      → IsStrandAt strand_of entered_of law layout x (count x) (slice_index_or strands x d)

-- nothing is computed
abbrev pub none : ℕ → ℕ
none x = 0

-- each fold has the spans, probes, steps and `every` that it had
pub record AreSameFolds {S : Type 0} (old new : List (Strand S)) : Type 0 where
  pub each : length new ≡ length old
  pub fold : (x : ℕ) (d : Strand S) → x < length old
      → IsSameFold (slice_index_or old x d).frontier.fold (slice_index_or new x d).frontier.fold

-- a strand still has all points of the region that it computed last, and so those of its block
pub record IsLending (law : Meaning) (layout : Layout) (frontier : Frontier) : Type 0 where
  pub computed : (b : ℕ) → frontier.computed ≡ b + 1
      → IsComputed law layout.window b frontier.body

-- a strand of this kind between its turns, with c regions computed
pub record IsAtRest {S : Type 0} (strand_of entered_of : S → ℕ) (law : Meaning) (layout : Layout)
    (section : Bool) (c : ℕ) (strand : Strand S) : Type 0 where
  pub kind : is_section layout strand.frontier.number ≡ section
  pub at : IsStrandAt strand_of entered_of law layout strand.frontier.number c strand
  pub lending : IsLending law layout strand.frontier

-- each of these strands
pub record AreEachAtRest {S : Type 0} (strand_of entered_of : S → ℕ) (law : Meaning)
    (layout : Layout) (section : Bool) (c : ℕ) (strands : List (Strand S)) : Type 0 where
  pub each : (i : ℕ) (d : Strand S) → i < length strands
      → IsAtRest strand_of entered_of law layout section c (slice_index_or strands i d)

-- nothing of these strands has changed but how far they are
pub record AreSameStrands {S : Type 0} (old new : List (Strand S)) : Type 0 where
  pub each : (i : ℕ) (d : Strand S) → i < length old
      → IsSameStrand (slice_index_or old i d).frontier (slice_index_or new i d).frontier

-- all strands of this kind, in order: their numbers begin with `first`
pub record AreAtRest {S : Type 0} (strand_of entered_of : S → ℕ) (law : Meaning) (layout : Layout)
    (section : Bool) (c first : ℕ) (strands : List (Strand S)) : Type 0 where
  pub all : (x : ℕ) → x < length layout.shapes → is_section layout x ≡ section
      → (first ≤ x) × (x < first + length strands)
  pub number_is : (i : ℕ) (d : Strand S) → i < length strands
      → (slice_index_or strands i d).frontier.number ≡ first + i
  pub rest : AreEachAtRest strand_of entered_of law layout section c strands

-- the turns go through the regions by number: first region c of all sections, then that of all
-- stations; these are the strands beside those whose turn it is
abbrev pub AreBeside : {S : Type 0} → (S → ℕ) → (S → ℕ) → Meaning → Layout → Bool → ℕ → ℕ
    → List (Strand S) → Type 0
AreBeside strand_of entered_of law layout section c first strands =
    AreAtRest strand_of entered_of law layout (not section) (if section then c else c + 1) first
    strands

-- what all turns of a run have in common
pub record IsCourse (law : Meaning) (layout : Layout) (net : Net) : Type 0 where
  pub lawful : IsLawful layout law.mesh
  pub planned : IsSameNet (layout_net layout law.mesh 1) net
