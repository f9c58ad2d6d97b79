-- The strand of a section: its tent, raised where the block of a station is loaded.
use Rattle.std.specs.Prelude.{◌≡◌, ℕ, ◌+◌, ◌-◌, ◌≤◌, ◌||◌, max, not, Bool, true, false}
use Rattle.std.specs.Prelude.{if◌then◌else◌}
use Rattle.case_model.specs.Meaning.{Meaning}
use Rattle.fronts.specs.Fronts.{Holds, ever, risen, tent}
use Rattle.fronts.specs.Stretches.{AreSamePlaces, count_of}
use Rattle.strands.specs.Marks.{Marks, start_marks}
use Rattle.strands.specs.Sections.{IsLine}
use Rattle.strands.specs.declared.tents.Section.{Section}

-- the front over the window of w steps from step s on: the tent, raised at the left and at the
-- right where the block of the station there is loaded
abbrev pub fed : Bool → Bool → ℕ → ℕ → ℕ → ℕ → ℕ
fed left right w s n x =
    max (tent s n x)
    (max (if left then s + w - x else 0) (if right then s + w - (n - x) else 0))

-- whether the block of the station at this side is loaded
abbrev pub has_block : Bool → Section → Bool
has_block left section = if left then section.left else section.right

-- no block is loaded
pub record IsUnfed (section : Section) : Type 0 where
  pub left_is : section.left ≡ false
  pub right_is : section.right ≡ false

-- both blocks are loaded
pub record IsFed (section : Section) : Type 0 where
  pub left_is : section.left ≡ true
  pub right_is : section.right ≡ true

-- the block of this side is loaded, and nothing changes of the places and of the other side
pub record TakesBlock (left : Bool) (old new : Section) : Type 0 where
  pub same : AreSamePlaces old.stretch new.stretch
  pub left_is : new.left ≡ (old.left || left)
  pub right_is : new.right ≡ (old.right || not left)

-- a section that is computed to its tent at step s, with the blocks that are loaded for the window
-- of w steps from there on
pub record IsSectionAt (law : Meaning) (w s : ℕ) (section : Section) : Type 0 where
  pub line : IsLine law section.stretch
  pub some : 1 ≤ w
  pub long : w + 1 ≤ count_of section.stretch
  pub holds : Holds law ever (fed section.left section.right w s (count_of section.stretch - 1))
      section.stretch

-- a section of which no region is computed: it has the points of the initial row
pub record IsFreshSection (law : Meaning) (section : Section) : Type 0 where
  pub line : IsLine law section.stretch
  pub unfed : IsUnfed section
  pub holds : Holds law ever (risen (count_of section.stretch - 1) 0) section.stretch

-- the places of a section between its stations, at the start
abbrev pub starts_inside : Section → Marks
starts_inside section =
    start_marks (section.stretch.number + 1)
    (section.stretch.number + (count_of section.stretch - 1))
