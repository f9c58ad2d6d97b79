-- How readers find their places while histories are opened: the history of strand y gives its
-- readers by number, and reader c of it belongs to the strand at side c of y.
use Rattle.std.specs.Prelude.{◌≡◌, ◌≢◌, ℕ, ◌<◌, ◌≤◌, ◌⊎◌, List, length, slice_index_or}
use Rattle.std.specs.Prelude.{Option, Some}
use Rattle.std.specs.Prelude.{None}
use Rattle.case_model.specs.Meaning.{Meaning}
use Rattle.case_model.specs.declared.meshes.Mesh.{Mesh}
use Rattle.endhistory.specs.declared.history.History.{History}
use Rattle.endhistory.specs.declared.history.Reader.{Reader}
use Rattle.endhistory.specs.declared.history.TheConstants.{MOST_SLOTS}
use Rattle.endhistory.specs.declared.history.Writer.{Writer}
use Rattle.histories.specs.Blocks.{sizes_at}
use Rattle.histories.specs.Opened.{AreReadersOf, IsFreshReader, IsFreshWriter}
use Rattle.regions.specs.LaidOut.{IsLaidOut}
use Rattle.regions.specs.Sides.{back_of, side_of, sides_of}
use Rattle.regions.specs.declared.shapes.Layout.{Layout}
use Rattle.std.specs.Global.{Vec}

-- histories of so many slots can be opened for the blocks of this layout's strands
pub record CanOpen (law : Meaning) (layout : Layout) (mesh : Mesh) (slots : ℕ) : Type 0 where
  pub mesh_is : mesh ≡ law.mesh
  pub laid_out : IsLaidOut layout mesh
  pub some : 1 ≤ slots
  pub few : slots ≤ MOST_SLOTS

-- reader c of the history of strand y, which hasn't found its place yet
abbrev pub IsDealt : Meaning → Layout → ℕ → ℕ → History → Option Reader → Type 0
IsDealt law layout y c history (Some reader) = IsFreshReader law layout y c history reader
IsDealt law layout y c history None = ⊥

-- the readers of the history of strand y, by number
pub record AreGiven (law : Meaning) (layout : Layout) (y : ℕ) (history : History)
    (readers : List Reader) : Type 0 where
  pub each : length readers ≡ sides_of layout law.mesh y
  pub reader : (c : ℕ) (r : Reader) → c < sides_of layout law.mesh y
      → IsFreshReader law layout y c history (slice_index_or readers c r)

-- the same, each in a place out of which it can be taken
pub record AreDealtOf (law : Meaning) (layout : Layout) (y : ℕ) (history : History)
    (dealt : List (Option Reader)) : Type 0 where
  pub each : length dealt ≡ sides_of layout law.mesh y
  pub reader : (c : ℕ) (o : Option Reader) → c < sides_of layout law.mesh y
      → IsDealt law layout y c history (slice_index_or dealt c o)

-- the histories of the first n strands, their writers, and all that they dealt
pub record AreMade (law : Meaning) (layout : Layout) (slots n : ℕ) (histories : List History)
    (writers : List Writer) (dealt : List (Vec (Option Reader))) : Type 0 where
  pub history_count : length histories ≡ n
  pub sizes : (y : ℕ) (h : History) → y < n
      → (slice_index_or histories y h).sizes ≡ sizes_at layout law.mesh slots y
  pub writer_count : length writers ≡ n
  pub writers_are : (y : ℕ) (h : History) (w : Writer) → y < n
      → IsFreshWriter law layout y (slice_index_or histories y h) (slice_index_or writers y w)
  pub dealt_count : length dealt ≡ n
  pub counts : (y : ℕ) (d : Vec (Option Reader)) → y < n
      → length (slice_index_or dealt y d).items ≡ sides_of layout law.mesh y
  pub dealt_are : (y : ℕ) (h : History) (d : Vec (Option Reader)) → y < n
      → AreDealtOf law layout y (slice_index_or histories y h) (slice_index_or dealt y d).items

-- side v of strand u comes at or after side j of strand x
abbrev pub IsLater : ℕ → ℕ → ℕ → ℕ → Type 0
IsLater x j u v = (x < u) ⊎ ((x ≡ u) × (j ≤ v))

-- all readers of sides from side j of strand x on are still with the histories that dealt them
pub record AreWaiting (law : Meaning) (layout : Layout) (histories : List History) (x j : ℕ)
    (dealt : List (Vec (Option Reader))) : Type 0 where
  pub histories_each : length histories ≡ length layout.shapes
  pub each : length dealt ≡ length layout.shapes
  pub counts : (y : ℕ) (d : Vec (Option Reader)) → y < length layout.shapes
      → length (slice_index_or dealt y d).items ≡ sides_of layout law.mesh y
  pub waiting : (y c : ℕ) (h : History) (d : Vec (Option Reader)) (o : Option Reader)
      → y < length layout.shapes → c < sides_of layout law.mesh y
      → IsLater x j (side_of layout law.mesh y c) (back_of layout law.mesh y c)
      → IsDealt law layout y c (slice_index_or histories y h)
      (slice_index_or (slice_index_or dealt y d).items c o)

-- entry c of list y was taken out, and nothing else changed
pub record IsTaken (y c : ℕ) (reader : Reader) (old new : List (Vec (Option Reader)))
    : Type 0 where
  pub each : length new ≡ length old
  pub was : (d : Vec (Option Reader)) (o : Option Reader)
      → slice_index_or (slice_index_or old y d).items c o ≡ Some reader
  pub counts : (z : ℕ) (d : Vec (Option Reader)) → z < length old
      → length (slice_index_or new z d).items ≡ length (slice_index_or old z d).items
  pub others : (z b : ℕ) (d : Vec (Option Reader)) (o : Option Reader) → z < length old
      → (z ≢ y) ⊎ (b ≢ c)
      → slice_index_or (slice_index_or new z d).items b o
      ≡ slice_index_or (slice_index_or old z d).items b o

-- the readers of the first n strands
pub record AreTaken (law : Meaning) (layout : Layout) (histories : List History) (n : ℕ)
    (readers : List (Vec Reader)) : Type 0 where
  pub each : length readers ≡ n
  pub readers_are : (x : ℕ) (d : Vec Reader) → x < n
      → AreReadersOf law layout histories x (sides_of layout law.mesh x)
      (slice_index_or readers x d).items
