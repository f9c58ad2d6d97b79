-- The samples that a fold keeps: for each probe a line of them, one for each step that is sampled.
use Rattle.std.specs.Prelude.{◌≡◌, ◌≢◌, ℕ, ◌*◌, ◌<◌, ◌≤◌, List, [], length, slice_index}
use Rattle.std.specs.Prelude.{slice_index_or, replicate, Option, Some, None, true}
use Rattle.case_model.specs.Samples.{Sample}
use Rattle.envelope.specs.Cells.{cell_of, is_within}
use Rattle.envelope.specs.declared.samples.Sample.{Sample as Kept}

-- what a kept sample tells of a place
abbrev pub sample_of : Kept → Sample
sample_of s = record { h = s.h; qu = s.qu; qd = s.qd; v = s.v }

abbrev pub told : Option Kept → Option Sample
told (Some s) = Some (sample_of s)
told None = None

-- a line of samples has what is taken at the steps 0, every, 2*every .. up to the last
abbrev pub HasSamples : (ℕ → Option Sample) → ℕ → ℕ → List (Option Kept) → Type 0
HasSamples f last every line =
    (j : ℕ) → j < length line → j * every ≤ last → told (slice_index_or line j None) ≡ f (j * every)

-- which line of samples belongs to a cell: that of a probe at its place; each probe's place has one
pub record IsMarked (spans : List (ℕ × ℕ)) (bases : List ℕ) (probes : List ℕ) (count : ℕ)
    (marks : List (Option ℕ)) : Type 0 where
  pub own : (c line : ℕ) → slice_index_or marks c None ≡ Some line
      → (line < count) × (cell_of spans bases (slice_index probes line) ≡ c)
  pub each : (p : ℕ) → p < count
      → slice_index_or marks (cell_of spans bases (slice_index probes p)) None ≢ None

-- every probe lies in a span
abbrev pub AreWithin : List (ℕ × ℕ) → List ℕ → Type 0
AreWithin spans probes = (p : ℕ) → p < length probes → is_within spans (slice_index probes p) ≡ true

-- entry j of a line of samples, where there is a line
abbrev pub entry_of : List (List (Option Kept)) → Option ℕ → ℕ → Option Kept
entry_of samples (Some line) j = slice_index_or (slice_index_or samples line []) j None
entry_of samples None j = None

-- the line of a cell, where it has one, is there and has entry j
abbrev pub HasRoom : List (Option ℕ) → List (List (Option Kept)) → ℕ → ℕ → Type 0
HasRoom marks samples cell j =
    (line : ℕ) → slice_index_or marks cell None ≡ Some line
    → (line < length samples) × (j < length (slice_index_or samples line []))

-- as many lines, each with as many samples
pub record AreSameWidths (old new : List (List (Option Kept))) : Type 0 where
  pub lines : length new ≡ length old
  pub widths : (l : ℕ) → length (slice_index_or new l []) ≡ length (slice_index_or old l [])

-- a line for each probe, each with a sample for each of these many steps
pub record AreLines (count width : ℕ) (samples : List (List (Option Kept))) : Type 0 where
  pub lines : length samples ≡ count
  pub widths : (p : ℕ) → p < count → length (slice_index_or samples p []) ≡ width

-- such lines without a sample
pub record AreBlank (count width : ℕ) (samples : List (List (Option Kept))) : Type 0 where
  pub lines : length samples ≡ count
  pub blank : (p : ℕ) → p < count → slice_index_or samples p [] ≡ replicate width None
