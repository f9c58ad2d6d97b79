-- The probes of a fold, the marks that tell which line of samples belongs to a cell, and these
-- lines. A fold without probes keeps none of them.
use Rattle.std.specs.Prelude.{ℕ, List, [], Option, Some, None, Box}
use Rattle.std.specs.declared.alloc.Global.{Global}
use Rattle.envelope.specs.declared.probes.Probes.{Probes}
use Rattle.envelope.specs.declared.samples.Sample.{Sample as Kept}

abbrev pub places_of : Option (Box Probes Global) → List ℕ
places_of (Some probes) = probes.value.places.items
places_of None = []

abbrev pub marks_of : Option (Box Probes Global) → List (Option ℕ)
marks_of (Some probes) = probes.value.marks.items
marks_of None = []

abbrev pub lines_of : Option (Box Probes Global) → List (List (Option Kept))
lines_of (Some probes) = probes.value.lines.items
lines_of None = []
