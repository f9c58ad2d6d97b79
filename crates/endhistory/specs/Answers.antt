-- What the answers of `vacancy` and `look` say.
use Rattle.std.specs.Prelude.{◌≡◌, ℕ, ◌+◌, ◌<◌, ◌≤◌, slice_index}
use Rattle.endhistory.specs.declared.views.Sizes.{Sizes}
use Rattle.endhistory.specs.declared.views.Writing.{Writing}
use Rattle.endhistory.specs.declared.views.Reading.{Reading}
use Rattle.endhistory.specs.declared.answers.Vacancy.{Vacancy}
use Rattle.endhistory.specs.declared.answers.Vacancy.TheVariants.{Free, Held}
use Rattle.endhistory.specs.declared.answers.Look.{Look}
use Rattle.endhistory.specs.declared.answers.Look.TheVariants.{Ready, NotYet}
use Rattle.endhistory.specs.Steps.{IsFree}
use Rattle.endhistory.specs.Seats.{HasAsked}

-- Free: all readers were asked, and no loaded word was at most next - K.
-- Held r n: the readers up to r were asked. The word of r, loaded in this call, is n, which is at
-- most next - K. No word of a reader before it was.
abbrev pub Finds : Sizes → Vacancy → Writing → Writing → Type 0
Finds z Free w w' = IsFree z w' × HasAsked z w w' z.readers
Finds z (Held r n) w w' = (r < z.readers) × (slice_index w'.known r ≡ n) × (n + z.slots ≤ w.next)
    × ((k : ℕ) → k < r → w.next < slice_index w'.known k + z.slots) × HasAsked z w w' (r + 1)

-- Ready: the published count that was loaded is over the next block. NotYet n: it is n, which is at
-- most the next block.
abbrev pub Says : Look → Reading → Type 0
Says Ready y = y.next < y.seen
Says (NotYet n) y = (n ≡ y.seen) × (n ≤ y.next)

abbrev pub IsReady : Look → Type 0
IsReady Ready = Unit {0}
IsReady (NotYet n) = ⊥
