-- What was taken from a source, whether or not it tells what it has left: by what its reads gave.
-- A read with room for some bytes takes a source from one state to another, and gives bytes or
-- fails.
use Rattle.std.specs.Prelude.{◌≡◌, ℕ, ◌+◌, ◌<◌, ◌≤◌, ◌⊎◌, List, [], length, take, Option, None}
use Rattle.std.specs.Prelude.{Some, Result, Ok, Err}
use Rattle.std.specs.List.{FoldsTo, concat}
use Rattle.std.specs.Io.KnownBytes.{Consumes, Keeps, IsAtEnd}

-- what a read gave: the first bytes of its buffer, or nothing where it failed
abbrev pub given : {E : Type 0} → Result ℕ E → List ℕ → Option (List ℕ)
given (Ok n) buffer = Some (take n buffer)
given (Err _) buffer = None

-- what a read gave is what a source that may tell its bytes has lost: none with room only at its
-- end
abbrev pub Loses : Option (List ℕ) → Option (List ℕ) → ℕ → Option (List ℕ) → Type 0
Loses before now room (Some bytes) =
    Consumes before now bytes × (bytes ≡ [] → 0 < room → IsAtEnd now)
Loses before now room None = Keeps before now

-- a read gave these bytes, of which there are some
abbrev pub GivesSome : {S : Type 0} → (S → ℕ → Option (List ℕ) → S → Type 0) → S → List ℕ → S
    → Type 0
GivesSome gives before bytes now =
    (room : ℕ) × (0 < length bytes) × gives before room (Some bytes) now

-- a read that had room gave none: the end
abbrev pub MeetsEnd : {S : Type 0} → (S → ℕ → Option (List ℕ) → S → Type 0) → S → S → Type 0
MeetsEnd gives before now = (room : ℕ) × (0 < room) × gives before room (Some []) now

-- a read failed
abbrev pub MeetsFault : {S : Type 0} → (S → ℕ → Option (List ℕ) → S → Type 0) → S → S → Type 0
MeetsFault gives before now = (room : ℕ) × gives before room None now

-- reads one behind the other, and nothing else, took these bytes
abbrev pub HasTaken : {S : Type 0} → (S → ℕ → Option (List ℕ) → S → Type 0) → S → List ℕ → S
    → Type 0
HasTaken gives before taken now =
    (pieces : List (List ℕ)) × FoldsTo (GivesSome gives) before pieces now × (taken ≡ concat pieces)

-- these bytes were taken, and one more read met the end
abbrev pub HasTakenAll : {S : Type 0} → (S → ℕ → Option (List ℕ) → S → Type 0) → S → List ℕ → S
    → Type 0
HasTakenAll {S} gives before taken now =
    (last : S) × HasTaken gives before taken last × MeetsEnd gives last now

-- a source was read to its end, or exactly one byte past the limit
abbrev pub WasRead : {S : Type 0} → (S → ℕ → Option (List ℕ) → S → Type 0) → ℕ → S → List ℕ → S
    → Type 0
WasRead gives limit before taken now =
    ((length taken ≤ limit) × HasTakenAll gives before taken now)
    ⊎ ((length taken ≡ limit + 1) × HasTaken gives before taken now)

-- these bytes were taken, and one more read failed
abbrev pub HasFailed : {S : Type 0} → (S → ℕ → Option (List ℕ) → S → Type 0) → S → List ℕ → S
    → Type 0
HasFailed {S} gives before taken now =
    (last : S) × HasTaken gives before taken last × MeetsFault gives last now
