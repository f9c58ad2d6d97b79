-- Texts that pass through a page, which keeps the last bytes back until it is full.
use Rattle.std.specs.Prelude.{◌≡◌, ℕ, List, ◌++◌, Option}
use Rattle.surge_io.specs.Bytes.{Appends, AppendsFront}

-- of a text that began when the sink held `start`, all has come so far: what the sink got since,
-- and then what waits
abbrev pub Passes : Option (List ℕ) → Option (List ℕ) → List ℕ → List ℕ → Type 0
Passes start now waiting text = (gone : List ℕ) × Appends start now gone × (gone ++ waiting ≡ text)

-- behind whatever text had come before, the piece has come now
abbrev pub Adds : Option (List ℕ) → List ℕ → Option (List ℕ) → List ℕ → List ℕ → Type 0
Adds before waiting now still piece =
    (start : Option (List ℕ)) → (text : List ℕ) → Passes start before waiting text
    → Passes start now still (text ++ piece)

-- the sink got a first part of whatever text had come before, the piece, and all that was to follow
abbrev pub AddsFront : Option (List ℕ) → List ℕ → Option (List ℕ) → List ℕ → Type 0
AddsFront before waiting now piece =
    (start : Option (List ℕ)) → (text rest : List ℕ) → Passes start before waiting text
    → AppendsFront start now (text ++ piece ++ rest)

-- the sink got all of whatever text had come before
abbrev pub Finishes : Option (List ℕ) → List ℕ → Option (List ℕ) → Type 0
Finishes before waiting now =
    (start : Option (List ℕ)) → (text : List ℕ) → Passes start before waiting text
    → Appends start now text

-- the sink got a first part of whatever text had come before, and of all that was to follow
abbrev pub FinishesFront : Option (List ℕ) → List ℕ → Option (List ℕ) → Type 0
FinishesFront before waiting now =
    (start : Option (List ℕ)) → (text rest : List ℕ) → Passes start before waiting text
    → AppendsFront start now (text ++ rest)
