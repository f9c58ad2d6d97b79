-- What reads and writes do to the bytes that a source has left and a sink holds, where these are
-- told.
use Rattle.std.specs.Prelude.{◌≡◌, ℕ, ◌<◌, ◌≤◌, ◌⊎◌, List, [], ◌++◌, length, take, drop, Option}
use Rattle.std.specs.Prelude.{Some, IfSome}

-- a read took the first n of the bytes left, gave them at the front of the buffer, and left the
-- rest; it takes none from a buffer with room only at the end of the input
pub record Takes (n : ℕ) (buffer : List ℕ) (now : Option (List ℕ)) (bytes : List ℕ) : Type 0 where
  pub within : n ≤ length bytes
  pub front : take n buffer ≡ take n bytes
  pub rest : now ≡ Some (drop n bytes)
  pub end : n ≡ 0 → 0 < length buffer → bytes ≡ []

-- what was held stays, with the bytes behind it
abbrev pub Appends : Option (List ℕ) → Option (List ℕ) → List ℕ → Type 0
Appends before now bytes = IfSome before (λ held. now ≡ Some (held ++ bytes))

-- what was held stays, with some first part of the bytes behind it
abbrev pub AppendsFront : Option (List ℕ) → Option (List ℕ) → List ℕ → Type 0
AppendsFront before now bytes = (n : ℕ) × (n ≤ length bytes) × Appends before now (take n bytes)

-- the bytes left before are those taken and then those left now
abbrev pub HasRead : Option (List ℕ) → Option (List ℕ) → List ℕ → Type 0
HasRead before now taken =
    IfSome before (λ bytes. (rest : List ℕ) × (now ≡ Some rest) × (bytes ≡ taken ++ rest))

-- the bytes taken are a first part of bytes: all of them, or more than the limit
abbrev pub IsReading : ℕ → List ℕ → List ℕ → Type 0
IsReading limit taken bytes =
    (rest : List ℕ) × (bytes ≡ taken ++ rest) × ((rest ≡ []) ⊎ (limit < length taken))
