-- The text of a drill: a reservoir J0 at the head of a chain of junctions J1, J2, .. and pipes P1,
-- P2, .. whose lengths and diameters are drawn from a number.
use Rattle.std.specs.Prelude.{ℕ, zero, suc, ◌+◌, ◌-◌, ◌*◌, ◌/◌, ◌%◌, ◌==◌, List, [], ◌∷◌, ◌++◌}
use Rattle.std.specs.Prelude.{codes, if◌then◌else◌}
use Rattle.std.specs.List.{flat_map, range_with_len}
use Rattle.surge_io.specs.Fields.{count_text, line_of}

-- ---- what is drawn

-- the number that is drawn behind this one, below 2^31
unfoldable pub next : ℕ → ℕ
next x = (x * 1_103_515_245 + 12_345) % 2_147_483_648

-- the k-th number that is drawn from a number, which itself is the one before the first
unfoldable pub drawn : ℕ → ℕ → ℕ
drawn number zero = number
drawn number (suc k) = next (drawn number k)

-- ---- the lines

-- a junction or a pipe by its number
abbrev pub junction : ℕ → List ℕ
junction k = codes "J" ++ count_text k

abbrev pub pipe : ℕ → List ℕ
pipe k = codes "P" ++ count_text k

-- each fifth junction has the demand of the table D, the others have none
abbrev pub demand_text : ℕ → List ℕ
demand_text k = if k % 5 == 0 then codes "@D" else codes "0"

unfoldable pub junction_text : ℕ → List ℕ
junction_text k =
    line_of (codes "junction" ∷ junction k ∷ codes "0" ∷ demand_text k ∷ codes "80" ∷ [])

-- 100 to 290 m, and 0.3 to 0.7 m
abbrev pub length_text : ℕ → List ℕ
length_text x = count_text (100 + 10 * (x / 65_536 % 20))

abbrev pub diameter_text : ℕ → List ℕ
diameter_text x = codes "0." ++ count_text (3 + x / 2_097_152 % 5)

-- the names of a pipe, of the junction before it and of its own
abbrev pub pipe_names : ℕ → List (List ℕ)
pipe_names k = pipe k ∷ junction (k - 1) ∷ junction k ∷ []

-- length, diameter, wave speed, friction factor and flow
abbrev pub pipe_numbers : ℕ → List (List ℕ)
pipe_numbers x =
    length_text x ∷ diameter_text x ∷ codes "1000" ∷ codes "0.02" ∷ codes "0" ∷ []

-- a pipe by its number and the number that is drawn for it
unfoldable pub pipe_text : ℕ → ℕ → List ℕ
pipe_text k x = line_of (codes "pipe" ∷ pipe_names k ++ pipe_numbers x)

-- ---- the text

-- the first lines: 2,000 steps of 0.01 s, the table D by which a demand rises to 0.01 m3/s in
-- 0.1 s, and the reservoir
unfoldable pub heading : List ℕ
heading =
    line_of (codes "surge" ∷ codes "1" ∷ [])
    ++ line_of (codes "step" ∷ codes "0.01" ∷ [])
    ++ line_of (codes "steps" ∷ codes "2000" ∷ [])
    ++ line_of (codes "flows" ∷ codes "D" ∷ codes "0" ∷ codes "0" ∷ codes "0.1" ∷ codes "0.01" ∷ [])
    ++ line_of (codes "reservoir" ∷ codes "J0" ∷ codes "0" ∷ codes "80" ∷ [])

-- the lines of the first so many junctions
unfoldable pub junctions_text : ℕ → List ℕ
junctions_text count = flat_map junction_text (range_with_len 1 count)

-- the lines of the first so many pipes
unfoldable pub pipes_text : ℕ → ℕ → List ℕ
pipes_text number count = flat_map (λ k. pipe_text k (drawn number k)) (range_with_len 1 count)

-- the text of the drill of this number
unfoldable pub drill_text : ℕ → List ℕ
drill_text number = heading ++ junctions_text 100 ++ pipes_text number 100
