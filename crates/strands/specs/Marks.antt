-- Points of the rows of a law that are marked by step and place number, and those between two
-- fronts of a stretch.
use Rattle.std.specs.Prelude.{ℕ, ◌+◌, ◌-◌, ◌==◌, ◌||◌, ◌&&◌, nat_le, nat_lt, Bool, None}
use Rattle.std.specs.Prelude.{if◌then◌else◌}
use Rattle.case_model.specs.Meaning.{Meaning}
use Rattle.envelope.specs.Notings.{Noted}
use Rattle.envelope.specs.Rows.{rows_noted}
use Rattle.fronts.specs.Stretches.{count_of}
use Rattle.fronts.specs.declared.stretches.Stretch.{Stretch}

-- which steps (the first number) and place numbers
abbrev pub Marks : Type 0
Marks = ℕ → ℕ → Bool

-- what the rows have at the marked steps and places, as a fold is told it
unfoldable pub marked : Meaning → Marks → Noted
marked law marks s k = if marks s k then rows_noted law s k else None

abbrev pub or_marked : Marks → Marks → Marks
or_marked one other s k = one s k || other s k

-- one step and place number alone
abbrev pub is_only : ℕ → ℕ → Marks
is_only step place s k = (s == step) && (k == place)

-- the steps behind one front of a stretch up to another, place by place
abbrev pub is_between : Stretch → (ℕ → ℕ) → (ℕ → ℕ) → Marks
is_between stretch front later s k =
    nat_le stretch.number k && (nat_lt k (stretch.number + count_of stretch)
    && (nat_lt (front (k - stretch.number)) s && nat_le s (later (k - stretch.number))))

-- at step 0 the place numbers from `low` on and below `high`
abbrev pub start_marks : ℕ → ℕ → Marks
start_marks low high s k = (s == 0) && (nat_le low k && nat_lt k high)
