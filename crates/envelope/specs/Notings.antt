-- What folds are told: points of places and states of nodes, each at a step and a place number.
use Rattle.std.specs.Prelude.{◌≡◌, ℕ, ◌+◌, ◌-◌, ◌%◌, ◌==◌, ◌&&◌, nat_le, nat_lt, Bool, false}
use Rattle.std.specs.Prelude.{if◌then◌else◌, Option, Some, None, List, length, slice_index_or}
use Rattle.case_model.specs.declared.points.Point.{Point}
use Rattle.case_model.specs.declared.points.Point.TheVariants.{Bad}
use Rattle.case_model.specs.declared.states.NodeState.{NodeState}
use Rattle.case_model.specs.Places.{is_bad, is_bad_state}
use Rattle.case_model.specs.Samples.{Sample, point_sample, node_sample}
use Rattle.envelope.specs.Cells.{is_within}
use Rattle.std.specs.Option.{option_or}

-- a point of a pipe's place, or a node's state
pub data Noting : Type 0 where
  OfPoint : Point → Noting
  OfNode : NodeState → Noting

-- what was noted at a step (the first number) and a place number
abbrev pub Noted : Type 0
Noted = ℕ → ℕ → Option Noting

abbrev pub nothing : Noted
nothing step place = None

-- one noting alone
abbrev pub only : ℕ → ℕ → Noting → Noted
only step place noting s k = if (s == step) && (k == place) then Some noting else None

-- two maps give the same value to each step and place that both have
abbrev pub Agree : Noted → Noted → Type 0
Agree map more = (s k : ℕ) (x y : Noting) → map s k ≡ Some x → more s k ≡ Some y → x ≡ y

-- what either of two maps has; they are to agree
abbrev pub union : Noted → Noted → Noted
union map more s k = option_or (map s k) (more s k)

-- a map with one noting more
abbrev pub noted : Noted → ℕ → ℕ → Noting → Noted
noted map step place noting = union map (only step place noting)

-- the points of a line, noted at one step at places that follow one another
unfoldable pub line_noted : ℕ → ℕ → List Point → Noted
line_noted step first points s k =
    if (s == step) && nat_le first k && nat_lt k (first + length points)
    then Some (OfPoint (slice_index_or points (k - first) Bad)) else None

-- every place of a map lies in these spans
abbrev pub IsInside : List (ℕ × ℕ) → Noted → Type 0
IsInside spans map = (s k : ℕ) → is_within spans k ≡ false → map s k ≡ None

-- head, flows and volume of a Good noting
abbrev pub taken : Option Noting → Option Sample
taken (Some (OfPoint point)) = point_sample point
taken (Some (OfNode state)) = node_sample state
taken None = None

-- whether a Bad point or state was noted
abbrev pub is_bad_noting : Option Noting → Bool
is_bad_noting (Some (OfPoint point)) = is_bad point
is_bad_noting (Some (OfNode state)) = is_bad_state state
is_bad_noting None = false

-- what is taken of one place, step by step
abbrev pub column : Noted → ℕ → ℕ → Option Sample
column map place step = taken (map step place)

-- the sample of a place over a map: at the steps 0, every, 2*every .. up to the last
unfoldable pub sample_over : Noted → ℕ → ℕ → ℕ → ℕ → Option Sample
sample_over map every last place step =
    if (step % every == 0) && nat_le step last then taken (map step place) else None
