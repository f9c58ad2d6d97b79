-- The places of some spans, and the cell of each in a fold.
use Rattle.std.specs.Prelude.{◌≡◌, ℕ, ◌+◌, ◌-◌, ◌<◌, ◌≤◌, ◌&&◌, nat_le, nat_lt, Bool, List, [], ◌∷◌}
use Rattle.std.specs.Prelude.{length, slice_index_or, slice_index}
use Rattle.std.specs.List.{list_any, position_or_len}

-- what stands for a span that isn't there
abbrev pub no_span : ℕ × ℕ
no_span = (0, 0)

-- a span is a first place and a count; it has the place
abbrev pub has_place : ℕ → ℕ × ℕ → Bool
has_place place span = nat_le span.0 place && nat_lt place (span.0 + span.1)

-- the place lies in one of the spans
unfoldable pub is_within : List (ℕ × ℕ) → ℕ → Bool
is_within spans place = list_any (has_place place) spans

-- the first place, and the one past the last, of span i
abbrev pub first_of_span : List (ℕ × ℕ) → ℕ → ℕ
first_of_span spans i = (slice_index_or spans i no_span).0

abbrev pub end_of_span : List (ℕ × ℕ) → ℕ → ℕ
end_of_span spans i = (slice_index_or spans i no_span).0 + (slice_index_or spans i no_span).1

-- spans rise without overlap and lie below place 400,000
pub record IsRising (spans : List (ℕ × ℕ)) : Type 0 where
  pub apart : (i j : ℕ) → i < j → j < length spans → end_of_span spans i ≤ first_of_span spans j
  pub low : (i : ℕ) → i < length spans → end_of_span spans i ≤ 400_000

-- the cell of each span's first place, and behind them the count of all cells, where so many cells
-- lie before
abbrev pub bases_after : ℕ → List (ℕ × ℕ) → List ℕ
bases_after before [] = before ∷ []
bases_after before (span ∷ spans) = before ∷ bases_after (before + span.1) spans

abbrev pub bases_of : List (ℕ × ℕ) → List ℕ
bases_of spans = bases_after 0 spans

-- the cell of each span's first place, and the count of all cells: no two spans share a cell
pub record IsLaidOut (spans : List (ℕ × ℕ)) (bases : List ℕ) : Type 0 where
  pub each : length bases ≡ length spans + 1
  pub apart : (i j : ℕ) → i < j → j ≤ length spans
      → slice_index bases i + (slice_index_or spans i no_span).1 ≤ slice_index bases j
  pub few : slice_index bases (length spans) ≤ 400_000

-- the span of a place: the first that ends past it
abbrev pub span_of : List (ℕ × ℕ) → ℕ → ℕ
span_of spans place = position_or_len (λ span. nat_lt place (span.0 + span.1)) spans

-- the place is one of span i
pub record IsPlaced (spans : List (ℕ × ℕ)) (place i : ℕ) : Type 0 where
  pub there : i < length spans
  pub low : first_of_span spans i ≤ place
  pub high : place < end_of_span spans i

-- so many places that follow one another are all of span i
pub record AreInSpan (spans : List (ℕ × ℕ)) (first count i : ℕ) : Type 0 where
  pub there : i < length spans
  pub low : first_of_span spans i ≤ first
  pub high : first + count ≤ end_of_span spans i

-- they are all of one span
abbrev pub AreInOneSpan : List (ℕ × ℕ) → ℕ → ℕ → Type 0
AreInOneSpan spans first count = (i : ℕ) × AreInSpan spans first count i

-- the cell of a place that lies in the spans
unfoldable pub cell_of : List (ℕ × ℕ) → List ℕ → ℕ → ℕ
cell_of spans bases place =
    slice_index bases (span_of spans place) + (place - first_of_span spans (span_of spans place))
