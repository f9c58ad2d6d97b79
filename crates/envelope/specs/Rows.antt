-- The rows of a law as what a fold is told: of each step the state of each node and the point of
-- each place, by place number.
use Rattle.std.specs.Prelude.{ℕ, Some}
use Rattle.case_model.specs.declared.cases.ProbeAt.{ProbeAt}
use Rattle.case_model.specs.declared.cases.ProbeAt.TheVariants.{OnPipe, OnNode}
use Rattle.case_model.specs.Meaning.{Meaning}
use Rattle.case_model.specs.PlaceNumbers.{place_at}
use Rattle.case_model.specs.Rows.{Row, row}
use Rattle.case_model.specs.Samples.{taken_at}
use Rattle.envelope.specs.Extremes.{extreme_over}
use Rattle.envelope.specs.Notings.{Noting, Noted}
use Rattle.envelope.specs.Notings.Noting.{OfPoint, OfNode}
use Rattle.envelope.specs.declared.extremes.Extreme.{Extreme}

-- what a row has at a place
abbrev pub noting_at : Row → ProbeAt → Noting
noting_at row (OnNode node) = OfNode (row.state node)
noting_at row (OnPipe pipe place) = OfPoint (row.point pipe place)

-- the rows of a law, noted whole
abbrev pub rows_noted : Meaning → Noted
rows_noted law step k = Some (noting_at (row law step) (place_at law.mesh k))

-- the extreme of a place over the rows of the steps 0 to the last
unfoldable pub extreme_at : Meaning → ℕ → ProbeAt → Extreme
extreme_at law last at = extreme_over (λ s. taken_at (row law s) at) last
