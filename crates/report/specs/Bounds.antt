-- The better of two places, by the greatest or by the least head.
use Rattle.std.specs.Prelude.{Bool, if◌then◌else◌}
use Rattle.case_model.specs.declared.cases.ProbeAt.{ProbeAt}
use Rattle.envelope.specs.declared.extremes.Extreme.{Extreme}
use Rattle.report.specs.Peaks.{is_above, is_below}
use Rattle.report.specs.declared.peaks.Bound.{Bound}
use Rattle.report.specs.declared.peaks.Bound.TheVariants.{Greatest, Least}

-- whether an extreme passes another
abbrev pub passing : Bound → Extreme → Extreme → Bool
passing Greatest = is_above
passing Least = is_below

-- the second place where it passes the first
abbrev pub better : Bound → (ProbeAt → Extreme) → ProbeAt → ProbeAt → ProbeAt
better bound extremes best at = if passing bound (extremes at) (extremes best) then at else best
