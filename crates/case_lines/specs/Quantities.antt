-- The quantities that a case text gives in numbers: their units and limits.
use Rattle.std.specs.Prelude.{ℕ, ℤ, pos, neg_ℤ, int_le, ◌&&◌, not, Bool, true, false, Result, Ok}
use Rattle.std.specs.Prelude.{Err, List}
use Rattle.fixed_num.specs.Decimal.{number_of}
use Rattle.fixed_num.specs.declared.decimal.NumberFault.{NumberFault}
use Rattle.fixed_num.specs.declared.decimal.NumberFault.TheVariants.{Spelling, Places, Large}
use Rattle.case_lines.specs.declared.quantities.NumberLimits.{NumberLimits}
use Rattle.case_lines.specs.declared.quantities.Quantity.{Quantity}
use Rattle.case_lines.specs.declared.quantities.Quantity.TheVariants.{TimeStep, StepCount}
use Rattle.case_lines.specs.declared.quantities.Quantity.TheVariants.{VapourHead, GrowthWeight}
use Rattle.case_lines.specs.declared.quantities.Quantity.TheVariants.{SpeedTolerance, SampleStep}
use Rattle.case_lines.specs.declared.quantities.Quantity.TheVariants.{Time, Head, Flow, Opening}
use Rattle.case_lines.specs.declared.quantities.Quantity.TheVariants.{SpeedRatio, CurveFlow}
use Rattle.case_lines.specs.declared.quantities.Quantity.TheVariants.{CurveRise, Volume, Elevation}
use Rattle.case_lines.specs.declared.quantities.Quantity.TheVariants.{ValveFlow, ValveLoss, Area}
use Rattle.case_lines.specs.declared.quantities.Quantity.TheVariants.{Length, Diameter, WaveSpeed}
use Rattle.case_lines.specs.declared.quantities.Quantity.TheVariants.{FrictionFactor, PipePlace}

abbrev pub limited : ℕ → ℤ → ℤ → NumberLimits
limited places least most = record { places = places; least = least; most = most }

-- the digits after the point of each quantity, and its least and greatest number in the unit that
-- these give
abbrev pub limits : Quantity → NumberLimits
limits TimeStep = limited 6 (pos 1) (pos 1_000_000)
limits StepCount = limited 0 (pos 1) (pos 100_000_000)
limits VapourHead = limited 6 (neg_ℤ (pos 100_000_000)) (pos 0)
limits GrowthWeight = limited 1 (pos 5) (pos 10)
limits SpeedTolerance = limited 3 (pos 0) (pos 500)
limits SampleStep = limited 0 (pos 1) (pos 100_000_000)
limits Time = limited 6 (pos 0) (pos 1_000_000_000_000)
limits Head = limited 6 (neg_ℤ (pos 100_000_000_000)) (pos 100_000_000_000)
limits Flow = limited 9 (neg_ℤ (pos 1_000_000_000_000)) (pos 1_000_000_000_000)
limits Opening = limited 6 (pos 0) (pos 1_000_000)
limits SpeedRatio = limited 6 (pos 0) (pos 2_000_000)
limits CurveFlow = limited 9 (pos 0) (pos 1_000_000_000_000)
limits CurveRise = limited 6 (pos 0) (pos 100_000_000_000)
limits Volume = limited 9 (pos 0) (pos 1_000_000_000_000_000)
limits Elevation = limited 6 (neg_ℤ (pos 10_000_000_000)) (pos 10_000_000_000)
limits ValveFlow = limited 9 (pos 0) (pos 1_000_000_000_000)
limits ValveLoss = limited 6 (pos 10_000) (pos 100_000_000_000)
limits Area = limited 6 (pos 1) (pos 1_000_000_000)
limits Length = limited 3 (pos 1) (pos 1_000_000_000)
limits Diameter = limited 3 (pos 20) (pos 10_000)
limits WaveSpeed = limited 3 (pos 10_000) (pos 2_000_000)
limits FrictionFactor = limited 6 (pos 0) (pos 500_000)
limits PipePlace = limited 0 (pos 0) (pos 65_536)

-- the number that a field gives for a quantity, in its unit
unfoldable pub quantity_in : Quantity → List ℕ → Result ℤ NumberFault
quantity_in quantity text = number_of (limits quantity).places text

-- whether a field is spelt as a number with no more than the places of its unit
abbrev pub is_spelt : Result ℤ NumberFault → Bool
is_spelt (Ok x) = true
is_spelt (Err Spelling) = false
is_spelt (Err Places) = false
is_spelt (Err Large) = true

-- whether a field is spelt as a number that lies outside these limits
abbrev pub is_outside : NumberLimits → Result ℤ NumberFault → Bool
is_outside l (Ok x) = not (int_le l.least x && int_le x l.most)
is_outside l (Err Spelling) = false
is_outside l (Err Places) = false
is_outside l (Err Large) = true

-- a number, or 0 where there is none
abbrev pub number_or_zero : Result ℤ NumberFault → ℤ
number_or_zero (Ok x) = x
number_or_zero (Err fault) = pos 0

-- the number that a field gives for a quantity, or 0 where it gives none
unfoldable pub amount : Quantity → List ℕ → ℤ
amount quantity text = number_or_zero (quantity_in quantity text)
