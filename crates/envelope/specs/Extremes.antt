-- The extremes of one place over what is taken of it, step by step.
use Rattle.std.specs.Prelude.{◌≡◌, ℕ, zero, suc, ◌≤◌, ℤ, pos, negsuc, ◌≤ℤ◌, ◌<ℤ◌, int_lt}
use Rattle.std.specs.Prelude.{if◌then◌else◌, Option, Some, None}
use Rattle.case_model.specs.Samples.{Sample, head_of, volume_of, IsGreatest, IsSmallest}
use Rattle.envelope.specs.declared.extremes.Extreme.{Extreme}
use Rattle.std.specs.Option.{option_or}

-- at each step what either has
abbrev pub either : {X : Type 0} → (ℕ → Option X) → (ℕ → Option X) → ℕ → Option X
either f g step = option_or (f step) (g step)

-- where both have a value it is the same
abbrev pub AgreeAlong : {X : Type 0} → (ℕ → Option X) → (ℕ → Option X) → Type 0
AgreeAlong {X} f g = (step : ℕ) (x y : X) → f step ≡ Some x → g step ≡ Some y → x ≡ y

-- the envelope of what is taken at the steps 0 to the last: greatest and least head and greatest
-- volume, each with the least step at which it stands
pub record IsEnvelopeOf (f : ℕ → Option Sample) (last : ℕ) (e : Extreme) : Type 0 where
  pub greatest_head : IsGreatest (λ s. head_of (f s)) last e.max e.max_step
  pub least_head : IsSmallest (λ s. head_of (f s)) last e.min e.min_step
  pub greatest_volume : IsGreatest (λ s. volume_of (f s)) last e.volume e.volume_step

-- what a cell keeps: the envelope, or where its greatest head is below its least that nothing is
-- taken
pub record HasExtreme (f : ℕ → Option Sample) (last : ℕ) (e : Extreme) : Type 0 where
  pub unmet : e.max <ℤ e.min → (s : ℕ) → s ≤ last → f s ≡ None
  pub filled : e.min ≤ℤ e.max → IsEnvelopeOf f last e

-- the cell of a place of which nothing is taken
abbrev pub unmet : Extreme
unmet =
    record {
      max = negsuc 0;
      max_step = 0;
      min = pos 0;
      min_step = 0;
      volume = negsuc 0;
      volume_step = 0;
    }

-- the greater of a value with its step and of one at a later step; of equal ones the earlier
abbrev pub greater_or : Option (ℤ × ℕ) → Option ℤ → ℕ → Option (ℤ × ℕ)
greater_or best None step = best
greater_or None (Some x) step = Some (x, step)
greater_or (Some best) (Some x) step = if int_lt best.0 x then Some (x, step) else Some best

-- the lesser of them
abbrev pub lesser_or : Option (ℤ × ℕ) → Option ℤ → ℕ → Option (ℤ × ℕ)
lesser_or best None step = best
lesser_or None (Some x) step = Some (x, step)
lesser_or (Some best) (Some x) step = if int_lt x best.0 then Some (x, step) else Some best

-- the greatest value at the steps 0 to the last, with the first step at which it stands
unfoldable pub greatest_over : (ℕ → Option ℤ) → ℕ → Option (ℤ × ℕ)
greatest_over value zero = greater_or None (value 0) 0
greatest_over value (suc last) = greater_or (greatest_over value last) (value (suc last)) (suc last)

-- the least value at the steps 0 to the last, with the first step at which it stands
unfoldable pub least_over : (ℕ → Option ℤ) → ℕ → Option (ℤ × ℕ)
least_over value zero = lesser_or None (value 0) 0
least_over value (suc last) = lesser_or (least_over value last) (value (suc last)) (suc last)

-- a value and its step, 0 where there is none
abbrev pub or_zero : Option (ℤ × ℕ) → ℤ × ℕ
or_zero (Some best) = best
or_zero None = (pos 0, 0)

-- the extreme of what is taken at the steps 0 to the last
unfoldable pub extreme_over : (ℕ → Option Sample) → ℕ → Extreme
extreme_over f last = record {
  max = (or_zero (greatest_over (λ s. head_of (f s)) last)).0;
  max_step = (or_zero (greatest_over (λ s. head_of (f s)) last)).1;
  min = (or_zero (least_over (λ s. head_of (f s)) last)).0;
  min_step = (or_zero (least_over (λ s. head_of (f s)) last)).1;
  volume = (or_zero (greatest_over (λ s. volume_of (f s)) last)).0;
  volume_step = (or_zero (greatest_over (λ s. volume_of (f s)) last)).1;
}
