-- Where both characteristics have the impedance of the pipe, as with friction taken explicitly,
-- they meet at half of the sum of their values, with their difference over twice the impedance for
-- the flow.
use Rattle.std.specs.Prelude.{◌≡◌, ℤ, pos, ◌+ℤ◌, ◌-ℤ◌, ◌*ℤ◌, ◌≤ℤ◌}
use Rattle.fixed_num.specs.Rounding.{rnd}
use Rattle.case_model.specs.declared.meshes.Arrival.{Arrival}
use Rattle.charline.specs.Characteristics.{driven_flow}
use Rattle.charline.specs.Interior.{meeting_head, meeting_flow}

-- a factor of both the number and the divisor changes no quotient
abbrev pub CutsFactors : Type 0
CutsFactors =
    (k n d : ℤ) → pos 1 ≤ℤ k → pos 1 ≤ℤ d → rnd (k *ℤ n) (k *ℤ d) ≡ rnd n d

abbrev pub MeetHalfway : Type 0
MeetHalfway =
    (plus minus : Arrival) → plus.b ≡ minus.b → pos 1 ≤ℤ plus.b →
    meeting_head plus minus ≡ rnd (plus.c +ℤ minus.c) (pos 2)

abbrev pub FlowByTwice : Type 0
FlowByTwice =
    (plus minus : Arrival) → plus.b ≡ minus.b →
    meeting_flow plus minus ≡ driven_flow (plus.c -ℤ minus.c) (pos 2 *ℤ plus.b)
