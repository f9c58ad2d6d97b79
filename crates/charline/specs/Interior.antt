-- The interior law: a place of a pipe from the characteristics of both sides. Without a cavity the
-- place has one flow; where the head of the liquid would fall below the vapour head, it is held
-- there and a cavity grows by the difference of the flows on its two sides. After Wylie and
-- Streeter, Fluid Transients in Systems: method of characteristics, column separation.
use Rattle.std.specs.Prelude.{ℤ, pos, ◌+ℤ◌, ◌-ℤ◌, ◌*ℤ◌, int_le, int_lt, unsigned_abs, ◌==◌, ◌&&◌}
use Rattle.std.specs.Prelude.{Option, Some, None, if◌then◌else◌}
use Rattle.std.specs.Int.{int_max}
use Rattle.fixed_num.specs.Rounding.{rnd}
use Rattle.case_model.specs.declared.cases.Friction.{Friction}
use Rattle.case_model.specs.declared.points.Point.{Point}
use Rattle.case_model.specs.declared.points.Point.TheVariants.{Good, Bad}
use Rattle.case_model.specs.declared.meshes.Arrival.{Arrival}
use Rattle.case_model.specs.declared.meshes.CavityRule.{CavityRule}
use Rattle.case_model.specs.Range.{point_of}
use Rattle.charline.specs.Characteristics.{arrive_plus, arrive_minus, driven_flow}
use Rattle.charline.specs.Cavity.{cavity_volume}

-- the head at which the two characteristics meet: each value counts by the impedance of the other
unfoldable pub meeting_head : Arrival → Arrival → ℤ
meeting_head plus minus = rnd ((plus.c *ℤ minus.b) +ℤ (minus.c *ℤ plus.b)) (plus.b +ℤ minus.b)

-- the flow at which they meet
unfoldable pub meeting_flow : Arrival → Arrival → ℤ
meeting_flow plus minus = driven_flow (plus.c -ℤ minus.c) (plus.b +ℤ minus.b)

-- a place with one flow and no cavity
abbrev pub liquid : ℤ → ℤ → Point
liquid h q = point_of h q q (pos 0)

-- the flows on the two sides of a place that is held at a head
abbrev pub flow_before : ℤ → Arrival → ℤ
flow_before hv plus = driven_flow (plus.c -ℤ hv) plus.b

abbrev pub flow_after : ℤ → Arrival → ℤ
flow_after hv minus = driven_flow (hv -ℤ minus.c) minus.b

-- a cavity with this volume after the step: kept while the volume is positive, else closed
abbrev pub kept_or_closed : CavityRule → Arrival → Arrival → ℤ → Point
kept_or_closed rule plus minus volume =
    if int_lt (pos 0) volume
    then point_of rule.hv (flow_before rule.hv plus) (flow_after rule.hv minus) volume
    else liquid (int_max (meeting_head plus minus) rule.hv) (meeting_flow plus minus)

-- the growth of a cavity by the flows on its two sides
abbrev pub growth : ℤ → ℤ → ℤ
growth before after = after -ℤ before

-- a place with the volume and the growth of the step before, where both characteristics meet
unfoldable pub meet : CavityRule → Arrival → Arrival → ℤ → ℤ → Point
meet rule plus minus volume before =
    if (unsigned_abs volume == 0) && int_le rule.hv (meeting_head plus minus)
    then liquid (meeting_head plus minus) (meeting_flow plus minus)
    else kept_or_closed rule plus minus
    (cavity_volume rule volume before
    (growth (flow_before rule.hv plus) (flow_after rule.hv minus)))

-- the same, Bad where a characteristic is out of range
abbrev pub meet_if : CavityRule → Option Arrival → Option Arrival → ℤ → ℤ → Point
meet_if rule (Some plus) (Some minus) volume before = meet rule plus minus volume before
meet_if rule (Some plus) None volume before = Bad
meet_if rule None minus volume before = Bad

-- the interior law, of the neighbours' points and the place's own one step earlier: Bad where a
-- point that it reads is
unfoldable pub inner_point : Friction → CavityRule → ℤ → ℤ → Point → Point → Point → Point
inner_point friction rule b r left (Good h qu qd v) right =
    meet_if rule (arrive_plus friction b r left) (arrive_minus friction b r right) v (growth qu qd)
inner_point friction rule b r left Bad right = Bad
