-- The range rule of places: the point that the law gives is that of its numbers.
use Rattle.std.proofs.Common.{◌≡◌, ℤ, pos, int_le, int_lt, unsigned_abs, ◌==◌, ◌&&◌, Bool, true, false, cond, Option, Some, None, refl, ap, subst, sym, ◌∙◌}
use Rattle.std.specs.Int.{int_max}
use Rattle.case_model.specs.declared.meshes.Arrival.{Arrival}
use Rattle.case_model.specs.declared.meshes.CavityRule.{CavityRule}
use Rattle.case_model.specs.declared.points.Point.{Point}
use Rattle.case_model.specs.declared.points.Point.TheVariants.{Good, Bad}
use Rattle.case_model.specs.Places.{is_bad}
use Rattle.case_model.specs.Range.{point_of}
use Rattle.case_model.specs.RangeLaws.{point_of-good, point_of-bad}
use Rattle.charline.specs.Characteristics.{arrive_plus, arrive_minus}
use Rattle.charline.specs.Cavity.{cavity_volume}
use Rattle.charline.specs.Interior.{meeting_head, meeting_flow, flow_before, flow_after, growth, kept_or_closed, meet, meet_if, inner_point}
use Rattle.scheme.specs.Causes.{IsGoodExactly, Numbers, AreInRange, liquid_numbers, held_numbers, after_cavity, met_numbers, MeetingNeeds, PlacesHaveCauses}

abbrev point_with : Numbers → Point
point_with n = point_of n.head n.up n.down n.volume

chosen : (b : Bool) (x y : Numbers) → cond b (point_with x) (point_with y) ≡ point_with (cond b x y)
chosen true x y = refl
chosen false x y = refl

after-is : (rule : CavityRule) (plus minus : Arrival) (volume : ℤ) → kept_or_closed rule plus minus volume ≡ point_with (after_cavity rule plus minus volume)
after-is rule plus minus volume =
    chosen (int_lt (pos 0) volume) (held_numbers rule.hv plus minus volume)
    (liquid_numbers (int_max (meeting_head plus minus) rule.hv) (meeting_flow plus minus))

meet-is : (rule : CavityRule) (plus minus : Arrival) (volume before : ℤ) → meet rule plus minus volume before ≡ point_with (met_numbers rule plus minus volume before)
unfolding meet met_numbers
meet-is rule plus minus volume before =
    let b = (unsigned_abs volume == 0) && int_le rule.hv (meeting_head plus minus) in
    let liquid = liquid_numbers (meeting_head plus minus) (meeting_flow plus minus) in
    let after = cavity_volume rule volume before (growth (flow_before rule.hv plus) (flow_after rule.hv minus)) in
    ap (λ (p : Point). cond b (point_with liquid) p) (after-is rule plus minus after)
    ∙ chosen b liquid (after_cavity rule plus minus after)

judged : (n : Numbers) → IsGoodExactly (is_bad (point_with n)) (AreInRange n)
judged n = record {
  kept = λ r. ap is_bad (point_of-good n.head n.up n.down n.volume r);
  lost = λ out. ap is_bad (point_of-bad n.head n.up n.down n.volume out);
}

meeting : (rule : CavityRule) (plus minus : Option Arrival) (volume before : ℤ) → IsGoodExactly (is_bad (meet_if rule plus minus volume before)) (MeetingNeeds rule plus minus volume before)
meeting rule (Some plus) (Some minus) volume before =
    let n = met_numbers rule plus minus volume before in
    subst (λ (p : Point). IsGoodExactly (is_bad p) (AreInRange n)) (sym (meet-is rule plus minus volume before)) (judged n)
meeting rule (Some plus) None volume before = record { kept = λ r. absurd r; lost = λ out. refl }
meeting rule None minus volume before = record { kept = λ r. absurd r; lost = λ out. refl }

pub places : PlacesHaveCauses
unfolding inner_point
places friction rule b r left (Good h qu qd v) right =
    meeting rule (arrive_plus friction b r left) (arrive_minus friction b r right) v (growth qu qd)
places friction rule b r left Bad right = record { kept = λ n. absurd n; lost = λ out. refl }
