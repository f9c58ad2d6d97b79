-- Why a place or an end of a node is Bad: a point that it reads is, a characteristic that it reads
-- is out of range, or a head, flow or volume of its own leaves its range. The growth of a cavity is
-- no cause.
use Rattle.std.specs.Prelude.{◌≡◌, ◌<◌, ℕ, ℤ, pos, int_le, int_lt, unsigned_abs, ◌==◌, ◌&&◌, Bool}
use Rattle.std.specs.Prelude.{true, false, Option, Some, None, if◌then◌else◌, List, length}
use Rattle.std.specs.List.{AllByRecursion}
use Rattle.std.specs.Int.{int_max}
use Rattle.case_model.specs.declared.cases.Case.{Case}
use Rattle.case_model.specs.declared.cases.Friction.{Friction}
use Rattle.case_model.specs.declared.meshes.Arrival.{Arrival}
use Rattle.case_model.specs.declared.meshes.CavityRule.{CavityRule}
use Rattle.case_model.specs.declared.meshes.Mesh.{Mesh}
use Rattle.case_model.specs.declared.points.Point.{Point}
use Rattle.case_model.specs.declared.points.Point.TheVariants.{Good, Bad}
use Rattle.case_model.specs.declared.states.NodeState.{NodeState}
use Rattle.case_model.specs.Accepted.{IsAccepted}
use Rattle.case_model.specs.Places.{is_bad, is_bad_state}
use Rattle.case_model.specs.Range.{InRange}
use Rattle.charline.specs.Characteristics.{arrive_plus, arrive_minus}
use Rattle.charline.specs.Cavity.{cavity_volume}
use Rattle.charline.specs.Interior.{meeting_head, meeting_flow, flow_before, flow_after, growth}
use Rattle.charline.specs.Interior.{inner_point}
use Rattle.scheme.specs.NodeLaws.{node_law}

-- a result is Good exactly where what it needs holds
pub record IsGoodExactly (bad : Bool) (Needs : Type 0) : Type 0 where
  pub kept : Needs → bad ≡ false
  pub lost : (Needs → ⊥) → bad ≡ true

-- the numbers of a place, whatever their size: its head, the flows on both sides, its volume
pub record Numbers : Type 0 where
  pub head : ℤ
  pub up : ℤ
  pub down : ℤ
  pub volume : ℤ

abbrev pub AreInRange : Numbers → Type 0
AreInRange n = InRange n.head n.up n.down n.volume

-- a place with one flow and no cavity
abbrev pub liquid_numbers : ℤ → ℤ → Numbers
liquid_numbers h q = record { head = h; up = q; down = q; volume = pos 0 }

-- a place held at the vapour head, with this volume
abbrev pub held_numbers : ℤ → Arrival → Arrival → ℤ → Numbers
held_numbers hv plus minus volume =
    record { head = hv; up = flow_before hv plus; down = flow_after hv minus; volume = volume }

-- the numbers where both characteristics meet: of the liquid where no cavity was and its head is
-- not below the vapour head; else of the cavity while it has a volume, and of the liquid, at the
-- vapour head or above, where it has closed
abbrev pub after_cavity : CavityRule → Arrival → Arrival → ℤ → Numbers
after_cavity rule plus minus volume =
    if int_lt (pos 0) volume then held_numbers rule.hv plus minus volume
    else liquid_numbers (int_max (meeting_head plus minus) rule.hv) (meeting_flow plus minus)

unfoldable pub met_numbers : CavityRule → Arrival → Arrival → ℤ → ℤ → Numbers
met_numbers rule plus minus volume before =
    if (unsigned_abs volume == 0) && int_le rule.hv (meeting_head plus minus)
    then liquid_numbers (meeting_head plus minus) (meeting_flow plus minus)
    else after_cavity rule plus minus
    (cavity_volume rule volume before
    (growth (flow_before rule.hv plus) (flow_after rule.hv minus)))

-- what a place needs to be Good: both characteristics in range, of points that are Good, and
-- numbers in range
abbrev pub MeetingNeeds : CavityRule → Option Arrival → Option Arrival → ℤ → ℤ → Type 0
MeetingNeeds rule (Some plus) (Some minus) volume before =
    AreInRange (met_numbers rule plus minus volume before)
MeetingNeeds rule (Some plus) None volume before = ⊥
MeetingNeeds rule None minus volume before = ⊥

-- and a point of its own that was Good
abbrev pub PlaceNeeds : Friction → CavityRule → ℤ → ℤ → Point → Point → Point → Type 0
PlaceNeeds friction rule b r left (Good h qu qd v) right =
    MeetingNeeds rule (arrive_plus friction b r left) (arrive_minus friction b r right) v
    (growth qu qd)
PlaceNeeds friction rule b r left Bad right = ⊥

-- the range rule of places: Good exactly where they have what they need
abbrev pub PlacesHaveCauses : Type 0
PlacesHaveCauses =
    (friction : Friction) (rule : CavityRule) (b r : ℤ) (left own right : Point) →
    IsGoodExactly (is_bad (inner_point friction rule b r left own right))
    (PlaceNeeds friction rule b r left own right)

-- the ends of a node are Bad exactly where its state is
abbrev pub EndsFollow : NodeState × List Point → Type 0
EndsFollow r = AllByRecursion (λ p. is_bad p ≡ is_bad_state r.0) r.1

-- the range rule of ends, at each node of a case that division accepts
abbrev pub EndsHaveCauses : Type 0
EndsHaveCauses =
    (case : Case) (mesh : Mesh) → IsAccepted case mesh
    → (k step : ℕ) (own : NodeState) (near : List Point) →
    k < length mesh.ends → EndsFollow (node_law case mesh k step own near)
