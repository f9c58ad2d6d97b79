-- Samples of probes, and envelopes of places, over the rows of a law.
use Rattle.std.specs.Prelude.{◌≡◌, ◌≢◌, ℕ, ◌<◌, ◌≤◌, ◌%◌, ◌==◌, ◌&&◌, nat_le, ℤ, pos, ◌≤ℤ◌, Option}
use Rattle.std.specs.Prelude.{Some, None, IfSome, if◌then◌else◌}
use Rattle.case_model.specs.declared.cases.Case.{Case}
use Rattle.case_model.specs.declared.cases.ProbeAt.{ProbeAt}
use Rattle.case_model.specs.declared.cases.ProbeAt.TheVariants.{OnPipe, OnNode}
use Rattle.case_model.specs.declared.points.Point.{Point}
use Rattle.case_model.specs.declared.points.Point.TheVariants.{Good, Bad}
use Rattle.case_model.specs.declared.states.NodeState.{NodeState}
use Rattle.case_model.specs.declared.states.NodeState.TheVariants.{Good as GoodState}
use Rattle.case_model.specs.declared.states.NodeState.TheVariants.{Bad as BadState}
use Rattle.case_model.specs.Meaning.{Meaning}
use Rattle.case_model.specs.Rows.{Row, row}

-- what is kept of a place at a step: head in 1e-6 m, flows in 1e-9 m3/s, volume in 1e-9 m3
pub record Sample : Type 0 where
  pub h : ℤ
  pub qu : ℤ
  pub qd : ℤ
  pub v : ℤ

abbrev pub point_sample : Point → Option Sample
point_sample (Good h qu qd v) = Some (record { h = h; qu = qu; qd = qd; v = v })
point_sample Bad = None

-- of a node the upstream flow is 0 and the downstream one its growth
abbrev pub node_sample : NodeState → Option Sample
node_sample (GoodState h v g) = Some (record { h = h; qu = pos 0; qd = g; v = v })
node_sample BadState = None

-- what a row has at a place of a pipe, or at a node
abbrev pub taken_at : Row → ProbeAt → Option Sample
taken_at row (OnPipe pipe place) = point_sample (row.point pipe place)
taken_at row (OnNode node) = node_sample (row.state node)

-- the sample of a probe: at the steps 0, every, 2*every .. up to the last
unfoldable pub sample : Meaning → Case → ProbeAt → ℕ → Option Sample
sample law case at step =
    if (step % case.every == 0) && nat_le step case.steps then taken_at (row law step) at else None

abbrev pub head_of : Option Sample → Option ℤ
head_of (Some s) = Some s.h
head_of None = None

abbrev pub volume_of : Option Sample → Option ℤ
volume_of (Some s) = Some s.v
volume_of None = None

-- the head, and the volume, of a place at each step
abbrev pub head_at : Meaning → ProbeAt → ℕ → Option ℤ
head_at law at step = head_of (taken_at (row law step) at)

abbrev pub volume_at : Meaning → ProbeAt → ℕ → Option ℤ
volume_at law at step = volume_of (taken_at (row law step) at)

-- a value that stands at a step up to the last and is passed at none of them; the first step at
-- which it stands
pub record IsGreatest (value : ℕ → Option ℤ) (last : ℕ) (most : ℤ) (step : ℕ) : Type 0 where
  pub within : step ≤ last
  pub stands : value step ≡ Some most
  pub bound : (s : ℕ) → s ≤ last → IfSome (value s) (λ x. x ≤ℤ most)
  pub first : (s : ℕ) → s < step → value s ≢ Some most

-- the same with no lesser value at any of them
pub record IsSmallest (value : ℕ → Option ℤ) (last : ℕ) (least : ℤ) (step : ℕ) : Type 0 where
  pub within : step ≤ last
  pub stands : value step ≡ Some least
  pub bound : (s : ℕ) → s ≤ last → IfSome (value s) (λ x. least ≤ℤ x)
  pub first : (s : ℕ) → s < step → value s ≢ Some least

-- the envelope of a place over the steps 0 to the last
pub record IsEnvelope (law : Meaning) (at : ProbeAt) (last : ℕ) (max : ℤ) (max_step : ℕ) (min : ℤ)
    (min_step : ℕ) (volume : ℤ) (volume_step : ℕ) : Type 0 where
  pub greatest_head : IsGreatest (head_at law at) last max max_step
  pub least_head : IsSmallest (head_at law at) last min min_step
  pub greatest_volume : IsGreatest (volume_at law at) last volume volume_step
