-- What a case is whose numbers, counts, tables and references are within the limits of the case
-- text.
use Rattle.std.specs.Prelude.{◌≡◌, ◌<◌, ◌≤◌, ◌+◌, ◌⊎◌, ℕ, ℤ, pos, neg_ℤ, ◌≤ℤ◌, ◌<ℤ◌, ◌+ℤ◌}
use Rattle.std.specs.Prelude.{unsigned_abs, List, length, slice_index_or, All}
use Rattle.case_model.specs.declared.cases.Case.{Case}
use Rattle.case_model.specs.declared.cases.Friction.{Friction}
use Rattle.case_model.specs.declared.cases.Friction.TheVariants.{Explicit}
use Rattle.case_model.specs.declared.cases.Table.{Table}
use Rattle.case_model.specs.declared.cases.TheConstants.{MOST_PROBES}
use Rattle.case_model.specs.declared.cases.TableKind.{TableKind}
use Rattle.case_model.specs.declared.cases.TableKind.TheVariants.{Heads, Flows, Openings, Speeds}
use Rattle.case_model.specs.declared.cases.TableKind.TheVariants.{Curve, Gas}
use Rattle.case_model.specs.declared.cases.Value.{Value}
use Rattle.case_model.specs.declared.cases.Value.TheVariants.{Fixed, ByTable}
use Rattle.case_model.specs.declared.cases.Node.{Node}
use Rattle.case_model.specs.declared.cases.NodeKind.{NodeKind}
use Rattle.case_model.specs.declared.cases.NodeKind.TheVariants.{Reservoir, Junction, Discharge}
use Rattle.case_model.specs.declared.cases.NodeKind.TheVariants.{Inline, Pump, Tank, Vessel}
use Rattle.case_model.specs.declared.cases.Pipe.{Pipe}
use Rattle.case_model.specs.declared.cases.ProbeAt.{ProbeAt}
use Rattle.case_model.specs.declared.cases.ProbeAt.TheVariants.{OnPipe, OnNode}

-- a number between two limits, both allowed
pub record IsWithin (least most x : ℤ) : Type 0 where
  pub low : least ≤ℤ x
  pub high : x ≤ℤ most

-- a head or level, in 1e-6 m
abbrev pub IsHead : ℤ → Type 0
IsHead h = unsigned_abs h ≤ 100_000_000_000

-- a flow, in 1e-9 m3/s
abbrev pub IsFlow : ℤ → Type 0
IsFlow q = unsigned_abs q ≤ 1_000_000_000_000

-- a time in a table, in 1e-6 s
abbrev pub IsTime : ℤ → Type 0
IsTime t = IsWithin (pos 0) (pos 1_000_000_000_000) t

-- a volume, in 1e-9 m3
abbrev pub IsVolume : ℤ → Type 0
IsVolume v = IsWithin (pos 0) (pos 1_000_000_000_000_000) v

-- a pair of numbers of a table
abbrev pub IsEntry : TableKind → ℤ × ℤ → Type 0
IsEntry Heads e = IsTime e.0 × IsHead e.1
IsEntry Flows e = IsTime e.0 × IsFlow e.1
IsEntry Openings e = IsTime e.0 × IsWithin (pos 0) (pos 1_000_000) e.1
IsEntry Speeds e = IsTime e.0 × IsWithin (pos 0) (pos 2_000_000) e.1
IsEntry Curve e =
    IsWithin (pos 0) (pos 1_000_000_000_000) e.0 × IsWithin (pos 0) (pos 100_000_000_000) e.1
IsEntry Gas e = IsVolume e.0 × IsHead e.1

abbrev pub entry_at : List (ℤ × ℤ) → ℕ → ℤ × ℤ
entry_at points k = slice_index_or points k (pos 0, pos 0)

-- the first numbers rise by at least so much from pair to pair
abbrev pub RisesBy : ℤ → List (ℤ × ℤ) → Type 0
RisesBy least points =
    (k : ℕ) → k + 1 < length points
    → ((entry_at points k).0 +ℤ least) ≤ℤ (entry_at points (k + 1)).0

-- the second numbers strictly fall
abbrev pub Falls : List (ℤ × ℤ) → Type 0
Falls points =
    (k : ℕ) → k + 1 < length points → (entry_at points (k + 1)).1 <ℤ (entry_at points k).1

-- a table in order: times and volumes strictly rise; a curve begins at the flow 0, its flows rise
-- by at least 1e-6 m3/s and its rises strictly fall; the heads of a gas table strictly fall
abbrev pub IsInOrder : TableKind → List (ℤ × ℤ) → Type 0
IsInOrder Heads points = RisesBy (pos 1) points
IsInOrder Flows points = RisesBy (pos 1) points
IsInOrder Openings points = RisesBy (pos 1) points
IsInOrder Speeds points = RisesBy (pos 1) points
IsInOrder Curve points = ((entry_at points 0).0 ≡ pos 0) × RisesBy (pos 1_000) points × Falls points
IsInOrder Gas points = RisesBy (pos 1) points × Falls points

-- the least and the greatest count of pairs of a table
abbrev pub least_entries : TableKind → ℕ
least_entries Heads = 1
least_entries Flows = 1
least_entries Openings = 1
least_entries Speeds = 1
least_entries Curve = 2
least_entries Gas = 2

abbrev pub most_entries : TableKind → ℕ
most_entries Heads = 256
most_entries Flows = 256
most_entries Openings = 256
most_entries Speeds = 256
most_entries Curve = 32
most_entries Gas = 64

pub record IsTable (t : Table) : Type 0 where
  pub some : least_entries t.kind ≤ length t.points
  pub few : length t.points ≤ most_entries t.kind
  pub entries : All (IsEntry t.kind) t.points
  pub sorted : IsInOrder t.kind t.points

-- table number k is there, and of this kind
pub record IsTableOf (kind : TableKind) (tables : List Table) (k : ℕ) : Type 0 where
  pub there : k < length tables
  pub wanted : (d : Table) → (slice_index_or tables k d).kind ≡ kind

-- a fixed number with its limits, or a table of the kind
abbrev pub IsValue : (ℤ → Type 0) → TableKind → List Table → Value → Type 0
IsValue P kind tables (Fixed x) = P x
IsValue P kind tables (ByTable k) = IsTableOf kind tables k

-- what a valve has: flow when open and head loss at that flow
pub record IsValve (q0 h0 : ℤ) : Type 0 where
  pub flow : IsWithin (pos 0) (pos 1_000_000_000_000) q0
  pub loss : IsWithin (pos 10_000) (pos 100_000_000_000) h0

abbrev pub IsOpening : List Table → Value → Type 0
IsOpening tables v = IsValue (IsWithin (pos 0) (pos 1_000_000)) Openings tables v

abbrev pub IsKind : List Table → NodeKind → Type 0
IsKind tables (Reservoir head) = IsValue IsHead Heads tables head
IsKind tables (Junction demand start) = IsValue IsFlow Flows tables demand × IsHead start
IsKind tables (Discharge q0 h0 outlet opening start) =
    IsValve q0 h0 × IsHead outlet × IsOpening tables opening × IsHead start
IsKind tables (Inline q0 h0 opening start start2) =
    IsValve q0 h0 × IsOpening tables opening × IsHead start × IsHead start2
IsKind tables (Pump curve speed start start2) =
    IsTableOf Curve tables curve × IsValue (IsWithin (pos 0) (pos 2_000_000)) Speeds tables speed
    × IsHead start × IsHead start2
IsKind tables (Tank area start) = IsWithin (pos 1) (pos 1_000_000_000) area × IsHead start
IsKind tables (Vessel gas volume) = IsTableOf Gas tables gas × IsVolume volume

pub record IsNode (tables : List Table) (n : Node) : Type 0 where
  pub elevation : unsigned_abs n.elevation ≤ 10_000_000_000
  pub kind : IsKind tables n.kind

-- the numbers of a pipe
pub record IsPipe (p : Pipe) : Type 0 where
  pub length : IsWithin (pos 1) (pos 1_000_000_000) p.length
  pub diameter : IsWithin (pos 20) (pos 10_000) p.diameter
  pub speed : IsWithin (pos 10_000) (pos 2_000_000) p.speed
  pub friction : IsWithin (pos 0) (pos 500_000) p.friction
  pub flow : IsFlow p.flow

-- the nodes of a pipe, of so many
pub record IsJoined (nodes : ℕ) (p : Pipe) : Type 0 where
  pub first : p.first < nodes
  pub last : p.last < nodes

abbrev pub IsSpot : ℕ → ℕ → ProbeAt → Type 0
IsSpot pipes nodes (OnPipe pipe place) = (pipe < pipes) × (place ≤ 65_536)
IsSpot pipes nodes (OnNode node) = node < nodes

-- a version of the case text
abbrev pub IsVersion : ℕ → Type 0
IsVersion v = (v ≡ 1) ⊎ (v ≡ 2)

-- version 1 has explicit friction alone
abbrev pub AllowsFriction : ℕ → Friction → Type 0
AllowsFriction version friction = version ≡ 1 → friction ≡ Explicit

pub record IsRead (case : Case) : Type 0 where
  pub version : IsVersion case.version
  pub friction : AllowsFriction case.version case.friction
  pub dt : IsWithin (pos 1) (pos 1_000_000) case.dt
  pub some_steps : 1 ≤ case.steps
  pub few_steps : case.steps ≤ 100_000_000
  pub vapour : IsWithin (neg_ℤ (pos 100_000_000)) (pos 0) case.vapour
  pub weight : IsWithin (pos 5) (pos 10) case.weight
  pub tolerance : IsWithin (pos 0) (pos 500) case.tolerance
  pub some_every : 1 ≤ case.every
  pub few_every : case.every ≤ 100_000_000
  pub few_tables : length case.tables ≤ 1_024
  pub few_nodes : length case.nodes ≤ 4_096
  pub few_pipes : length case.pipes ≤ 4_096
  pub few_probes : length case.probes ≤ MOST_PROBES
  pub tables : All IsTable case.tables
  pub nodes : All (IsNode case.tables) case.nodes
  pub pipes : All IsPipe case.pipes
  pub joins : All (IsJoined (length case.nodes)) case.pipes
  pub spots : All (λ q. IsSpot (length case.pipes) (length case.nodes) q.at) case.probes
