-- What a law relies on holds in one way at most.
use Rattle.std.proofs.Common.{◌≡◌, ℕ, ℤ, pos, inl, inr, ap, List, arith}
use Rattle.std.proofs.Props.{props}
use Rattle.case_model.specs.declared.cases.Case.{Case}
use Rattle.case_model.specs.declared.cases.Node.{Node}
use Rattle.case_model.specs.declared.cases.Table.{Table}
use Rattle.case_model.specs.declared.cases.TableKind.{TableKind}
use Rattle.case_model.specs.declared.cases.TableKind.TheVariants.{Heads, Flows, Openings, Speeds}
use Rattle.case_model.specs.declared.cases.TableKind.TheVariants.{Curve, Gas}
use Rattle.case_model.specs.declared.cases.Value.{Value}
use Rattle.case_model.specs.declared.cases.Value.TheVariants.{Fixed, ByTable}
use Rattle.case_model.specs.declared.cases.NodeKind.{NodeKind}
use Rattle.case_model.specs.declared.cases.NodeKind.TheVariants.{Reservoir, Junction, Discharge}
use Rattle.case_model.specs.declared.cases.NodeKind.TheVariants.{Inline, Pump, Tank, Vessel}
use Rattle.case_model.specs.declared.cases.ProbeAt.{ProbeAt}
use Rattle.case_model.specs.declared.cases.ProbeAt.TheVariants.{OnPipe, OnNode}
use Rattle.case_model.specs.declared.meshes.End.{End}
use Rattle.case_model.specs.declared.meshes.Mesh.{Mesh}
use Rattle.case_model.specs.Limits.{IsOpening}
use Rattle.case_model.specs.Limits.{IsHead, IsFlow, IsWithin, IsEntry, IsInOrder, IsTable}
use Rattle.case_model.specs.Limits.{IsTableOf, IsValue, IsKind, IsNode, IsSpot, IsVersion, IsRead}
use Rattle.scheme.specs.declared.prepared.PreparedPipe.{PreparedPipe}
use Rattle.scheme.specs.declared.prepared.PreparedPipe.TheVariants.{Explicit, Linear, Wide}
use Rattle.scheme.specs.Computable.{Suits, HasEnds, IsComputable}
use Rattle.scheme.specs.Runs.{IsPreparedFor, ArePrepared}

IsWithin-prop : (low high x : ℤ) → IsProp (IsWithin low high x)
IsWithin-prop low high x = Prim.hlevel props

IsEntry-prop : (kind : TableKind) (e : ℤ × ℤ) → IsProp (IsEntry kind e)
IsEntry-prop Heads e = Prim.hlevel props
IsEntry-prop Flows e = Prim.hlevel props
IsEntry-prop Openings e = Prim.hlevel props
IsEntry-prop Speeds e = Prim.hlevel props
IsEntry-prop Curve e = Prim.hlevel props
IsEntry-prop Gas e = Prim.hlevel props

IsInOrder-prop : (kind : TableKind) (points : List (ℤ × ℤ)) → IsProp (IsInOrder kind points)
IsInOrder-prop Heads points = Prim.hlevel props
IsInOrder-prop Flows points = Prim.hlevel props
IsInOrder-prop Openings points = Prim.hlevel props
IsInOrder-prop Speeds points = Prim.hlevel props
IsInOrder-prop Curve points = Prim.hlevel props
IsInOrder-prop Gas points = Prim.hlevel props

IsTable-prop : (t : Table) → IsProp (IsTable t)
IsTable-prop t = Prim.hlevel (props, IsEntry-prop, IsInOrder-prop)

IsTableOf-prop : (kind : TableKind) (tables : List Table) (k : ℕ) → IsProp (IsTableOf kind tables k)
IsTableOf-prop kind tables k = Prim.hlevel props

IsValue-prop : (P : ℤ → Type 0) → ((x : ℤ) → IsProp (P x))
    → (kind : TableKind) (tables : List Table) (v : Value) → IsProp (IsValue P kind tables v)
IsValue-prop P h kind tables (Fixed x) = h x
IsValue-prop P h kind tables (ByTable k) = IsTableOf-prop kind tables k

IsHead-prop : (x : ℤ) → IsProp (IsHead x)
IsHead-prop x = Prim.hlevel props

IsFlow-prop : (x : ℤ) → IsProp (IsFlow x)
IsFlow-prop x = Prim.hlevel props

IsOpening-prop : (tables : List Table) (v : Value) → IsProp (IsOpening tables v)
IsOpening-prop tables v =
    let within = IsWithin-prop (pos 0) (pos 1_000_000) in
    IsValue-prop (IsWithin (pos 0) (pos 1_000_000)) within Openings tables v

IsSpeed-prop : (tables : List Table) (v : Value)
    → IsProp (IsValue (IsWithin (pos 0) (pos 2_000_000)) Speeds tables v)
IsSpeed-prop tables v =
    let within = IsWithin-prop (pos 0) (pos 2_000_000) in
    IsValue-prop (IsWithin (pos 0) (pos 2_000_000)) within Speeds tables v

IsKind-prop : (tables : List Table) (kind : NodeKind) → IsProp (IsKind tables kind)
IsKind-prop tables (Reservoir head) = IsValue-prop IsHead IsHead-prop Heads tables head
IsKind-prop tables (Junction demand start) =
    let v = IsValue-prop IsFlow IsFlow-prop Flows tables demand in Prim.hlevel (props, v)
IsKind-prop tables (Discharge q0 h0 outlet opening start) =
    let v = IsOpening-prop tables opening in Prim.hlevel (props, v)
IsKind-prop tables (Inline q0 h0 opening start start2) =
    let v = IsOpening-prop tables opening in Prim.hlevel (props, v)
IsKind-prop tables (Pump curve speed start start2) =
    let v = IsSpeed-prop tables speed in Prim.hlevel (props, v)
IsKind-prop tables (Tank area start) = Prim.hlevel props
IsKind-prop tables (Vessel gas volume) = Prim.hlevel props

IsNode-prop : (tables : List Table) (n : Node) → IsProp (IsNode tables n)
IsNode-prop tables n = Prim.hlevel (props, IsKind-prop)

IsSpot-prop : (pipes nodes : ℕ) (at : ProbeAt) → IsProp (IsSpot pipes nodes at)
IsSpot-prop pipes nodes (OnPipe pipe place) = Prim.hlevel props
IsSpot-prop pipes nodes (OnNode node) = Prim.hlevel props

one_version : (v n : ℕ) → IsProp (v ≡ n)
one_version v n = Prim.hlevel props

IsVersion-prop : (v : ℕ) → IsProp (IsVersion v)
IsVersion-prop v (inl p) (inl q) = ap inl (one_version v 1 p q)
IsVersion-prop v (inl p) (inr q) = absurd (omega arith)
IsVersion-prop v (inr p) (inl q) = absurd (omega arith)
IsVersion-prop v (inr p) (inr q) = ap inr (one_version v 2 p q)

IsRead-prop : (case : Case) → IsProp (IsRead case)
IsRead-prop case = Prim.hlevel (props, IsVersion-prop, IsTable-prop, IsNode-prop, IsSpot-prop)

Suits-prop : (kind : NodeKind) (ends : List End) → IsProp (Suits kind ends)
Suits-prop (Reservoir head) ends = Prim.hlevel props
Suits-prop (Junction demand start) ends = Prim.hlevel props
Suits-prop (Discharge q0 h0 outlet opening start) ends = Prim.hlevel props
Suits-prop (Inline q0 h0 opening start start2) ends = Prim.hlevel props
Suits-prop (Pump curve speed start start2) ends = Prim.hlevel props
Suits-prop (Tank area start) ends = Prim.hlevel props
Suits-prop (Vessel gas volume) ends = Prim.hlevel props

HasEnds-prop : (kind : NodeKind) (ends : List End) → IsProp (HasEnds kind ends)
HasEnds-prop kind ends = Prim.hlevel (props, Suits-prop)

pub IsComputable-prop : (case : Case) (mesh : Mesh) → IsProp (IsComputable case mesh)
IsComputable-prop case mesh = Prim.hlevel (props, IsRead-prop, HasEnds-prop)

IsPreparedFor-prop : (case : Case) (mesh : Mesh) (p : ℕ) (x : PreparedPipe)
    → IsProp (IsPreparedFor case mesh p x)
IsPreparedFor-prop case mesh p (Explicit x) = Prim.hlevel props
IsPreparedFor-prop case mesh p Linear = Prim.hlevel props
IsPreparedFor-prop case mesh p Wide = Prim.hlevel props

pub ArePrepared-prop : (case : Case) (mesh : Mesh) (table : List PreparedPipe)
    → IsProp (ArePrepared case mesh table)
ArePrepared-prop case mesh table = Prim.hlevel (props, IsPreparedFor-prop)
