-- Every point and state at step 0 is Good.
use Rattle.std.proofs.Common.{◌≡◌, ℕ, suc, ◌*◌, ◌<◌, ◌≤◌, ◌⊎◌, inl, inr, Bool, true, false, cond, int_lt, List, [], ◌∷◌, length, ℤ, pos, neg_ℤ, ◌+ℤ◌, ◌-ℤ◌, ◌*ℤ◌, ◌≤ℤ◌, ◌<ℤ◌, unsigned_abs, refl, ap, subst, sym, arith}
use Rattle.std.specs.List.{All}
use Rattle.std.proofs.Math.ListN.{get_or-eq_default}
use Rattle.std.proofs.lemmas.Int.{ints}
use Rattle.std.proofs.lemmas.Bool.{cases_lt}
use Rattle.std.proofs.lemmas.List.Elements.{recursion_from_All}
use Rattle.fixed_num.specs.Rounding.{half_up, rnd}
use Rattle.fixed_num.specs.Tables.{on_line, interp, IsBetween}
use Rattle.case_model.specs.declared.cases.Case.{Case}
use Rattle.case_model.specs.declared.cases.TableKind.TheVariants.{Heads, Gas}
use Rattle.case_model.specs.declared.cases.Value.{Value}
use Rattle.case_model.specs.declared.cases.Value.TheVariants.{Fixed, ByTable}
use Rattle.case_model.specs.declared.cases.NodeKind.{NodeKind}
use Rattle.case_model.specs.declared.cases.NodeKind.TheVariants.{Reservoir, Junction, Discharge, Inline, Pump, Tank, Vessel}
use Rattle.case_model.specs.declared.meshes.End.{End}
use Rattle.case_model.specs.declared.meshes.Mesh.{Mesh}
use Rattle.case_model.specs.Limits.{IsHead, IsKind, IsRead, IsTableOf, IsValue, IsVolume}
use Rattle.case_model.specs.Mesh.{reaches, ends_of}
use Rattle.case_model.specs.Parts.{node_at, no_node, pipe_at, no_pipe, table_at}
use Rattle.case_model.specs.Places.{is_bad, is_bad_state}
use Rattle.case_model.specs.Range.{InRange, InStateRange}
use Rattle.case_model.specs.RangeLaws.{point_of-good, state_of-good}
use Rattle.junctions.specs.Sums.{most_arrivals}
use Rattle.scheme.specs.Computable.{IsComputable}
use Rattle.scheme.specs.Laws.{meaning_of}
use Rattle.scheme.specs.Starts.{start_head, start_inflow, start_volume, start_growth, start_node, head_between, start_point}
use Rattle.scheme.specs.Values.{value_at}
use Rattle.scheme.proofs.Shares.{part_below, share_up, share_down}
use Rattle.scheme.proofs.TimeTables.{found}
use Rattle.fixed_num.proofs.Orders.{less_of, not_less_of}
use Rattle.fixed_num.proofs.Between.{interp_within, line_within}

-- ---- a part of the way between two numbers lies between them

up_between : (low high a b : ℤ) (k : ℕ) → IsBetween low high a → IsBetween low high b → pos 0 ≤ℤ (b -ℤ a) → k ≤ unsigned_abs (b -ℤ a) → IsBetween low high (a +ℤ pos k)
up_between low high a b k h i s m = let p = h.low in let q = i.high in record { low = omega (arith, ints); high = omega (arith, ints) }

down_between : (low high a b : ℤ) (k : ℕ) → IsBetween low high a → IsBetween low high b → (b -ℤ a) <ℤ pos 0 → k ≤ unsigned_abs (b -ℤ a) → IsBetween low high (a +ℤ neg_ℤ (pos k))
down_between low high a b k h i s m = let p = h.high in let q = i.low in record { low = omega (arith, ints); high = omega (arith, ints) }

sign_of : (x : ℤ) → (pos 0 ≤ℤ x) ⊎ (x <ℤ pos 0)
sign_of x = grind (arith, ints)

pub part_between : (low high a b : ℤ) (x d : ℕ) → IsBetween low high a → IsBetween low high b → 0 < d → x ≤ d → IsBetween low high (a +ℤ rnd ((b -ℤ a) *ℤ pos x) (pos d))
part_between low high a b x d h i some m = elim (sign_of (b -ℤ a)) [
  | inl s ↦ subst (λ (r : ℤ). IsBetween low high (a +ℤ r)) (sym (share_up (b -ℤ a) x d s)) (up_between low high a b (half_up (unsigned_abs (b -ℤ a) * x) d) h i s (part_below (unsigned_abs (b -ℤ a)) x d some m))
  | inr s ↦ subst (λ (r : ℤ). IsBetween low high (a +ℤ r)) (sym (share_down (b -ℤ a) x d s some)) (down_between low high a b (half_up (unsigned_abs (b -ℤ a) * x) d) h i s (part_below (unsigned_abs (b -ℤ a)) x d some m))
]

-- ---- and so does the value of a table

step_between : (low high : ℤ) (from to : ℤ × ℤ) (t rest : ℤ) (before first : Bool) → int_lt t to.0 ≡ before → int_lt t from.0 ≡ first → IsBetween low high from.1 → IsBetween low high to.1 → IsBetween low high rest
    → IsBetween low high (cond before (cond first from.1 (on_line from to t)) rest)
step_between low high from to t rest true true e f h i r = h
step_between low high from to t rest true false e f h i r = line_within low high from to t h i (not_less_of t from.0 f) (less_of t to.0 e)
step_between low high from to t rest false first e f h i r = r

sized : (x : ℤ) → IsHead x → IsBetween (neg_ℤ (pos 100_000_000_000)) (pos 100_000_000_000) x
sized x h = record { low = omega (arith, ints); high = omega (arith, ints) }

size_of : (x : ℤ) → IsBetween (neg_ℤ (pos 100_000_000_000)) (pos 100_000_000_000) x → IsHead x
size_of x h = let l = h.low in let m = h.high in omega (arith, ints)

interp_head : (points : List (ℤ × ℤ)) (t : ℤ) → 0 < length points → All (λ e. IsHead e.1) points → IsHead (interp points t)
interp_head points t some h =
    size_of _ (interp_within (neg_ℤ (pos 100_000_000_000)) (pos 100_000_000_000) points t some
    (recursion_from_All (λ e. IsBetween (neg_ℤ (pos 100_000_000_000)) (pos 100_000_000_000) e.1) points (λ k d l. sized _ (h k d l))))

-- ---- heads, volumes and inflows at the start

value_head : (case : Case) (v : Value) (step : ℕ) → IsRead case → IsValue IsHead Heads case.tables v → IsHead (value_at case v step)
unfolding value_at
value_head case (Fixed x) step read h = h
value_head case (ByTable t) step read h =
    let k = found case Heads t read h in interp_head (table_at case t).points _ (omega (arith, k.some)) (λ i d l. (k.entries i d l).1)

gas_head : (case : Case) (t : ℕ) (volume : ℤ) → IsRead case → IsTableOf Gas case.tables t → IsHead (interp (table_at case t).points volume)
gas_head case t volume read h =
    let k = found case Gas t read h in interp_head (table_at case t).points volume (omega (arith, k.some)) (λ i d l. (k.entries i d l).1)

either_head : (at_last : Bool) (start start2 : ℤ) → IsHead start → IsHead start2 → IsHead (cond at_last start start2)
either_head true start start2 h k = h
either_head false start start2 h k = k

start_head-in : (case : Case) (kind : NodeKind) (at_last : Bool) → IsRead case → IsKind case.tables kind → IsHead (start_head case kind at_last)
unfolding start_head
start_head-in case (Reservoir head) at_last read h = value_head case head 0 read h
start_head-in case (Junction demand start) at_last read h = h.1
start_head-in case (Discharge q0 h0 outlet opening start) at_last read h = h.3
start_head-in case (Inline q0 h0 opening start start2) at_last read h = either_head at_last start start2 h.2 h.3
start_head-in case (Pump curve speed start start2) at_last read h = either_head at_last start start2 h.2 h.3
start_head-in case (Tank area start) at_last read h = h.1
start_head-in case (Vessel gas volume) at_last read h = gas_head case gas volume read h.0

no_volume : IsVolume (pos 0)
no_volume = record { low = omega (arith, ints); high = omega (arith, ints) }

start_volume-in : (case : Case) (kind : NodeKind) → IsKind case.tables kind → IsVolume (start_volume kind)
start_volume-in case (Reservoir head) h = no_volume
start_volume-in case (Junction demand start) h = no_volume
start_volume-in case (Discharge q0 h0 outlet opening start) h = no_volume
start_volume-in case (Inline q0 h0 opening start start2) h = no_volume
start_volume-in case (Pump curve speed start start2) h = no_volume
start_volume-in case (Tank area start) h = no_volume
start_volume-in case (Vessel gas volume) h = h.1

flow_in : (case : Case) → IsRead case → (p : ℕ) → (p < length case.pipes) ⊎ (length case.pipes ≤ p) → unsigned_abs (pipe_at case p).flow ≤ 1_000_000_000_000
flow_in case read p (inl h) = let q = read.pipes p no_pipe h in q.flow
flow_in case read p (inr h) = rw (get_or-eq_default case.pipes no_pipe h) (omega arith)

pub along_size : (at_last : Bool) (q : ℤ) → unsigned_abs (cond at_last q (neg_ℤ q)) ≡ unsigned_abs q
along_size true q = refl
along_size false q = omega (arith, ints)

pub added : (x sum : ℤ) (n : ℕ) → unsigned_abs x ≤ 1_000_000_000_000 → unsigned_abs sum ≤ 1_000_000_000_000 * n → unsigned_abs (x +ℤ sum) ≤ 1_000_000_000_000 * suc n
added x sum n h k = omega (arith, ints)

inflow-in : (case : Case) (ends : List End) → IsRead case → unsigned_abs (start_inflow case ends) ≤ 1_000_000_000_000 * length ends
inflow-in case [] read = omega arith
inflow-in case (e ∷ ends) read =
    let f = flow_in case read e.pipe (cases_lt e.pipe (length case.pipes)) in
    let a = along_size e.at_last (pipe_at case e.pipe).flow in
    let r = inflow-in case ends read in
    let x = cond e.at_last (pipe_at case e.pipe).flow (neg_ℤ (pipe_at case e.pipe).flow) in
    added x (start_inflow case ends) (length ends) (omega (arith, a, f)) r

inflow_few : (case : Case) (ends : List End) → IsRead case → length ends ≤ most_arrivals → unsigned_abs (start_inflow case ends) ≤ 16_000_000_000_000
inflow_few case ends read h = omega (arith, inflow-in case ends read)

start_growth-in : (case : Case) (kind : NodeKind) (ends : List End) → IsRead case → length ends ≤ most_arrivals → unsigned_abs (start_growth case kind ends) ≤ 16_000_000_000_000
start_growth-in case (Reservoir head) ends read h = omega arith
start_growth-in case (Junction demand start) ends read h = omega arith
start_growth-in case (Discharge q0 h0 outlet opening start) ends read h = omega arith
start_growth-in case (Inline q0 h0 opening start start2) ends read h = omega arith
start_growth-in case (Pump curve speed start start2) ends read h = omega arith
start_growth-in case (Tank area start) ends read h = inflow_few case ends read h
start_growth-in case (Vessel gas volume) ends read h = inflow_few case ends read h

-- ---- the start

state_good : (h v g : ℤ) → IsHead h → IsVolume v → unsigned_abs g ≤ 16_000_000_000_000 → InStateRange h v g
state_good h v g a b c = let l = b.low in let m = b.high in record { head = a; low = l; volume = omega (arith, ints); growth = omega arith }

pub node_starts : (case : Case) (mesh : Mesh) → IsComputable case mesh → (k : ℕ) → k < length mesh.ends → is_bad_state (start_node case mesh k) ≡ false
unfolding start_node
node_starts case mesh fit k h =
    let n = fit.read.nodes k no_node (omega (arith, fit.nodes)) in
    let e = fit.ends k h in
    ap is_bad_state (state_of-good _ _ _ (state_good _ _ _ (start_head-in case (node_at case k).kind true fit.read n.kind) (start_volume-in case (node_at case k).kind n.kind)
    (start_growth-in case (node_at case k).kind (ends_of mesh k) fit.read e.few)))

head_at : (case : Case) → IsRead case → (k : ℕ) (at_last : Bool) → k < length case.nodes → IsHead (start_head case (node_at case k).kind at_last)
head_at case read k at_last h = let n = read.nodes k no_node h in start_head-in case (node_at case k).kind at_last read n.kind

between_heads : (first last : ℤ) (i n : ℕ) → IsHead first → IsHead last → 0 < n → i ≤ n → IsHead (head_between first last i n)
unfolding head_between
between_heads first last i n h k some m = size_of _ (part_between (neg_ℤ (pos 100_000_000_000)) (pos 100_000_000_000) first last i n (sized first h) (sized last k) some m)

point_good : (h q : ℤ) → IsHead h → unsigned_abs q ≤ 1_000_000_000_000 → InRange h q q (pos 0)
point_good h q a b = record { head = a; up = b; down = b; low = omega (arith, ints); volume = omega arith }

pub point_starts : (case : Case) (mesh : Mesh) → IsComputable case mesh → (p i : ℕ) → p < length mesh.pipes → i ≤ reaches mesh p → is_bad (start_point case mesh p i) ≡ false
unfolding start_point
point_starts case mesh fit p i h m =
    let l : p < length case.pipes = omega (arith, fit.pipes) in
    let j = fit.read.joins p no_pipe l in
    let long = fit.good.long p h in
    ap is_bad (point_of-good _ _ _ _ (point_good _ _ (between_heads _ _ i (reaches mesh p) (head_at case fit.read (pipe_at case p).first false j.first) (head_at case fit.read (pipe_at case p).last true j.last) (omega (arith, long)) m)
    (flow_in case fit.read p (inl l))))

pub mesh_of_law : (case : Case) (mesh : Mesh) → (meaning_of case mesh).mesh ≡ mesh
unfolding meaning_of
mesh_of_law case mesh = refl
