-- The nodes that the lines of the written text say.
use Rattle.std.proofs.Common.{ℕ, ◌+◌, ◌<◌, ◌^◌, ◌≡◌, ℤ, pos, Some, List, [], ◌∷◌, length, ap, refl, arith}
use Rattle.std.proofs.lemmas.List.Elements.{All-weaker, recursion_from_All}
use Rattle.std.specs.List.{All, AllByRecursion, cons_option}
use Rattle.fixed_num.specs.Written.{written}
use Rattle.case_model.specs.declared.cases.Table.{Table}
use Rattle.case_model.specs.declared.cases.TableKind.{TableKind}
use Rattle.case_model.specs.declared.cases.TableKind.TheVariants.{Heads, Flows, Openings, Speeds}
use Rattle.case_model.specs.declared.cases.Value.{Value}
use Rattle.case_model.specs.declared.cases.Value.TheVariants.{Fixed, ByTable}
use Rattle.case_model.specs.declared.cases.Node.{Node}
use Rattle.case_model.specs.declared.cases.NodeKind.{NodeKind}
use Rattle.case_model.specs.declared.cases.NodeKind.TheVariants.{Reservoir as ReservoirKind, Junction as JunctionKind, Discharge as DischargeKind, Inline as InlineKind, Pump as PumpKind, Tank as TankKind, Vessel as VesselKind}
use Rattle.case_model.specs.Limits.{IsWithin, IsHead, IsFlow, IsValue, IsKind, IsNode, IsVolume}
use Rattle.case_lines.specs.declared.quantities.Quantity.{Quantity}
use Rattle.case_lines.specs.declared.quantities.Quantity.TheVariants.{Head, Flow, Opening, SpeedRatio, Volume, Elevation, ValveFlow, ValveLoss, Area}
use Rattle.case_lines.specs.Quantities.{limits}
use Rattle.case_writing.specs.CaseText.{name_of_table, value_text, kind_fields}
use Rattle.netfile.specs.Built.{table_index, value_said, kind_said, node_said, nodes_from, parts_from}
use Rattle.round_trip.specs.Lines.{node_line}
use Rattle.round_trip.specs.Renumbered.{nodes_on}
use Rattle.round_trip.proofs.Amounts.{IsSmall, amount_back, small_above, unmarked}
use Rattle.round_trip.proofs.Directives.{kind_word, of_node}
use Rattle.round_trip.proofs.InOrder.{numbered}

-- a number that reads back, or a table that is there
abbrev pub IsGiven : List Table → Value → Type 0
IsGiven tables (Fixed x) = IsSmall x
IsGiven tables (ByTable t) = t < length tables

pub given_value : (P : ℤ → Type 0) (kind : TableKind) (tables : List Table) (v : Value) → ((x : ℤ) → P x → IsSmall x) → IsValue P kind tables v → IsGiven tables v
given_value P kind tables (Fixed x) s h = s x h
given_value P kind tables (ByTable t) s h = h.there

-- the tables are found by their names among those that are read
pub record AreTablesFound (read tables : List Table) : Type 0 where
  pub index : (k : ℕ) → k < length tables → table_index read (name_of_table tables k) ≡ k

value_back : (read tables : List Table) (q : Quantity) (v : Value) → AreTablesFound read tables → IsGiven tables v → value_said read q (value_text (limits q).places tables v) ≡ v
unfolding value_said
value_back read tables q (Fixed x) f h = rw (unmarked (limits q).places x, amount_back q x h) refl
value_back read tables q (ByTable t) f h = ap ByTable (f.index t h)

pub head_small : (x : ℤ) → IsHead x → IsSmall x
head_small x h = omega arith

pub flow_small : (x : ℤ) → IsFlow x → IsSmall x
flow_small x h = omega arith

pub opening_small : (x : ℤ) → IsWithin (pos 0) (pos 1_000_000) x → IsSmall x
opening_small x h = small_above 0 1_000_000 (10 ^ 18) x h (omega arith)

pub ratio_small : (x : ℤ) → IsWithin (pos 0) (pos 2_000_000) x → IsSmall x
ratio_small x h = small_above 0 2_000_000 (10 ^ 18) x h (omega arith)

pub volume_small : (x : ℤ) → IsVolume x → IsSmall x
volume_small x h = small_above 0 1_000_000_000_000_000 (10 ^ 18) x h (omega arith)

pub loss_small : (x : ℤ) → IsWithin (pos 10_000) (pos 100_000_000_000) x → IsSmall x
loss_small x h = small_above 10_000 100_000_000_000 (10 ^ 18) x h (omega arith)

pub valve_small : (x : ℤ) → IsWithin (pos 0) (pos 1_000_000_000_000) x → IsSmall x
valve_small x h = small_above 0 1_000_000_000_000 (10 ^ 18) x h (omega arith)

pub area_small : (x : ℤ) → IsWithin (pos 1) (pos 1_000_000_000) x → IsSmall x
area_small x h = small_above 1 1_000_000_000 (10 ^ 18) x h (omega arith)

kind_back : (read tables : List Table) (word name level : List ℕ) (kind : NodeKind) → AreTablesFound read tables → IsKind tables kind → kind_said read (kind_word kind) (word ∷ name ∷ level ∷ kind_fields tables kind) ≡ kind
unfolding kind_said
kind_back read tables word name level (ReservoirKind head) f h = ap ReservoirKind (value_back read tables Head head f (given_value IsHead Heads tables head head_small h))
kind_back read tables word name level (JunctionKind demand start) f h =
    rw (value_back read tables Flow demand f (given_value IsFlow Flows tables demand flow_small h.0), amount_back Head start (head_small start h.1)) refl
kind_back read tables word name level (DischargeKind q0 h0 outlet opening start) f h =
    rw (
      amount_back ValveFlow q0 (valve_small q0 h.0.flow),
      amount_back ValveLoss h0 (loss_small h0 h.0.loss),
      amount_back Head outlet (head_small outlet h.1),
      value_back read tables Opening opening f (given_value (IsWithin (pos 0) (pos 1_000_000)) Openings tables opening opening_small h.2),
      amount_back Head start (head_small start h.3),
    ) refl
kind_back read tables word name level (InlineKind q0 h0 opening start start2) f h =
    rw (
      amount_back ValveFlow q0 (valve_small q0 h.0.flow),
      amount_back ValveLoss h0 (loss_small h0 h.0.loss),
      value_back read tables Opening opening f (given_value (IsWithin (pos 0) (pos 1_000_000)) Openings tables opening opening_small h.1),
      amount_back Head start (head_small start h.2),
      amount_back Head start2 (head_small start2 h.3),
    ) refl
kind_back read tables word name level (PumpKind curve speed start start2) f h =
    rw (
      f.index curve h.0.there,
      value_back read tables SpeedRatio speed f (given_value (IsWithin (pos 0) (pos 2_000_000)) Speeds tables speed ratio_small h.1),
      amount_back Head start (head_small start h.2),
      amount_back Head start2 (head_small start2 h.3),
    ) refl
kind_back read tables word name level (TankKind area start) f h =
    rw (amount_back Area area (area_small area h.0), amount_back Head start (head_small start h.1)) refl
kind_back read tables word name level (VesselKind gas volume) f h =
    rw (f.index gas h.0.there, amount_back Volume volume (volume_small volume h.1)) refl

-- a node on its line
abbrev pub node_on : ℕ → Node → Node
node_on line n = record n { line = line }

node_back : (read tables : List Table) (n : Node) → AreTablesFound read tables → IsNode tables n → (line : ℕ) → node_said read line (node_line tables n) ≡ Some (node_on line n)
unfolding node_said node_line
node_back read tables n f h line =
    rw (of_node tables n, amount_back Elevation n.elevation (let e = h.elevation in omega arith), kind_back read tables _ n.name (written 6 n.elevation) n.kind f h.kind) refl

pub nodes_in_order : (tables : List Table) (line : ℕ) (lines : List (List (List ℕ))) → nodes_from tables line lines ≡ parts_from (node_said tables) line lines
nodes_in_order tables line [] = refl
nodes_in_order tables line (fields ∷ lines) = ap (λ (ns : List Node). cons_option (node_said tables line fields) ns) (nodes_in_order tables (line + 1) lines)

pub nodes_numbered : (line : ℕ) (ns : List Node) → numbered node_on line ns ≡ nodes_on line ns
nodes_numbered line [] = refl
nodes_numbered line (n ∷ ns) = ap (λ (us : List Node). node_on line n ∷ us) (nodes_numbered (line + 1) ns)

pub each_node : (read tables : List Table) (ns : List Node) → AreTablesFound read tables → All (IsNode tables) ns → AllByRecursion (λ n. (line : ℕ) → node_said read line (node_line tables n) ≡ Some (node_on line n)) ns
each_node read tables ns f h =
    let P = λ (n : Node). (line : ℕ) → node_said read line (node_line tables n) ≡ Some (node_on line n) in
    recursion_from_All P ns (All-weaker (IsNode tables) P (λ n k. node_back read tables n f k) ns h)
