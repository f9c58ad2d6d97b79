-- The lines of the parts of a written case break no rule by themselves.
use Rattle.std.proofs.Common.{inl, inr, ℕ, zero, suc, ◌+◌, ◌-◌, ◌*◌, ◌/◌, ◌%◌, ◌<◌, ◌≤◌, ◌≡◌, ◌⊎◌, ◌==◌, nat_le, Bool, true, false, ℤ, pos, Some, List, [], ◌∷◌, ◌++◌, length, get_or, subst, sym, refl, arith}
use Rattle.std.proofs.lemmas.Bool.{and_from, eq-eqb, ne_eqb, le-leb, le-ltb, cases_eq}
use Rattle.std.proofs.lemmas.Bool.Decides.{Decides-int_eq}
use Rattle.std.proofs.lemmas.Int.{ints}
use Rattle.std.specs.List.{flat_map, list_all, range_with_len, All}
use Rattle.fixed_num.specs.Written.{written}
use Rattle.case_model.specs.declared.cases.Case.{Case}
use Rattle.case_model.specs.declared.cases.Table.{Table}
use Rattle.case_model.specs.declared.cases.TableKind.{TableKind}
use Rattle.case_model.specs.declared.cases.TableKind.TheVariants.{Heads, Flows, Openings, Speeds, Curve, Gas}
use Rattle.case_model.specs.declared.cases.Node.{Node}
use Rattle.case_model.specs.declared.cases.NodeKind.{NodeKind}
use Rattle.case_model.specs.declared.cases.NodeKind.TheVariants.{Reservoir as ReservoirKind, Junction as JunctionKind, Discharge as DischargeKind, Inline as InlineKind, Pump as PumpKind, Tank as TankKind, Vessel as VesselKind}
use Rattle.case_model.specs.declared.cases.Pipe.{Pipe}
use Rattle.case_model.specs.declared.cases.Probe.{Probe}
use Rattle.case_model.specs.declared.cases.ProbeAt.{ProbeAt}
use Rattle.case_model.specs.declared.cases.ProbeAt.TheVariants.{OnPipe, OnNode}
use Rattle.case_model.specs.Limits.{IsWithin, IsHead, IsFlow, IsEntry, IsInOrder, entry_at, least_entries, most_entries, IsTable, IsKind, IsNode, IsPipe, IsJoined, IsSpot}
use Rattle.case_lines.specs.declared.words.NodeWord.{NodeWord}
use Rattle.case_lines.specs.declared.words.Directive.{Directive}
use Rattle.case_lines.specs.declared.words.Directive.TheVariants.{OfTable, OfNode, OfPipe}
use Rattle.case_lines.specs.declared.quantities.Quantity.TheVariants.{Time, Head, Flow, Opening, SpeedRatio, CurveFlow, CurveRise, Volume, Elevation, ValveFlow, ValveLoss, Area, Length, Diameter, WaveSpeed, FrictionFactor, PipePlace}
use Rattle.case_lines.specs.declared.fields.FieldKind.{FieldKind}
use Rattle.case_lines.specs.declared.fields.FieldKind.TheVariants.{NewName, NodeName, Number}
use Rattle.case_lines.specs.Fields.{field, first_quantity, second_quantity, node_fields, pipe_fields, probe_fields, field_kind, has_count, has_too_many}
use Rattle.case_lines.specs.Words.{has_directive}
use Rattle.case_lines.specs.Tables.{rises, falls, may_follow, may_begin, follow, is_ordered, is_disordered}
use Rattle.case_rules.specs.Said.{version_of, directive_said}
use Rattle.surge_io.specs.Fields.{count_text}
use Rattle.case_writing.specs.CaseText.{name_of_node, name_of_pipe, first_places, second_places, entry_fields, kind_fields, pipe_names, pipe_numbers, spot_fields}
use Rattle.round_trip.specs.Lines.{table_line, node_line, pipe_line, probe_line}
use Rattle.round_trip.specs.Writable.{IsNameText}
use Rattle.round_trip.proofs.Directives.{kind_word, spot_directive, of_table, of_node, of_pipe, of_probe}
use Rattle.round_trip.proofs.TablesBack.{first_field, second_field, length_pairs, pair_back, pairs_counted}
use Rattle.round_trip.proofs.FieldsFit.{IsFit, AreKnown, IsAmount, new_fit, node_fit, pipe_fit, reference_fit, amount_fit, value_fit, above, sized}
use Rattle.netfile.proofs.TableLimits.{least_some}
use Rattle.fixed_num.proofs.Orders.{at_most_at, less_at}

-- a line that breaks no rule by itself, and whose fields name what is there
pub record IsFitLine (all : List (List (List ℕ))) (d : Directive) (fields : List (List ℕ)) : Type 0 where
  pub directive_said : directive_said fields ≡ Some d
  pub allowed : has_directive (version_of all) d ≡ true
  pub some : 0 < length fields
  pub count : has_count d (length fields) ≡ true
  pub few : has_too_many d (length fields) ≡ false
  pub ordered : is_disordered d fields ≡ false
  pub fit : (k : ℕ) → 1 ≤ k → k < length fields → IsFit all (field_kind d k) (field fields k)

-- fields that fit kinds, one by one
abbrev AreFit : List (List (List ℕ)) → List FieldKind → List (List ℕ) → Type 0
AreFit all [] [] = Unit {0}
AreFit all [] (text ∷ texts) = ⊥
AreFit all (kind ∷ kinds) [] = ⊥
AreFit all (kind ∷ kinds) (text ∷ texts) = IsFit all kind text × AreFit all kinds texts

fit_at : (all : List (List (List ℕ))) (kinds : List FieldKind) (texts : List (List ℕ)) (k : ℕ) → AreFit all kinds texts → k < length texts → IsFit all (get_or kinds k NewName) (get_or texts k [])
fit_at all [] [] k f l = absurd (omega arith)
fit_at all [] (text ∷ texts) k f l = absurd f
fit_at all (kind ∷ kinds) [] k f l = absurd f
fit_at all (kind ∷ kinds) (text ∷ texts) zero f l = f.0
fit_at all (kind ∷ kinds) (text ∷ texts) (suc k) f l = fit_at all kinds texts k f.1 (omega arith)

fit_count : (all : List (List (List ℕ))) (kinds : List FieldKind) (texts : List (List ℕ)) → AreFit all kinds texts → length texts ≡ length kinds
fit_count all [] [] f = refl
fit_count all [] (text ∷ texts) f = absurd f
fit_count all (kind ∷ kinds) [] f = absurd f
fit_count all (kind ∷ kinds) (text ∷ texts) f = omega (arith, fit_count all kinds texts f.1)

-- the amounts of nodes and pipes
head_amount : (x : ℤ) → IsHead x → IsAmount Head x
head_amount x h = sized Head 100_000_000_000 x refl refl (omega arith) h

flow_amount : (x : ℤ) → IsFlow x → IsAmount Flow x
flow_amount x h = sized Flow 1_000_000_000_000 x refl refl (omega arith) h

opening_amount : (x : ℤ) → IsWithin (pos 0) (pos 1_000_000) x → IsAmount Opening x
opening_amount x h = above Opening 0 1_000_000 x refl refl (omega arith) h

ratio_amount : (x : ℤ) → IsWithin (pos 0) (pos 2_000_000) x → IsAmount SpeedRatio x
ratio_amount x h = above SpeedRatio 0 2_000_000 x refl refl (omega arith) h

valve_flow : (x : ℤ) → IsWithin (pos 0) (pos 1_000_000_000_000) x → IsAmount ValveFlow x
valve_flow x h = above ValveFlow 0 1_000_000_000_000 x refl refl (omega arith) h

valve_loss : (x : ℤ) → IsWithin (pos 10_000) (pos 100_000_000_000) x → IsAmount ValveLoss x
valve_loss x h = above ValveLoss 10_000 100_000_000_000 x refl refl (omega arith) h

-- what a node has behind its elevation
kind_fit : (all : List (List (List ℕ))) (case : Case) (kind : NodeKind) → AreKnown all case → IsKind case.tables kind → AreFit all (node_fields (kind_word kind)) (kind_fields case.tables kind)
kind_fit all case (ReservoirKind head) a h = (value_fit all case Head Heads IsHead head a head_amount h, tt)
kind_fit all case (JunctionKind demand start) a h = (value_fit all case Flow Flows IsFlow demand a flow_amount h.0, (amount_fit all Head start (head_amount start h.1), tt))
kind_fit all case (DischargeKind q0 h0 outlet opening start) a h = (
  amount_fit all ValveFlow q0 (valve_flow q0 h.0.flow),
  (
    amount_fit all ValveLoss h0 (valve_loss h0 h.0.loss),
    (
      amount_fit all Head outlet (head_amount outlet h.1),
      (value_fit all case Opening Openings (IsWithin (pos 0) (pos 1_000_000)) opening a opening_amount h.2, (amount_fit all Head start (head_amount start h.3), tt)),
    ),
  ),
)
kind_fit all case (InlineKind q0 h0 opening start start2) a h = (
  amount_fit all ValveFlow q0 (valve_flow q0 h.0.flow),
  (
    amount_fit all ValveLoss h0 (valve_loss h0 h.0.loss),
    (
      value_fit all case Opening Openings (IsWithin (pos 0) (pos 1_000_000)) opening a opening_amount h.1,
      (amount_fit all Head start (head_amount start h.2), (amount_fit all Head start2 (head_amount start2 h.3), tt)),
    ),
  ),
)
kind_fit all case (PumpKind curve speed start start2) a h = (
  reference_fit all case Curve curve a h.0,
  (
    value_fit all case SpeedRatio Speeds (IsWithin (pos 0) (pos 2_000_000)) speed a ratio_amount h.1,
    (amount_fit all Head start (head_amount start h.2), (amount_fit all Head start2 (head_amount start2 h.3), tt)),
  ),
)
kind_fit all case (TankKind area start) a h =
    (amount_fit all Area area (above Area 1 1_000_000_000 area refl refl (omega arith) h.0), (amount_fit all Head start (head_amount start h.1), tt))
kind_fit all case (VesselKind gas volume) a h =
    (reference_fit all case Gas gas a h.0, (amount_fit all Volume volume (above Volume 0 1_000_000_000_000_000 volume refl refl (omega arith) h.1), tt))

not_one : (k : ℕ) → (suc (suc k) == 1) ≡ false
not_one k = ne_eqb (suc (suc k)) 1 (λ e. omega arith)

not_two : (k : ℕ) → (suc (suc (suc k)) == 2) ≡ false
not_two k = ne_eqb (suc (suc (suc k))) 2 (λ e. omega arith)

node_fields_fit : (all : List (List (List ℕ))) (w : NodeWord) (word name level : List ℕ) (texts : List (List ℕ)) → IsFit all NewName name → IsFit all (Number Elevation) level → AreFit all (node_fields w) texts
    → (k : ℕ) → 1 ≤ k → k < length (word ∷ name ∷ level ∷ texts) → IsFit all (field_kind (OfNode w) k) (field (word ∷ name ∷ level ∷ texts) k)
unfolding field_kind
node_fields_fit all w word name level texts n e f zero a l = absurd (omega arith)
node_fields_fit all w word name level texts n e f (suc zero) a l = n
node_fields_fit all w word name level texts n e f (suc (suc zero)) a l = e
node_fields_fit all w word name level texts n e f (suc (suc (suc k))) a l =
    let s : suc (suc (suc k)) - 3 ≡ k = omega arith in
    rw (not_one (suc k), not_two k, s) (fit_at all (node_fields w) texts k f (omega arith))

pub node_line_fit : (all : List (List (List ℕ))) (case : Case) (n : Node) → AreKnown all case → IsNode case.tables n → IsNameText n.name → IsFitLine all (OfNode (kind_word n.kind)) (node_line case.tables n)
unfolding node_line has_count has_too_many is_disordered
node_line_fit all case n a h name =
    let f = kind_fit all case n.kind a h.kind in
    let c = fit_count all (node_fields (kind_word n.kind)) (kind_fields case.tables n.kind) f in record {
      directive_said = of_node case.tables n;
      allowed = refl;
      some = omega arith;
      count = eq-eqb (length (node_line case.tables n)) (length (node_fields (kind_word n.kind)) + 3) (omega arith);
      few = refl;
      ordered = refl;
      fit = node_fields_fit all (kind_word n.kind) _ n.name (written 6 n.elevation) (kind_fields case.tables n.kind) (new_fit all n.name name)
          (amount_fit all Elevation n.elevation (sized Elevation 10_000_000_000 n.elevation refl refl (omega arith) h.elevation)) f;
    }

-- the fields of a pipe and of a probe
later_fit : (all : List (List (List ℕ))) (kinds : List FieldKind) (word : List ℕ) (texts : List (List ℕ)) → AreFit all kinds texts → (k : ℕ) → 1 ≤ k → k < length (word ∷ texts) → IsFit all (get_or kinds (k - 1) NewName) (field (word ∷ texts) k)
later_fit all kinds word texts f zero a l = absurd (omega arith)
later_fit all kinds word texts f (suc k) a l = let s : suc k - 1 ≡ k = omega arith in rw s (fit_at all kinds texts k f (omega arith))

pipe_fields_fit : (all : List (List (List ℕ))) (case : Case) (p : Pipe) → AreKnown all case → IsPipe p → IsJoined (length case.nodes) p → IsNameText p.name → AreFit all pipe_fields (pipe_names case.nodes p ++ pipe_numbers p)
pipe_fields_fit all case p a h j name = (
  new_fit all p.name name,
  (
    node_fit all case p.first a j.first,
    (
      node_fit all case p.last a j.last,
      (
        amount_fit all Length p.length (above Length 1 1_000_000_000 p.length refl refl (omega arith) h.length),
        (
          amount_fit all Diameter p.diameter (above Diameter 20 10_000 p.diameter refl refl (omega arith) h.diameter),
          (
            amount_fit all WaveSpeed p.speed (above WaveSpeed 10_000 2_000_000 p.speed refl refl (omega arith) h.speed),
            (amount_fit all FrictionFactor p.friction (above FrictionFactor 0 500_000 p.friction refl refl (omega arith) h.friction), (amount_fit all Flow p.flow (flow_amount p.flow h.flow), tt)),
          ),
        ),
      ),
    ),
  ),
)

pub pipe_line_fit : (all : List (List (List ℕ))) (case : Case) (p : Pipe) → AreKnown all case → IsPipe p → IsJoined (length case.nodes) p → IsNameText p.name → IsFitLine all OfPipe (pipe_line case.nodes p)
unfolding pipe_line has_count has_too_many is_disordered field_kind
pipe_line_fit all case p a h j name = record {
  directive_said = of_pipe case.nodes p;
  allowed = refl;
  some = omega arith;
  count = refl;
  few = refl;
  ordered = refl;
  fit = later_fit all pipe_fields _ (pipe_names case.nodes p ++ pipe_numbers p) (pipe_fields_fit all case p a h j name);
}

place_amount : (n : ℕ) → n ≤ 65_536 → IsAmount PipePlace (pos n)
place_amount n h = above PipePlace 0 65_536 (pos n) refl refl (omega arith) (record { low = omega (arith, ints); high = omega (arith, ints) })

probe_fields_fit : (all : List (List (List ℕ))) (case : Case) (pipe place : ℕ) → AreKnown all case → pipe < length case.pipes → place ≤ 65_536 → AreFit all probe_fields (name_of_pipe case.pipes pipe ∷ count_text place ∷ [])
probe_fields_fit all case pipe place a l h = (pipe_fit all case pipe a l, (amount_fit all PipePlace (pos place) (place_amount place h), tt))

watch_fit : (all : List (List (List ℕ))) (word name : List ℕ) → IsFit all NodeName name → (k : ℕ) → 1 ≤ k → k < length (word ∷ name ∷ []) → IsFit all NodeName (field (word ∷ name ∷ []) k)
watch_fit all word name f zero a l = absurd (omega arith)
watch_fit all word name f (suc zero) a l = f
watch_fit all word name f (suc (suc k)) a l = absurd (omega arith)

spot_line_fit : (all : List (List (List ℕ))) (case : Case) (at : ProbeAt) → AreKnown all case → IsSpot (length case.pipes) (length case.nodes) at → directive_said (spot_fields case.pipes case.nodes at) ≡ Some (spot_directive at)
    → IsFitLine all (spot_directive at) (spot_fields case.pipes case.nodes at)
unfolding has_count has_too_many is_disordered field_kind
spot_line_fit all case (OnPipe pipe place) a h s = record {
  directive_said = s;
  allowed = refl;
  some = omega arith;
  count = refl;
  few = refl;
  ordered = refl;
  fit = later_fit all probe_fields _ (name_of_pipe case.pipes pipe ∷ count_text place ∷ []) (probe_fields_fit all case pipe place a h.0 h.1);
}
spot_line_fit all case (OnNode node) a h s = record {
  directive_said = s;
  allowed = refl;
  some = omega arith;
  count = refl;
  few = refl;
  ordered = refl;
  fit = watch_fit all _ (name_of_node case.nodes node) (node_fit all case node a h);
}

pub probe_line_fit : (all : List (List (List ℕ))) (case : Case) (q : Probe) → AreKnown all case → IsSpot (length case.pipes) (length case.nodes) q.at → IsFitLine all (spot_directive q.at) (probe_line case.pipes case.nodes q)
unfolding probe_line
probe_line_fit all case q a h = spot_line_fit all case q.at a h (of_probe case.pipes case.nodes q)

-- the numbers of pairs
first_fit : (all : List (List (List ℕ))) (kind : TableKind) (e : ℤ × ℤ) → IsEntry kind e → IsFit all (Number (first_quantity kind)) (written (first_places kind) e.0)
first_fit all Heads e h = amount_fit all Time e.0 (above Time 0 1_000_000_000_000 e.0 refl refl (omega arith) h.0)
first_fit all Flows e h = amount_fit all Time e.0 (above Time 0 1_000_000_000_000 e.0 refl refl (omega arith) h.0)
first_fit all Openings e h = amount_fit all Time e.0 (above Time 0 1_000_000_000_000 e.0 refl refl (omega arith) h.0)
first_fit all Speeds e h = amount_fit all Time e.0 (above Time 0 1_000_000_000_000 e.0 refl refl (omega arith) h.0)
first_fit all Curve e h = amount_fit all CurveFlow e.0 (above CurveFlow 0 1_000_000_000_000 e.0 refl refl (omega arith) h.0)
first_fit all Gas e h = amount_fit all Volume e.0 (above Volume 0 1_000_000_000_000_000 e.0 refl refl (omega arith) h.0)

second_fit : (all : List (List (List ℕ))) (kind : TableKind) (e : ℤ × ℤ) → IsEntry kind e → IsFit all (Number (second_quantity kind)) (written (second_places kind) e.1)
second_fit all Heads e h = amount_fit all Head e.1 (head_amount e.1 h.1)
second_fit all Flows e h = amount_fit all Flow e.1 (flow_amount e.1 h.1)
second_fit all Openings e h = amount_fit all Opening e.1 (opening_amount e.1 h.1)
second_fit all Speeds e h = amount_fit all SpeedRatio e.1 (ratio_amount e.1 h.1)
second_fit all Curve e h = amount_fit all CurveRise e.1 (above CurveRise 0 100_000_000_000 e.1 refl refl (omega arith) h.1)
second_fit all Gas e h = amount_fit all Head e.1 (head_amount e.1 h.1)

-- a place behind the name is that of a first or of a second number
abbrev IsOfPair : ℕ → Type 0
IsOfPair k = ((j : ℕ) × (k ≡ suc (suc (2 * j)))) ⊎ ((j : ℕ) × (k ≡ suc (suc (suc (2 * j)))))

of_pair : (k : ℕ) → 2 ≤ k → IsOfPair k
of_pair k h = elim (cases_eq (k % 2) 0) [
  | inl e ↦ inl ((k - 2) / 2, omega arith)
  | inr e ↦ inr ((k - 2) / 2, omega arith)
]

even_place : (j : ℕ) → (suc (suc (2 * j)) % 2 == 0) ≡ true
even_place j = eq-eqb (suc (suc (2 * j)) % 2) 0 (omega arith)

odd_place : (j : ℕ) → (suc (suc (suc (2 * j))) % 2 == 0) ≡ false
odd_place j = ne_eqb (suc (suc (suc (2 * j))) % 2) 0 (λ e. omega arith)

first_at : (all : List (List (List ℕ))) (kind : TableKind) (word name : List ℕ) (points : List (ℤ × ℤ)) (j : ℕ) → All (IsEntry kind) points → j < length points
    → IsFit all (field_kind (OfTable kind) (suc (suc (2 * j)))) (field (word ∷ name ∷ flat_map (entry_fields kind) points) (suc (suc (2 * j))))
unfolding field_kind
first_at all kind word name points j h l =
    let d : ℤ × ℤ = (pos 0, pos 0) in
    rw (not_one (2 * j), even_place j, first_field kind points j d l) (first_fit all kind (get_or points j d) (h j d l))

second_at : (all : List (List (List ℕ))) (kind : TableKind) (word name : List ℕ) (points : List (ℤ × ℤ)) (j : ℕ) → All (IsEntry kind) points → j < length points
    → IsFit all (field_kind (OfTable kind) (suc (suc (suc (2 * j))))) (field (word ∷ name ∷ flat_map (entry_fields kind) points) (suc (suc (suc (2 * j)))))
unfolding field_kind
second_at all kind word name points j h l =
    let d : ℤ × ℤ = (pos 0, pos 0) in
    rw (not_one (suc (2 * j)), odd_place j, second_field kind points j d l) (second_fit all kind (get_or points j d) (h j d l))

pair_fit : (all : List (List (List ℕ))) (kind : TableKind) (word name : List ℕ) (points : List (ℤ × ℤ)) (k : ℕ) → All (IsEntry kind) points → IsOfPair k → k < length (word ∷ name ∷ flat_map (entry_fields kind) points)
    → IsFit all (field_kind (OfTable kind) k) (field (word ∷ name ∷ flat_map (entry_fields kind) points) k)
pair_fit all kind word name points k h (inl p) l =
    let c = length_pairs kind points in
    let b : p.0 < length points = omega (arith, p.1) in
    subst (λ (n : ℕ). IsFit all (field_kind (OfTable kind) n) (field (word ∷ name ∷ flat_map (entry_fields kind) points) n)) (sym p.1) (first_at all kind word name points p.0 h b)
pair_fit all kind word name points k h (inr p) l =
    let c = length_pairs kind points in
    let b : p.0 < length points = omega (arith, p.1) in
    subst (λ (n : ℕ). IsFit all (field_kind (OfTable kind) n) (field (word ∷ name ∷ flat_map (entry_fields kind) points) n)) (sym p.1) (second_at all kind word name points p.0 h b)

table_fields_fit : (all : List (List (List ℕ))) (kind : TableKind) (word name : List ℕ) (points : List (ℤ × ℤ)) → All (IsEntry kind) points → IsFit all NewName name → (k : ℕ) → 1 ≤ k → k < length (word ∷ name ∷ flat_map (entry_fields kind) points)
    → IsFit all (field_kind (OfTable kind) k) (field (word ∷ name ∷ flat_map (entry_fields kind) points) k)
unfolding field_kind
table_fields_fit all kind word name points h n zero a l = absurd (omega arith)
table_fields_fit all kind word name points h n (suc zero) a l = n
table_fields_fit all kind word name points h n (suc (suc k)) a l = pair_fit all kind word name points (suc (suc k)) h (of_pair (suc (suc k)) (omega arith)) l

rises_in : (kind : TableKind) (points : List (ℤ × ℤ)) (k : ℕ) → IsInOrder kind points → k + 1 < length points → rises kind (entry_at points k).0 (entry_at points (k + 1)).0 ≡ true
rises_in Heads points k h l = at_most_at _ _ (h k l)
rises_in Flows points k h l = at_most_at _ _ (h k l)
rises_in Openings points k h l = at_most_at _ _ (h k l)
rises_in Speeds points k h l = at_most_at _ _ (h k l)
rises_in Curve points k h l = at_most_at _ _ (h.1 k l)
rises_in Gas points k h l = at_most_at _ _ (h.0 k l)

falls_in : (kind : TableKind) (points : List (ℤ × ℤ)) (k : ℕ) → IsInOrder kind points → k + 1 < length points → falls kind (entry_at points k).1 (entry_at points (k + 1)).1 ≡ true
falls_in Heads points k h l = refl
falls_in Flows points k h l = refl
falls_in Openings points k h l = refl
falls_in Speeds points k h l = refl
falls_in Curve points k h l = less_at _ _ (h.2 k l)
falls_in Gas points k h l = less_at _ _ (h.1 k l)

begins_in : (kind : TableKind) (points : List (ℤ × ℤ)) → IsInOrder kind points → may_begin kind (entry_at points 0) ≡ true
begins_in Heads points h = refl
begins_in Flows points h = refl
begins_in Openings points h = refl
begins_in Speeds points h = refl
begins_in Curve points h = (Decides-int_eq (entry_at points 0).0 (pos 0)).1 h.0
begins_in Gas points h = refl

follows_in : (kind : TableKind) (points : List (ℤ × ℤ)) (k : ℕ) → IsInOrder kind points → k + 1 < length points → may_follow kind (entry_at points k) (entry_at points (k + 1)) ≡ true
unfolding may_follow
follows_in kind points k h l =
    and_from (rises kind (entry_at points k).0 (entry_at points (k + 1)).0) (falls kind (entry_at points k).1 (entry_at points (k + 1)).1) (rises_in kind points k h l) (falls_in kind points k h l)

all_from : (p : ℕ → Bool) (i n : ℕ) → ((k : ℕ) → i ≤ k → k < i + n → p k ≡ true) → list_all p (range_with_len i n) ≡ true
all_from p i zero f = refl
all_from p i (suc n) f = and_from (p i) (list_all p (range_with_len (i + 1) n)) (f i (omega arith) (omega arith)) (all_from p (i + 1) n (λ k a l. f k (omega arith) (omega arith)))

follow_fit : (kind : TableKind) (word name : List ℕ) (points : List (ℤ × ℤ)) → All (IsEntry kind) points → IsInOrder kind points → follow kind (word ∷ name ∷ flat_map (entry_fields kind) points) (length points) ≡ true
unfolding follow
follow_fit kind word name points e h =
    let d : ℤ × ℤ = (pos 0, pos 0) in
    all_from _ 0 (length points - 1) (λ k a l.
    let m : k + 1 < length points = omega arith in
    let n : k < length points = omega arith in
    rw (pair_back kind word name points k d n (e k d n), pair_back kind word name points (k + 1) d m (e (k + 1) d m)) (follows_in kind points k h m))

ordered_fit : (kind : TableKind) (word name : List ℕ) (points : List (ℤ × ℤ)) → 1 ≤ length points → All (IsEntry kind) points → IsInOrder kind points → is_ordered kind (word ∷ name ∷ flat_map (entry_fields kind) points) ≡ true
unfolding is_ordered
ordered_fit kind word name points s e h =
    let d : ℤ × ℤ = (pos 0, pos 0) in
    let l : 0 < length points = omega arith in
    rw (pairs_counted kind word name points, pair_back kind word name points 0 d l (e 0 d l), begins_in kind points h) (follow_fit kind word name points e h)

pub table_line_fit : (all : List (List (List ℕ))) (t : Table) → IsTable t → IsNameText t.name → IsFitLine all (OfTable t.kind) (table_line t)
unfolding table_line has_count has_too_many is_disordered
table_line_fit all t h name =
    let c = length_pairs t.kind t.points in
    let some = h.some in
    let few = h.few in record {
      directive_said = of_table t;
      allowed = refl;
      some = omega arith;
      count = and_from (length (table_line t) % 2 == 0) (nat_le (2 * least_entries t.kind + 2) (length (table_line t))) (eq-eqb (length (table_line t) % 2) 0 (omega arith)) (le-leb (2 * least_entries t.kind + 2) (length (table_line t)) (omega arith));
      few = le-ltb (2 * most_entries t.kind + 2) (length (table_line t)) (omega arith);
      ordered = rw (ordered_fit t.kind _ t.name t.points (let l = least_some t.kind in omega arith) h.entries h.sorted) refl;
      fit = table_fields_fit all t.kind _ t.name t.points h.entries (new_fit all t.name name);
    }
