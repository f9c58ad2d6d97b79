-- Where division breaks no rule, each part of the case keeps the rules on it.
use Rattle.std.proofs.Common.{◌≡◌, ℕ, ◌<◌, ◌≤◌, ◌==◌, ◌&&◌, ◌||◌, not, nat_lt, Bool, true, false, List, [], ◌∷◌, length, refl, ap, zero-add, ◌∙◌, eq-eqb, arith, if◌then◌else◌}
use Rattle.std.specs.List.{range_with_len}
use Rattle.std.proofs.lemmas.Bool.{false_from_ne_true, or_left, or_parts, or_right}
use Rattle.std.proofs.lemmas.Bool.Decides.{nat_tests}
use Rattle.std.proofs.lemmas.List.Folds.{list_any_at}
use Rattle.std.proofs.lemmas.List.FromFn.{get_or-range_with_len, length-range_with_len, get_or-map-range_with_len, length-map-range_with_len}
use Rattle.case_model.specs.declared.cases.Case.{Case}
use Rattle.case_model.specs.declared.cases.NodeKind.{NodeKind}
use Rattle.case_model.specs.declared.cases.NodeKind.TheVariants.{Reservoir, Junction, Discharge, Inline, Pump, Tank, Vessel}
use Rattle.case_model.specs.declared.meshes.End.{End}
use Rattle.case_model.specs.Division.{is_count, is_adjusted, has_coefficients, divides, node_ends, place_base, pipe_mesh, mesh_of}
use Rattle.case_model.specs.Formulas.{reach_count}
use Rattle.case_model.specs.Kept.{IsKept, HasParts}
use Rattle.case_model.specs.Mesh.{no_pipe}
use Rattle.case_model.specs.Parts.{pipe_at, node_at, probe_at}
use Rattle.case_model.specs.Refusals.{breaks_pipe, most_ends, is_joined, is_through, ends_suit, exceeds, breaks_node, is_off, pipe_rules, node_rules, probe_rules, part_rules, sample_count, is_too_large, size_rules, passes}
use Rattle.case_model.specs.Sets.{Rules, IsEmpty, AreEmpty, either, any_below}

-- a rule that one item breaks is broken by all of them
in_any : (rules : ℕ → Rules) (n k line number : ℕ) → k < n → rules k line number ≡ true → any_below rules n line number ≡ true
unfolding any_below
in_any rules n k line number h t =
    list_any_at (λ i. rules i line number) (range_with_len 0 n) k 0 (omega (arith, length-range_with_len 0 n))
    (ap (λ i. rules i line number) (get_or-range_with_len 0 n k 0 h ∙ zero-add k) ∙ t)

unbroken_pipe : (a b c d : Bool)
    → ((n : ℕ) → (((n == 11) && a) || ((n == 12) && not b) || ((n == 13) && b && not c) || ((n == 15) && b && not d)) ≡ true → ⊥)
    → (not a && b && c && d) ≡ true
unbroken_pipe true b c d h = absurd (h 11 refl)
unbroken_pipe false false c d h = absurd (h 12 refl)
unbroken_pipe false true false d h = absurd (h 13 refl)
unbroken_pipe false true true false h = absurd (h 15 refl)
unbroken_pipe false true true true h = refl

pub all_divided : (case : Case) → IsEmpty (part_rules case) → (p : ℕ) → p < length case.pipes → divides case p ≡ true
unfolding part_rules divides breaks_pipe
all_divided case empty p h =
    let q = pipe_at case p in
    let n = reach_count case.dt q in
    unbroken_pipe (q.first == q.last) (is_count n) (is_adjusted case.dt case.tolerance n q) (has_coefficients case.dt n q) (λ number t. empty q.line number
    (or_left _ (any_below (probe_rules case) (length case.probes) q.line number)
    (or_left _ (any_below (node_rules case) (length case.nodes) q.line number)
    (in_any (pipe_rules case) (length case.pipes) p q.line number h (rw (eq-eqb q.line q.line refl) t)))))

-- a node whose ends suit it and that keeps its limits
record IsSuited (a b : Bool) : Type 0 where
  suit : a ≡ true
  kept : b ≡ false

unbroken_node : (a b : Bool) → ((n : ℕ) → (((n == 11) && not a) || ((n == 15) && b)) ≡ true → ⊥) → IsSuited a b
unbroken_node true true h = absurd (h 15 refl)
unbroken_node true false h = record { suit = refl; kept = refl }
unbroken_node false b h = absurd (h 11 refl)

all_suited : (case : Case) → IsEmpty (part_rules case) → (k : ℕ) → k < length case.nodes
    → IsSuited (ends_suit (most_ends case.version) (node_at case k).kind (node_ends case k)) (exceeds case (node_at case k).kind (node_ends case k))
unfolding part_rules breaks_node
all_suited case empty k h =
    let n = node_at case k in
    unbroken_node (ends_suit (most_ends case.version) n.kind (node_ends case k)) (exceeds case n.kind (node_ends case k)) (λ number t. empty n.line number
    (or_left _ (any_below (probe_rules case) (length case.probes) n.line number)
    (or_right (any_below (pipe_rules case) (length case.pipes) n.line number) _
    (in_any (node_rules case) (length case.nodes) k n.line number h (rw (eq-eqb n.line n.line refl) t)))))

record AreFew (most : ℕ) (ends : List End) : Type 0 where
  some : 1 ≤ length ends
  few : length ends ≤ most

through_two : (most : ℕ) (ends : List End) → 2 ≤ most → is_through ends ≡ true → AreFew most ends
through_two most [] m h = absurd (grind arith)
through_two most (a ∷ []) m h = absurd (grind arith)
through_two most (a ∷ b ∷ []) m h = record { some = omega arith; few = omega arith }
through_two most (a ∷ b ∷ c ∷ ends) m h = absurd (grind arith)

joined_some : (most : ℕ) (ends : List End) → is_joined most ends ≡ true → AreFew most ends
joined_some most ends h = record { some = grind (arith, nat_tests); few = grind (arith, nat_tests) }

suited_few : (most : ℕ) (kind : NodeKind) (ends : List End) → 2 ≤ most → ends_suit most kind ends ≡ true → AreFew most ends
unfolding ends_suit
suited_few most (Reservoir head) ends m h = joined_some most ends h
suited_few most (Junction demand start) ends m h = joined_some most ends h
suited_few most (Discharge q0 h0 outlet opening start) ends m h = record { some = grind (arith, nat_tests); few = grind (arith, nat_tests) }
suited_few most (Inline q0 h0 opening start start2) ends m h = through_two most ends m h
suited_few most (Pump curve speed start start2) ends m h = through_two most ends m h
suited_few most (Tank area start) ends m h = joined_some most ends h
suited_few most (Vessel gas volume) ends m h = joined_some most ends h

cond_within : (b : Bool) → 8 ≤ (if b then 8 else 16)
cond_within true = omega arith
cond_within false = omega arith

all_few : (case : Case) → IsEmpty (part_rules case) → (k : ℕ) → k < length case.nodes → AreFew (most_ends case.version) (node_ends case k)
all_few case empty k h =
    let s = cond_within (case.version == 1) in
    suited_few (most_ends case.version) (node_at case k).kind (node_ends case k) (omega arith) (all_suited case empty k h).suit

pub none_off : (case : Case) (q : ℕ) → IsEmpty (part_rules case) → q < length case.probes → is_off case (probe_at case q).at ≡ false
unfolding part_rules
none_off case q empty h =
    let line = (probe_at case q).line in
    false_from_ne_true (is_off case (probe_at case q).at) (λ t. empty line 16
    (or_right (either (any_below (pipe_rules case) (length case.pipes)) (any_below (node_rules case) (length case.nodes)) line 16) (any_below (probe_rules case) (length case.probes) line 16)
    (in_any (probe_rules case) (length case.probes) q line 16 h (rw (eq-eqb line line refl, t) refl))))

not_large : (case : Case) → IsEmpty (size_rules case) → is_too_large case ≡ false
unfolding size_rules
not_large case empty = false_from_ne_true (is_too_large case) (λ h. empty 0 10 (rw h refl))

few_places : (case : Case) → IsEmpty (size_rules case) → place_base case (length case.pipes) ≤ 400_000
few_places case empty =
    let l = or_parts (nat_lt 400_000 (place_base case (length case.pipes))) (nat_lt 4_000_000 (sample_count case)) (not_large case empty) in
    grind (arith, nat_tests)

few_samples : (case : Case) → IsEmpty (size_rules case) → sample_count case ≤ 4_000_000
few_samples case empty =
    let l = or_parts (nat_lt 400_000 (place_base case (length case.pipes))) (nat_lt 4_000_000 (sample_count case)) (not_large case empty) in
    grind (arith, nat_tests)

pub kept : (case : Case) → AreEmpty (passes case) → IsKept case
kept case empty = record {
  pipes = all_divided case empty.0;
  suit = λ k h. (all_suited case empty.0 k h).suit;
  limits = λ k h. (all_suited case empty.0 k h).kept;
  some_ends = λ k h. (all_few case empty.0 k h).some;
  few_ends = λ k h. (all_few case empty.0 k h).few;
  probes = λ q h. none_off case q empty.0 h;
  places = few_places case empty.1.0;
  samples = few_samples case empty.1.0;
}

pub parts : (case : Case) → HasParts case (mesh_of case)
unfolding mesh_of
parts case = record {
  count = length-map-range_with_len (pipe_mesh case) 0 (length case.pipes);
  nodes = length-map-range_with_len (node_ends case) 0 (length case.nodes);
  places = refl;
  pipes = λ p h. get_or-map-range_with_len (pipe_mesh case) 0 (length case.pipes) p p no_pipe h (omega arith);
  ends = λ k h. get_or-map-range_with_len (node_ends case) 0 (length case.nodes) k k [] h (omega arith);
}
