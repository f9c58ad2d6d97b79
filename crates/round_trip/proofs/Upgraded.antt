-- A case as version 2: it can be written where the case can be, with the same mesh.
use Rattle.std.proofs.Common.{inr, ℕ, ◌≤◌, ◌≡◌, ◌==◌, ◌&&◌, ◌||◌, not, nat_le, Bool, true, false, IsTrue, cond, Ok, List, [], ◌∷◌, length, subst, ap, ◌∙◌, refl, arith}
use Rattle.std.proofs.lemmas.Bool.{and_parts, and_from, or_right, le-leb, leb-true}
use Rattle.case_model.specs.declared.cases.Case.{Case}
use Rattle.case_model.specs.declared.cases.NodeKind.{NodeKind}
use Rattle.case_model.specs.declared.cases.NodeKind.TheVariants.{Reservoir, Junction, Discharge, Inline, Pump, Tank, Vessel}
use Rattle.case_model.specs.declared.cases.ProbeAt.{ProbeAt}
use Rattle.case_model.specs.declared.cases.ProbeAt.TheVariants.{OnPipe, OnNode}
use Rattle.case_model.specs.declared.meshes.End.{End}
use Rattle.case_model.specs.declared.meshes.Mesh.{Mesh}
use Rattle.case_model.specs.Sets.{IsEmpty, either, any_below}
use Rattle.case_model.specs.Parts.{node_at, probe_at}
use Rattle.case_model.specs.Division.{divides, place_base, pipe_mesh, node_ends, mesh_of}
use Rattle.case_model.specs.Limits.{IsRead}
use Rattle.case_model.specs.Refusals.{is_joined, most_ends, ends_suit, exceeds, breaks_node, is_off, pipe_rules, node_rules, probe_rules, part_rules, sample_count, is_too_large, size_rules}
use Rattle.case_writing.specs.CaseText.{case_text, upgraded}
use Rattle.netfile.specs.Verdict.{verdict}
use Rattle.round_trip.specs.Renumbered.{renumbered}
use Rattle.round_trip.specs.Writable.{IsWritable, case_names}
use Rattle.round_trip.proofs.AcceptedCase.{accepted_mesh, accepted_writable}
use Rattle.round_trip.proofs.DivisionBack.{all_moved, left_empty, right_empty, both_empty, moved}
use Rattle.round_trip.proofs.LawBack.{mesh_reads_back}

-- the mesh
pub mesh_upgraded : (case : Case) → mesh_of (upgraded case) ≡ mesh_of case
unfolding mesh_of pipe_mesh place_base
mesh_upgraded case = refl

-- more ends are allowed, and all else is judged as before
more_joined : (few most : ℕ) (ends : List End) → few ≤ most → is_joined few ends ≡ true → is_joined most ends ≡ true
more_joined few most ends l h =
    let p = and_parts (nat_le 1 (length ends)) (nat_le (length ends) few) h in
    let n : length ends ≤ few = leb-true (length ends) few p.1 in
    and_from (nat_le 1 (length ends)) (nat_le (length ends) most) p.0 (le-leb (length ends) most (omega arith))

more_suit : (few most : ℕ) (kind : NodeKind) (ends : List End) → few ≤ most → ends_suit few kind ends ≡ true → ends_suit most kind ends ≡ true
unfolding ends_suit
more_suit few most (Reservoir head) ends l h = more_joined few most ends l h
more_suit few most (Junction demand start) ends l h = more_joined few most ends l h
more_suit few most (Discharge q0 h0 outlet opening start) ends l h = h
more_suit few most (Inline q0 h0 opening start start2) ends l h = h
more_suit few most (Pump curve speed start start2) ends l h = h
more_suit few most (Tank area start) ends l h = more_joined few most ends l h
more_suit few most (Vessel gas volume) ends l h = more_joined few most ends l h

few_ends : (b : Bool) → cond b 8 16 ≤ 16
few_ends true = omega arith
few_ends false = omega arith

exceeds_same : (case : Case) (kind : NodeKind) (ends : List End) → exceeds (upgraded case) kind ends ≡ exceeds case kind ends
unfolding exceeds divides
exceeds_same case (Reservoir head) ends = refl
exceeds_same case (Junction demand start) ends = refl
exceeds_same case (Discharge q0 h0 outlet opening start) [] = refl
exceeds_same case (Discharge q0 h0 outlet opening start) (a ∷ []) = refl
exceeds_same case (Discharge q0 h0 outlet opening start) (a ∷ b ∷ []) = refl
exceeds_same case (Discharge q0 h0 outlet opening start) (a ∷ b ∷ c ∷ ends) = refl
exceeds_same case (Inline q0 h0 opening start start2) [] = refl
exceeds_same case (Inline q0 h0 opening start start2) (a ∷ []) = refl
exceeds_same case (Inline q0 h0 opening start start2) (a ∷ b ∷ []) = refl
exceeds_same case (Inline q0 h0 opening start start2) (a ∷ b ∷ c ∷ ends) = refl
exceeds_same case (Pump curve speed start start2) ends = refl
exceeds_same case (Tank area start) ends = refl
exceeds_same case (Vessel gas volume) ends = refl

or_second : (a x : Bool) → ((a && false) || x) ≡ true → x ≡ true
or_second true x h = h
or_second false x h = h

-- a rule that the upgraded node breaks is one that the node breaks
still_broken : (a b x suits more : Bool) → (suits ≡ true → more ≡ true) → ((a && not more) || (b && x)) ≡ true → ((a && not suits) || (b && x)) ≡ true
still_broken a b x suits true f h = or_right (a && not suits) (b && x) (or_second a (b && x) h)
still_broken a b x false false f h = h
still_broken a b x true false f h = let e = f refl in absurd (cc)

node_broken : (case : Case) (k number : ℕ) → IsTrue (breaks_node (upgraded case) (node_at (upgraded case) k) (node_ends (upgraded case) k) number)
    → IsTrue (breaks_node case (node_at case k) (node_ends case k) number)
unfolding breaks_node
node_broken case k number h =
    let kind = (node_at case k).kind in
    let ends = node_ends case k in
    still_broken (number == 11) (number == 15) (exceeds case kind ends) (ends_suit (most_ends case.version) kind ends) (ends_suit 16 kind ends)
    (more_suit (most_ends case.version) 16 kind ends (few_ends (case.version == 1)))
    (rw (exceeds_same case kind ends) at h)

node_empty : (case : Case) (k : ℕ) → IsEmpty (node_rules case k) → IsEmpty (node_rules (upgraded case) k)
node_empty case k e line number t =
    let p = and_parts ((node_at case k).line == line) (breaks_node (upgraded case) (node_at (upgraded case) k) (node_ends (upgraded case) k) number) t in
    e line number (and_from ((node_at case k).line == line) (breaks_node case (node_at case k) (node_ends case k) number) p.0 (node_broken case k number p.1))

off_same : (case : Case) (at : ProbeAt) → is_off (upgraded case) at ≡ is_off case at
unfolding is_off divides
off_same case (OnPipe pipe place) = refl
off_same case (OnNode node) = refl

parts_upgraded : (case : Case) → IsEmpty (part_rules case) → IsEmpty (part_rules (upgraded case))
unfolding part_rules
parts_upgraded case e =
    let again = upgraded case in
    let ps = any_below (pipe_rules case) (length case.pipes) in
    let ns = any_below (node_rules case) (length case.nodes) in
    let qs = any_below (probe_rules case) (length case.probes) in
    both_empty (either (any_below (pipe_rules again) (length again.pipes)) (any_below (node_rules again) (length again.nodes))) (any_below (probe_rules again) (length again.probes))
    (both_empty (any_below (pipe_rules again) (length again.pipes)) (any_below (node_rules again) (length again.nodes))
    (left_empty ps ns (left_empty (either ps ns) qs e))
    (all_moved (node_rules case) (node_rules again) (length case.nodes) (length again.nodes) refl (node_empty case)
    (right_empty ps ns (left_empty (either ps ns) qs e))))
    (all_moved (probe_rules case) (probe_rules again) (length case.probes) (length again.probes) refl
    (λ q. moved (probe_at case q).line (probe_at again q).line (λ number. (number == 16) && is_off case (probe_at case q).at) (λ number. (number == 16) && is_off again (probe_at again q).at)
    (λ number. ap (λ (b : Bool). (number == 16) && b) (off_same case (probe_at case q).at)))
    (right_empty (either ps ns) qs e))

size_same : (case : Case) → is_too_large (upgraded case) ≡ is_too_large case
unfolding place_base sample_count
size_same case = refl

size_upgraded : (case : Case) → IsEmpty (size_rules case) → IsEmpty (size_rules (upgraded case))
unfolding size_rules
size_upgraded case e =
    moved 0 0 (λ number. (number == 10) && is_too_large case) (λ number. (number == 10) && is_too_large (upgraded case))
    (λ number. ap (λ (b : Bool). (number == 10) && b) (size_same case)) e

read_upgraded : (case : Case) → IsRead case → IsRead (upgraded case)
read_upgraded case h = record {
  version = inr refl;
  friction = λ e. absurd (omega arith);
  dt = h.dt;
  some_steps = h.some_steps;
  few_steps = h.few_steps;
  vapour = h.vapour;
  weight = h.weight;
  tolerance = h.tolerance;
  some_every = h.some_every;
  few_every = h.few_every;
  few_tables = h.few_tables;
  few_nodes = h.few_nodes;
  few_pipes = h.few_pipes;
  few_probes = h.few_probes;
  tables = h.tables;
  nodes = h.nodes;
  pipes = h.pipes;
  joins = h.joins;
  spots = h.spots;
}

pub upgraded_writable : (case : Case) → IsWritable case → IsWritable (upgraded case)
unfolding case_names
upgraded_writable case w = record {
  read = read_upgraded case w.read;
  kept = (parts_upgraded case w.kept.0, (size_upgraded case w.kept.1.0, tt));
  some = w.some;
  names = w.names;
  once = w.once;
}

-- the upgraded text of an accepted text
pub upgraded_reads_back : (bytes : List ℕ) (case : Case) (mesh : Mesh) → verdict bytes ≡ Ok (case, mesh) → length (case_text (upgraded case)) ≤ 8_388_608
    → verdict (case_text (upgraded case)) ≡ Ok (renumbered (upgraded case), mesh)
upgraded_reads_back bytes case mesh h l =
    let same : mesh_of (upgraded case) ≡ mesh = mesh_upgraded case ∙ accepted_mesh bytes case mesh h in
    subst (λ (m : Mesh). verdict (case_text (upgraded case)) ≡ Ok (renumbered (upgraded case), m)) same
    (mesh_reads_back (upgraded case) (upgraded_writable case (accepted_writable bytes case mesh h)) l)
