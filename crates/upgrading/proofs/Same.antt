-- Two cases that differ in the version of their text and in the lines of their parts alone.
use Rattle.std.proofs.Common.{ℕ, ◌+◌, ◌≡◌, List, length, refl}
use Rattle.case_model.specs.declared.cases.Case.{Case}
use Rattle.case_model.specs.declared.cases.Node.{Node}
use Rattle.case_model.specs.declared.cases.Pipe.{Pipe}
use Rattle.case_model.specs.Parts.{pipe_at, node_at, table_at, probe_at}
use Rattle.case_writing.specs.CaseText.{upgraded}
use Rattle.round_trip.specs.Renumbered.{first_part, renumbered}
use Rattle.round_trip.proofs.DivisionBack.{pipe_kept, node_kept, gas_kept, kind_kept, at_kept, count_probes}

pub record AreAlike (again case : Case) : Type 0 where
  pub dt : again.dt ≡ case.dt
  pub steps : again.steps ≡ case.steps
  pub vapour : again.vapour ≡ case.vapour
  pub weight : again.weight ≡ case.weight
  pub every : again.every ≡ case.every
  pub friction : again.friction ≡ case.friction
  pub points : (t : ℕ) → (table_at again t).points ≡ (table_at case t).points
  pub kind : (k : ℕ) → (node_at again k).kind ≡ (node_at case k).kind
  pub level : (k : ℕ) → (node_at again k).elevation ≡ (node_at case k).elevation
  pub node_name : (k : ℕ) → (node_at again k).name ≡ (node_at case k).name
  pub first : (p : ℕ) → (pipe_at again p).first ≡ (pipe_at case p).first
  pub last : (p : ℕ) → (pipe_at again p).last ≡ (pipe_at case p).last
  pub flow : (p : ℕ) → (pipe_at again p).flow ≡ (pipe_at case p).flow
  pub pipe_name : (p : ℕ) → (pipe_at again p).name ≡ (pipe_at case p).name
  pub at : (q : ℕ) → (probe_at again q).at ≡ (probe_at case q).at
  pub probes : length again.probes ≡ length case.probes

pub upgraded_alike : (case : Case) → AreAlike (renumbered (upgraded case)) case
unfolding renumbered
upgraded_alike case =
    let next = upgraded case in
    let nodes = first_part 2 + length case.tables in
    let pipes = first_part 2 + length case.tables + length case.nodes in record {
      dt = refl;
      steps = refl;
      vapour = refl;
      weight = refl;
      every = refl;
      friction = refl;
      points = gas_kept next;
      kind = kind_kept next;
      level = λ k. node_kept (λ (n : Node). n.elevation) (λ n line. refl) nodes case.nodes k;
      node_name = λ k. node_kept (λ (n : Node). n.name) (λ n line. refl) nodes case.nodes k;
      first = λ p. pipe_kept (λ (q : Pipe). q.first) (λ q line. refl) pipes case.pipes p;
      last = λ p. pipe_kept (λ (q : Pipe). q.last) (λ q line. refl) pipes case.pipes p;
      flow = λ p. pipe_kept (λ (q : Pipe). q.flow) (λ q line. refl) pipes case.pipes p;
      pipe_name = λ p. pipe_kept (λ (q : Pipe). q.name) (λ q line. refl) pipes case.pipes p;
      at = at_kept next;
      probes = count_probes next;
    }
