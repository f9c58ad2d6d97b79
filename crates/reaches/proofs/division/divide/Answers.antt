use Rattle.std.proofs.Common.{◌≡◌, ℕ, true, length, inl, inr, ap, sym, subst, ◌∙◌}
use Rattle.case_model.specs.declared.meshes.Mesh.{Mesh}
use Rattle.case_model.specs.Mesh.{IsMesh, IsNumbered}
use Rattle.case_model.specs.Sets.{IsEmpty, IsLeast}
use Rattle.case_model.specs.Division.{AreEnds}
use Rattle.case_model.specs.Refusals.{is_too_large, part_rules, size_rules}
use Rattle.case_model.proofs.Keeping.{all_divided}
use Rattle.reaches.proofs.Whole.{too_large, not_too_large}
use Rattle.reaches.proofs.Good.{pipes_number, mesh_good, mesh_numbered, mesh_whole}
use Rattle.reaches.proofs.division.divide.Goals as goal

pub pipe_meshes-requires-clause-divided : goal.pipe_meshes-requires-clause-divided
pipe_meshes-requires-clause-divided c = all_divided c.args.case.now (λ l n t. c.in_default.ensures l n t)

pub returns-then-is_too_large-clause-refused : goal.returns-then-is_too_large-clause-refused
returns-then-is_too_large-clause-refused c = λ number line e.
    let case = c.args.case.now in
    let empty : IsEmpty (part_rules case) = λ l n t. c.in_default.ensures l n t in
    let large : is_too_large case ≡ true = sym c.is_too_large.ensures ∙ c.if-is_too_large.true in
    let l : 0 ≡ line = cc in
    let n : 10 ≡ number = cc in
    inr (empty, inl (subst (λ (k : ℕ). IsLeast (size_rules case) line k) n (subst (λ (k : ℕ). IsLeast (size_rules case) k 10) l (too_large case large))))

pub returns-clause-mesh : goal.returns-clause-mesh
returns-clause-mesh c =
    let ends = c.in_ok-ends.ensures {u = tt} in
    mesh_whole c.args.case.now c.over.result c.over-2.result c.in_ok-pipes.places (c.over.ensures ∙ c.in_ok-pipes.ensures.pipes)
    (subst (AreEnds c.args.case.now) (sym c.over-2.ensures) ends) c.in_ok-pipes.ensures.places

pub returns-clause-accepted : goal.returns-clause-accepted
returns-clause-accepted c =
    (λ l n t. c.in_default.ensures l n t, (not_too_large c.args.case.now (sym c.is_too_large.ensures ∙ c.if-is_too_large.false), tt))

pub returns-clause-pipes : goal.returns-clause-pipes
returns-clause-pipes c = ap (λ (m : Mesh). length m.pipes) (returns-clause-mesh c) ∙ pipes_number c.args.case.now

pub returns-clause-good : goal.returns-clause-good
returns-clause-good c =
    subst IsMesh (sym (returns-clause-mesh c)) (mesh_good c.args.case.now c.requires (λ l n t. c.in_default.ensures l n t))

pub returns-clause-numbered : goal.returns-clause-numbered
returns-clause-numbered c = subst IsNumbered (sym (returns-clause-mesh c)) (mesh_numbered c.args.case.now)
