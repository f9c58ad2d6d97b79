use Rattle.std.proofs.Common.{◌≡◌, ◌<◌, true, false, length, ap, sym, ◌∙◌, arith, Vec, Global}
use Rattle.case_model.specs.declared.meshes.PipeMesh.{PipeMesh}
use Rattle.case_model.specs.Division.{divides, pipe_mesh}
use Rattle.case_model.proofs.RowLaws.{listed_more}
use Rattle.reaches.specs.Decided.{IsDivision}
use Rattle.reaches.proofs.Whole.{base_none, base_more, mesh_is}
use Rattle.reaches.proofs.meshing.pipe_meshes.Goals.{in-Some+in_ok-push, in_default}
use Rattle.reaches.proofs.meshing.pipe_meshes.Goals as goal

pub loop-pipe-init : goal.loop-pipe-init
loop-pipe-init c = record {
  meshes = c.in_ok-meshes.ensures.items;
  base = ap length c.as_slice.ensures ∙ sym (base_none c.args.decided.now.case.now);
  few = rw c.as_slice.ensures c.requires.read.few_nodes;
}

pub loop-pipe-preserved : goal.loop-pipe-preserved
loop-pipe-preserved c =
    let case = c.args.decided.now.case.now in
    let i = c.loop-pipe.pipe in
    let h : i < length case.pipes = rw (← c.as_slice-count.ensures) c.loop-pipe-test.true in
    elim c.match-division.branch [
      | in-Some+in_ok-push w ↦
          let d : IsDivision case i w.in-Some.division = w.in-Some.ensures {u = tt} in
          let m = w.mesh_from.ensures in
          let r = d.1.reaches in
          let few = d.1.few in
          let b = w.base-is in
          record {
            meshes = listed_more (pipe_mesh case) i _ _ _ c.loop-pipe.invariant.meshes (ap (λ (v : Vec PipeMesh Global). v.items) w.meshes-is ∙ w.in_ok-push.ensures.items)
                (mesh_is case i w.in-Some.division w.mesh_from.result d m.reaches m.b m.r (m.base ∙ c.loop-pipe.invariant.base));
            base = omega (arith, base_more case i h);
            few = omega arith;
          }
      | in_default w ↦
          let no : divides case i ≡ false = w.in_default.ensures {u = tt} in
          let yes = c.requires.divided i h in
          let e : false ≡ true = sym no ∙ yes in cc
    ]
