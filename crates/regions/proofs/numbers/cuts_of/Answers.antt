use Rattle.std.proofs.Common.{◌<◌, true, false, List, get_or, length, ap, subst, sym, ◌∙◌, arith}
use Rattle.case_model.specs.declared.meshes.PipeMesh.{PipeMesh}
use Rattle.case_model.specs.Mesh.{no_pipe}
use Rattle.regions.specs.Cuts.{sections}
use Rattle.regions.proofs.Ended.{first-node, last-node, node-few}
use Rattle.case_model.proofs.Joining.{length-joints}
use Rattle.regions.proofs.Counting.{few-seams, small}
use Rattle.regions.proofs.numbers.cuts_of.Goals as goal

pub overflow_add-seam : goal.overflow_add-seam
overflow_add-seam c =
    let s = few-seams c.args.mesh.now c.args.window c.args.pipe c.requires.limits (omega arith) in
    grind arith

pub returns-clause-few : goal.returns-clause-few
returns-clause-few c =
    let s = small c.args.mesh.now c.args.window c.args.pipe c.requires.limits (omega arith) in
    record { some = c.sections-count.ensures.some; seams = grind arith; sections = grind arith }

pub bounds-joints-pipe : goal.bounds-joints-pipe
bounds-joints-pipe c = subst (λ n. c.args.pipe < n) (sym (ap length c.requires.joints ∙ length-joints c.args.mesh.now)) c.requires.inside

pub overflow_cast-first : goal.overflow_cast-first
overflow_cast-first c =
    let e = first-node c.args.mesh.now c.args.pipe c.args.joints.now c.requires.joints c.requires.inside in
    let k = node-few c.args.mesh.now c.args.pipe false in
    let l = c.requires.limits.nodes in
    omega arith

pub overflow_cast-last : goal.overflow_cast-last
overflow_cast-last c =
    let e = last-node c.args.mesh.now c.args.pipe c.args.joints.now c.requires.joints c.requires.inside in
    let k = node-few c.args.mesh.now c.args.pipe true in
    let l = c.requires.limits.nodes in
    omega arith

pub returns-clause-cuts : goal.returns-clause-cuts
returns-clause-cuts c = record {
  count = c.sections-count.ensures.count ∙ ap (λ (xs : List PipeMesh). sections c.args.window (get_or xs c.args.pipe no_pipe).reaches) c.as_slice.ensures;
  first = first-node c.args.mesh.now c.args.pipe c.args.joints.now c.requires.joints c.requires.inside;
  last = last-node c.args.mesh.now c.args.pipe c.args.joints.now c.requires.joints c.requires.inside;
  seam = omega (arith, ap length c.as_slice-2.ensures, c.seams_before.ensures);
  section = c.section_number-section.ensures;
}
