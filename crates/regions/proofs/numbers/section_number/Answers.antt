use Rattle.std.proofs.Common.{◌+◌, length, arith}
use Rattle.regions.proofs.Counting.{sections-next, few, few-seams}
use Rattle.regions.proofs.numbers.section_number.Goals as goal

pub overflow_add-result : goal.overflow_add-result
overflow_add-result c =
    let s = few-seams c.args.mesh.now c.args.window (length c.args.mesh.now.pipes) c.requires.limits (omega arith) in
    grind arith

pub overflow_add-result-2 : goal.overflow_add-result-2
overflow_add-result-2 c =
    let s = few-seams c.args.mesh.now c.args.window (length c.args.mesh.now.pipes) c.requires.limits (omega arith) in
    let t = few c.args.mesh.now c.args.window c.args.pipe c.requires.limits (omega arith) in
    grind arith

pub overflow_add-result-3 : goal.overflow_add-result-3
overflow_add-result-3 c =
    let s = few-seams c.args.mesh.now c.args.window (length c.args.mesh.now.pipes) c.requires.limits (omega arith) in
    let n = sections-next c.args.mesh.now c.args.window c.args.pipe (omega arith) in
    let t = few c.args.mesh.now c.args.window (c.args.pipe + 1) c.requires.limits (omega arith) in
    grind arith
