use Rattle.std.proofs.Common.{arith, to_z-of_z}
use Rattle.std.proofs.lemmas.Int.{ints}
use Rattle.case_model.specs.Parts.{pipe_at, node_at}
use Rattle.case_model.specs.Mesh.{reaches}
use Rattle.scheme.proofs.Calm.{elevation_below}
use Rattle.fixed_num.proofs.Fits.{fits}
use Rattle.scheme.proofs.vapour.highest_vapour_head.Goals as goal

pub returns-clause-highest : goal.returns-clause-highest
returns-clause-highest c = λ i h.
    let case = c.args.case.now in
    let line = pipe_at case c.args.pipe in
    let e = elevation_below (node_at case line.first).elevation (node_at case line.last).elevation case.vapour i (reaches c.args.mesh.now c.args.pipe) h in
    let x = c.higher_end.ensures.value in
    let y = c.raised.ensures.value in
    let fx = fits c.higher_end.result (omega (arith, c.higher_end.ensures.size)) in
    let fy = fits c.raised.result (omega (arith, c.raised.ensures.size)) in
    grind (arith, to_z-of_z, ints)
