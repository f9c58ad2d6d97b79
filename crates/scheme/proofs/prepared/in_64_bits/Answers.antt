use Rattle.scheme.proofs.Calm.{impeded_as, resisted_as, below_as}
use Rattle.case_model.specs.Division.{vapour_head}
use Rattle.scheme.specs.Arrivals.{impedance, resistance}
use Rattle.scheme.proofs.prepared.in_64_bits.Goals as goal

pub returns : goal.returns
returns c =
    let p = c.args.pipe in
    let top = c.highest_vapour_head-top in
    record {
      impeded = impeded_as c.of.result.b c.impedance-b.result (impedance c.args.mesh.now p) c.impedance-b.ensures.limits c.of.ensures.impedance c.impedance-b.ensures.value;
      resisted = resisted_as c.of.result.r c.resistance-r.result (resistance c.args.mesh.now p) c.resistance-r.ensures.limits c.of.ensures.resistance c.resistance-r.ensures.value;
      highest = λ i h. below_as c.of.result.top top.result (vapour_head c.args.case.now c.args.mesh.now p i) top.ensures.size c.of.ensures.top (top.ensures.highest i h);
    }
