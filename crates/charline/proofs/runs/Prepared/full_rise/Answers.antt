use Rattle.charline.proofs.Calm.{exact_rise}
use Rattle.charline.proofs.runs.Prepared.full_rise.Goals as goal

pub returns-clause-value : goal.returns-clause-value
returns-clause-value c =
    let p = c.args.self.now in
    exact_rise p.b p.r c.args.q c.impedance_head.result c.friction_head.result c.narrowed.result p.limits.high p.limits.friction c.requires
    c.impedance_head.ensures.size c.friction_head.ensures.size c.narrowed.ensures.size
    c.impedance_head.ensures.value c.friction_head.ensures.value c.narrowed.ensures.value
