use Rattle.std.proofs.Common.{w64, FitsSigned, arith}
use Rattle.charline.proofs.Calm.{calm_from}
use Rattle.charline.proofs.runs.Prepared.meeting.Goals as goal

pub returns : goal.returns
returns c =
    let p = c.args.self.now in
    let low = p.limits.low in
    let fh : FitsSigned w64 c.half.result = record { sfits = c.half.type_inv } in
    calm_from p.b p.r p.top p.most c.args.plus c.args.minus c.half.result c.driven.result (omega arith) p.limits.difference
    c.requires.plus_in c.requires.minus_in fh c.half.ensures.value c.half.ensures.low c.driven.ensures
