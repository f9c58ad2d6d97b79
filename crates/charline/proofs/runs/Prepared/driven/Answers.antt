use Rattle.std.proofs.Common.{FitsSigned, w64, rules}
use Rattle.std.proofs.lemmas.Int.{to_z-of_z}
use Rattle.charline.proofs.runs.Prepared.driven.Goals as goal

pub returns-then-is_head : goal.returns-then-is_head
returns-then-is_head c =
    let p = c.args.self.now in
    let fh = c.ranges.head in
    let fd = c.ranges.difference in
    let ft : FitsSigned w64 p.top = search rules in
    let fm : FitsSigned w64 p.most = search rules in
    record {
      at = simp to_z-of_z at c.spot.ensures.head;
      flow = simp to_z-of_z at c.spot.ensures.flow;
      above = simp to_z-of_z at (c.is_head.ensures.above c.if-is_head.true);
      near = simp to_z-of_z at (c.is_small.ensures c.if-is_small.true);
    }
