use Rattle.std.proofs.Common.{arith}
use Rattle.envelope.proofs.Standing.{in-line, line-there}
use Rattle.envelope.proofs.folds.Fold.sample.Goals as goal

pub probed_sample-requires-clause-room : goal.probed_sample-requires-clause-room
probed_sample-requires-clause-room c = λ cell line h.
    let o = c.args.self.now in
    (line-there o cell line h, in-line o cell line c.args.step h (omega arith))
