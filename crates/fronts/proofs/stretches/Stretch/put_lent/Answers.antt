use Rattle.fronts.proofs.Keeping.{put-of}
use Rattle.fronts.proofs.Raising.{put-on}
use Rattle.fronts.proofs.stretches.Stretch.put_lent.Goals as goal

pub returns-clause-holds : goal.returns-clause-holds
returns-clause-holds c law since front sooner later p e h =
    put-on law c.args.step c.args.place c.args.point.now c.args.self.now c.put_read.new.self since front sooner later
    (put-of c.args.step c.args.place c.args.point.now c.args.self.now c.put_read.new.self c.put_read.ensures) p e h
