use Rattle.fronts.proofs.Keeping.{put-of}
use Rattle.fronts.proofs.Raising.{put-on}
use Rattle.fronts.proofs.stretches.Stretch.put.Goals as goal

pub returns-clause-holds : goal.returns-clause-holds
returns-clause-holds c law since front sooner later p e h =
    put-on law c.args.step c.args.place c.args.point c.args.self.now c.put_of.new.self since front sooner later
    (put-of c.args.step c.args.place c.args.point c.args.self.now c.put_of.new.self c.put_of.ensures) p e h
