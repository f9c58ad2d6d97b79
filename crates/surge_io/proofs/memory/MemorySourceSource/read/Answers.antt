use Rattle.surge_io.proofs.Taking.{lost}
use Rattle.surge_io.proofs.memory.MemorySourceSource.read.Goals as goal

pub returns-clause-gave : goal.returns-clause-gave
returns-clause-gave c =
    rw (← c.self.view_is) (lost c.self.inside.at c.give-given.result c.self.inside.piece c.self.inside.bytes.items c.args.into.now c.give-given.new.into
    (rw c.deref-2.ensures.value at c.give-given.ensures.length) (rw c.deref-2.ensures.value at c.give-given.ensures.front) c.give-given.auto.into c.self.invariant.1)
