use Rattle.regionrun.proofs.Merging.{one-done}
use Rattle.regionrun.proofs.gathering.take_in.Goals as goal

pub returns-clause-stands : goal.returns-clause-stands
returns-clause-stands g c = λ law layout x done few stands.
    one-done law layout x c.args.strand.now c.args.into.now c.merge.new.self
    c.stands_for_equal_maps.ensures
    (c.layouts_are_lawful.ensures layout law.mesh done.right.laid_out)
    c.merge.ensures.stands c.requires.part c.merge.ensures.same done few stands
