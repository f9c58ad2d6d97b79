use Rattle.std.proofs.Common.{◌∙◌, ap, refl}
use Rattle.std.specs.Global.{Vec}
use Rattle.endhistory.specs.declared.history.Reader.{Reader}
use Rattle.regionrun.specs.declared.frontiers.Frontier.{Frontier}
use Rattle.runners.specs.Runners.{computed_in}
use Rattle.runners.proofs.Found.{free-there, seen-on}
use Rattle.runners.proofs.Going.{entering}
use Rattle.runners.proofs.Leaving.{left}
use Rattle.runners.proofs.runners.Runner.advance.Goals as goal

pub take_in-requires-clause-running : goal.take_in-requires-clause-running
take_in-requires-clause-running g c κs within =
    entering g.L.Law.meaning g.S.EntryStub.strand_of g.S.EntryStub.entered_of c.args.tag.now
    c.find_full.new.self c.enter.new.self c.find_full.ensures.good c.enter.ensures.stub
    c.enter.ensures.same

pub take_in-requires-clause-seen : goal.take_in-requires-clause-seen
take_in-requires-clause-seen g c κs within =
    seen-on (g.L.Law.meaning c.args.tag.now.law.now) c.args.tag.now.layout.now
    c.args.tag.now.histories.now c.args.self.now.strand.frontier c.enter.new.self.frontier
    c.args.self.now.readers.items c.find_late.new.self.readers.items
    c.find_full.new.self.readers.items c.requires.good.running.readers
    c.in_default.ensures.answer (ap (λ (v : Vec Reader). v.items) c.find_full.ensures.readers)
    (c.enter.ensures.same ∙ ap (λ s. s.frontier)
    (c.find_full.ensures.strand ∙ c.find_late.ensures.strand))

pub hand_on-requires-clause-free : goal.hand_on-requires-clause-free
hand_on-requires-clause-free g c κs within =
    free-there g.L.Law.meaning g.S.EntryStub.strand_of g.S.EntryStub.entered_of c.args.tag.now
    c.find_late.new.self c.find_full.new.self c.take_in.new.self.writer
    (computed_in c.take_in.new.self) c.find_late.ensures.good c.find_full.ensures.good
    c.find_full.ensures.strand c.in_default-find_full.ensures.answer
    (c.take_in.ensures.same.1 ∙ ap (λ (f : Frontier). f.computed) c.enter.ensures.same
    ∙ ap (λ s. s.frontier.computed) c.find_full.ensures.strand)
    c.take_in.ensures.writer

pub returns-clause-told : goal.returns-clause-told
returns-clause-told g c =
    left g.L.Law.meaning g.S.EntryStub.strand_of g.S.EntryStub.entered_of c.args.tag.now
    c.args.self.now c.find_late.new.self c.find_full.new.self
    (record c.find_full.new.self { strand = c.enter.new.self }) c.take_in.new.self
    c.hand_on.new.self c.requires.good c.find_late.ensures.strand c.find_late.ensures.writer
    c.in_default.ensures.answer c.find_full.ensures.strand c.find_full.ensures.readers
    c.in_default-find_full.ensures.answer c.enter.ensures.same refl refl
    c.take_in.ensures.same.1 c.take_in.ensures.writer c.take_in.ensures.passed
    c.take_in.ensures.kept c.hand_on.ensures.same.1 c.hand_on.ensures.same.2
    c.hand_on.ensures.published c.hand_on.ensures.kept
