use Rattle.std.proofs.Common.{◌≡◌, ◌<◌, arith}
use Rattle.endhistory.specs.Seats.{writing}
use Rattle.endhistory.specs.declared.answers.Vacancy.TheVariants.{Free, Held}
use Rattle.runners.specs.Runners.{computed_in}
use Rattle.runners.proofs.Found.{found-there}
use Rattle.runners.proofs.Going.{asking}
use Rattle.runners.proofs.runners.Runner.find_full.Goals as goal

pub returns-in-Free-clause-good : goal.returns-in-Free-clause-good
returns-in-Free-clause-good g c =
    asking g.L.Law.meaning g.S.EntryStub.strand_of g.S.EntryStub.entered_of c.args.tag.now
    c.args.self.now c.own_history.result.now c.vacancy.new.writer c.requires.good
    c.own_history.ensures c.in-Free.ensures.at c.in-Free.ensures.blocks c.in-Free.ensures.next

pub returns-in-Held-clause-good : goal.returns-in-Held-clause-good
returns-in-Held-clause-good g c =
    asking g.L.Law.meaning g.S.EntryStub.strand_of g.S.EntryStub.entered_of c.args.tag.now
    c.args.self.now c.own_history.result.now c.vacancy.new.writer c.requires.good
    c.own_history.ensures c.in-Held.ensures.at c.in-Held.ensures.blocks c.in-Held.ensures.next

pub returns-in-Free-clause-answer : goal.returns-in-Free-clause-answer
returns-in-Free-clause-answer g c =
    let e : c.args.self.now.computed ≡ computed_in c.args.self.now =
    c.requires.good.running.computed_is in
    record {
      writes = λ below.
          found-there g.L.Law.meaning g.S.EntryStub.strand_of g.S.EntryStub.entered_of
          c.args.tag.now c.args.self.now c.own_history.result.now Free
          (writing c.vacancy.new.writer.seat) c.requires.good c.own_history.ensures
          c.in-Free.ensures.answer;
      none = λ high. absurd (omega arith);
    }

pub returns-in-Held-clause-answer : goal.returns-in-Held-clause-answer
returns-in-Held-clause-answer g c =
    let e : c.args.self.now.computed ≡ computed_in c.args.self.now =
    c.requires.good.running.computed_is in
    let writes : computed_in c.args.self.now < c.args.tag.now.layout.now.windows = omega arith in (
      writes,
      found-there g.L.Law.meaning g.S.EntryStub.strand_of g.S.EntryStub.entered_of
          c.args.tag.now c.args.self.now c.own_history.result.now (Held c.in-Held.reader c.in-Held.passed)
          (writing c.vacancy.new.writer.seat) c.requires.good c.own_history.ensures
          c.in-Held.ensures.answer,
    )
