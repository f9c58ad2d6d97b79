use Rattle.std.proofs.Common.{◌+◌, arith}
use Rattle.envelope.specs.Notings.{union}
use Rattle.fronts.specs.Noted.{run_noted}
use Rattle.strands.specs.Marks.{is_between, marked, or_marked}
use Rattle.strands.proofs.Marking.{agree-marked, numbered-line, same-split-run, union-marked}
use Rattle.strands.proofs.stations.advance_run.Goals as goal

pub returns-clause-advanced : goal.returns-clause-advanced
returns-clause-advanced g c = λ since front later ra h.
    let law = g.L.Law.meaning c.args.law.now in
    let old = c.args.stretch.now in
    let new = c.step_run.new.self in
    let run = run_noted new (c.args.step + 1) c.args.low c.args.high in
    let held = c.step_run.ensures.holds since front later ra h in
    let split = same-split-run law old new c.args.step c.args.low c.args.high since front later c.numbers_tell_places.ensures.place (numbered-line law old c.requires.line) c.step_run.ensures.stepped.same (omega (arith, c.requires.before_last)) ra held in
    record {
      same = c.step_run.ensures.stepped.same;
      same_fold = c.note.ensures.same;
      holds = held;
      stands = λ marks st.
          c.stands_for_equal_maps.ensures c.note.new.fold (union (marked law marks) run) (marked law (or_marked marks (is_between old front later)))
          (λ s k l w. union-marked law run marks (is_between old front later) s k (split s k))
          (c.note.ensures.stands (marked law marks) st (agree-marked law run marks (is_between old front later) split));
    }
