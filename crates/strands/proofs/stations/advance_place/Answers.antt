use Rattle.std.proofs.Common.{◌≡◌, ◌+◌, ◌-◌, arith, subst, sym}
use Rattle.envelope.specs.Cells.{AreInOneSpan}
use Rattle.envelope.specs.Folds.{spans_of}
use Rattle.envelope.specs.Notings.{union}
use Rattle.fronts.specs.Noted.{run_noted}
use Rattle.strands.specs.Marks.{is_between, marked, or_marked}
use Rattle.strands.proofs.Marking.{agree-marked, numbered-line, same-split-run, union-marked}
use Rattle.strands.proofs.stations.advance_place.Goals as goal

pub note-requires-clause-span : goal.note-requires-clause-span
note-requires-clause-span g c =
    let place = c.args.place in
    let one : place + 1 - place ≡ 1 = omega arith in
    let number = c.step_place.ensures.stepped.same.number_is in
    subst (λ n. AreInOneSpan (spans_of c.args.fold.now) (n + place) (place + 1 - place)) (sym number)
    (subst (λ n. AreInOneSpan (spans_of c.args.fold.now) (c.args.stretch.now.number + place) n)
    (sym one) c.requires.noted)

pub returns-clause-advanced : goal.returns-clause-advanced
returns-clause-advanced g c = λ since front later ra h.
    let law = g.L.Law.meaning c.args.law.now in
    let old = c.args.stretch.now in
    let new = c.step_place.new.self in
    let place = c.args.place in
    let run = run_noted new (c.args.step + 1) place (place + 1) in
    let held = c.step_place.ensures.holds since front later ra h in
    let split = same-split-run law old new c.args.step place (place + 1) since front later
    c.numbers_tell_places.ensures.place (numbered-line law old c.requires.line)
    c.step_place.ensures.stepped.same (omega (arith, c.requires.before_last)) ra held in
    record {
      same = c.step_place.ensures.stepped.same;
      same_fold = c.note.ensures.same;
      holds = held;
      stands = λ marks st.
          c.stands_for_equal_maps.ensures c.note.new.fold (union (marked law marks) run)
          (marked law (or_marked marks (is_between old front later)))
          (λ s k l w. union-marked law run marks (is_between old front later) s k (split s k))
          (c.note.ensures.stands (marked law marks) st
          (agree-marked law run marks (is_between old front later) split));
    }
