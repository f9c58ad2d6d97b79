use Rattle.std.proofs.Common.{◌≡◌, ◌+◌, ◌-◌, ◌<◌, ◌≤◌, ◌∙◌, ap, subst, sym, arith, min}
use Rattle.envelope.specs.Folds.{spans_of}
use Rattle.envelope.specs.Notings.{union}
use Rattle.fronts.specs.Fronts.{Raises}
use Rattle.fronts.specs.Noted.{run_noted}
use Rattle.fronts.specs.Stretches.{count_of}
use Rattle.strands.proofs.Marking.{agree-marked, same-split-run, union-marked}
use Rattle.strands.proofs.Spoking.{low-inside, low-is, spoke-holds, within-spoke}
use Rattle.strands.specs.Marks.{is_between, marked, or_marked}
use Rattle.strands.specs.Spokes.{end_place, inner_low, run_low}
use Rattle.strands.proofs.spokes.Spoke.advance.Goals as goal
use Rattle.fronts.proofs.Keeping.{places-then}

pub returns-clause-advanced : goal.returns-clause-advanced
returns-clause-advanced g c = λ since front later ra p h.
    let law = g.L.Law.meaning c.args.law.now in
    let last = c.args.self.now.last in
    let old = c.args.self.now.stretch in
    let mid = c.step_run.new.self in
    let new = c.put_lent.new.self in
    let step = c.args.step in
    let most = c.args.most in
    let n = count_of old - 1 in
    let size : count_of old ≡ n + 1 = omega (arith, c.requires.inside) in
    let a : most < n = omega (arith, c.requires.inside) in
    let at-is : c.end-at.result ≡ end_place last n = c.end-at.ensures in
    let low-in : c.inner_low-low.result ≡ inner_low last n most = c.inner_low-low.ensures in
    let same = places-then old mid new c.step_run.ensures.stepped.same c.put_lent.ensures.put.same in
    let held = spoke-holds law last n step most c.inner_low-low.result c.end-at.result old mid new
    since front later c.args.point.now
    size a low-in at-is c.step_run.ensures.stepped.same ra p c.step_run.ensures.holds
    (c.put_lent.ensures.holds law) h in
    let low : c.min-low.result ≡ run_low last n most =
    c.min-low.ensures ∙ ap (λ z. min z c.end-at.result) low-in ∙ ap (min (inner_low last n most))
    at-is ∙ low-is last n most a in
    let raised = subst (λ z. Raises step (λ x. x) z (z + most + 1) (count_of old) since front later)
    (sym low) ra in
    let inside : run_low last n most + most + 1 ≤ n + 1 = (low-inside last n most a).1.1 in
    let run = run_noted new (step + 1) c.min-low.result (c.min-low.result + most + 1) in
    let split = same-split-run law old new step c.min-low.result (c.min-low.result + most + 1) since
    front later
    c.numbers_tell_places.ensures.place c.requires.line same (omega arith) raised held in
    record {
      same = same;
      same_fold = c.note.ensures.same;
      holds = held;
      stands = λ marks st.
          c.stands_for_equal_maps.ensures c.note.new.fold (union (marked law marks) run)
          (marked law (or_marked marks (is_between old front later)))
          (λ s k l w. union-marked law run marks (is_between old front later) s k (split s k))
          (c.note.ensures.stands (marked law marks) st
          (agree-marked law run marks (is_between old front later) split));
    }

pub note-requires-clause-span : goal.note-requires-clause-span
note-requires-clause-span g c =
    let last = c.args.self.now.last in
    let old = c.args.self.now.stretch in
    let most = c.args.most in
    let n = count_of old - 1 in
    let size : count_of old ≡ n + 1 = omega (arith, c.requires.inside) in
    let a : most < n = omega (arith, c.requires.inside) in
    let low : c.min-low.result ≡ run_low last n most =
    c.min-low.ensures ∙ ap (λ z. min z c.end-at.result) c.inner_low-low.ensures
    ∙ ap (min (inner_low last n most)) c.end-at.ensures
    ∙ low-is last n most a in
    within-spoke last n most c.min-low.result old.number c.put_lent.new.self.number (count_of old)
    (spans_of c.args.fold.now) size a low
    (c.put_lent.ensures.put.same.number_is ∙ c.step_run.ensures.stepped.same.number_is) c.requires.noted
