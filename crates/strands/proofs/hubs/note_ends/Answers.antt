use Rattle.std.proofs.Common.{◌≡◌, ◌+◌, List, take, refl, subst}
use Rattle.std.proofs.Common.{sym, arith}
use Rattle.std.proofs.lemmas.List.{get_or_read, take_all}
use Rattle.envelope.specs.Folds.{Stands}
use Rattle.strands.proofs.Nodes.{notes-spoke, stands-more, stands-none}
use Rattle.strands.specs.Marks.{is_only, marked, or_marked}
use Rattle.strands.specs.Spokes.{IsSpokeAt, NotesSpoke, end_place, ends_marks}
use Rattle.strands.specs.Stations.{half}
use Rattle.strands.specs.declared.spokes.Spoke.{Spoke}
use Rattle.strands.proofs.hubs.note_ends.Goals as goal
use Rattle.envelope.proofs.Lined.{same-then}

pub loop-i-init : goal.loop-i-init
loop-i-init c = record {
  same = record { spans_are = refl; probes_are = refl; steps_are = refl; every_is = refl };
  stands = λ law w marks h st. stands-none law c.args.fold.now marks
      (ends_marks w (take 0 c.args.spokes.now)) (λ t p. refl) st;
}

pub note_start-requires-clause-noted : goal.note_start-requires-clause-noted
note_start-requires-clause-noted c =
    let x = c.index-spokes-i.result in
    let i = c.loop-i.i in
    notes-spoke x c.args.fold.now c.loop-i.fold c.loop-i.invariant.same
    (subst (λ z. NotesSpoke z c.args.fold.now) (sym c.index-spokes-i.is)
    (c.requires.noted i x c.loop-i-test.true))

pub loop-i-preserved : goal.loop-i-preserved
loop-i-preserved c =
    let x = c.index-spokes-i.result in
    let i = c.loop-i.i in
    let spokes = c.args.spokes.now in
    let inv = c.loop-i.invariant in
    record {
      same = same-then c.args.fold.now c.loop-i.fold c.note_start.new.fold inv.same
          c.note_start.ensures.same;
      stands = λ law w marks h st.
          stands-more law c.note_start.new.fold
          (λ spoke. is_only 0 (spoke.stretch.number + end_place spoke.last (half w))) spokes i x
          marks
          c.loop-i-test.true (get_or_read spokes i x c.loop-i-test.true c.index-spokes-i.is)
          (c.note_start.ensures.stands law w (or_marked marks (ends_marks w (take i spokes)))
          (subst (IsSpokeAt law w 0) (sym c.index-spokes-i.is) (h i x c.loop-i-test.true))
          (inv.stands law w marks h st));
    }

pub returns-clause-stands : goal.returns-clause-stands
returns-clause-stands c = λ law w marks h st.
    let spokes = c.args.spokes.now in
    let all : take c.loop-i.i spokes ≡ spokes = take_all c.loop-i.i spokes
    (omega (arith, c.loop-i-test.false)) in
    subst (λ (xs : List Spoke). Stands c.loop-i.fold
    (marked law (or_marked marks (ends_marks w xs)))) all
    (c.loop-i.invariant.stands law w marks h st)
