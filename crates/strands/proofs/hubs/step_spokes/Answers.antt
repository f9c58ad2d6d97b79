use Rattle.std.proofs.Common.{◌≡◌, ◌+◌, ◌<◌, List, length, take, refl, subst, sym}
use Rattle.std.proofs.Common.{arith}
use Rattle.std.proofs.lemmas.List.{take_all}
use Rattle.envelope.specs.Folds.{Stands}
use Rattle.strands.proofs.Nodes.{notes-spoke, stands-more, stands-none, stepped-more}
use Rattle.strands.proofs.Nodes.{stepped-none, stepped-read}
use Rattle.strands.specs.Marks.{Marks, is_between, marked, or_marked}
use Rattle.strands.specs.Spokes.{IsSpokeLater, NotesSpoke, spoke_front, spokes_marks}
use Rattle.strands.specs.declared.spokes.Spoke.{Spoke}
use Rattle.strands.proofs.hubs.step_spokes.Goals as goal
use Rattle.envelope.proofs.Lined.{same-then}

pub loop-i-init : goal.loop-i-init
loop-i-init g c =
    let law = g.L.Law.meaning c.args.law.now in
    record {
      stepped = stepped-none law c.args.at.window c.args.at.start c.args.at.done
          c.args.spokes.now.items;
      same = record { spans_are = refl; probes_are = refl; steps_are = refl; every_is = refl };
      stands = λ marks st.
          stands-none law c.args.fold.now marks
          (spokes_marks c.args.at.window c.args.at.start c.args.at.done (c.args.at.done + 1)
          (take 0 c.args.spokes.now.items)) (λ t p. refl) st;
    }

pub step-requires-clause-noted : goal.step-requires-clause-noted
step-requires-clause-noted g c κs within =
    let law = g.L.Law.meaning c.args.law.now in
    let x = c.index_mut.result.now in
    let i = c.loop-i.i in
    let olds = c.args.spokes.now.items in
    let inv = c.loop-i.invariant in
    let b : i < length olds = omega (
      arith,
      inv.stepped.each,
      c.loop-i-test.true,
      c.len-i-end.ensures,
    ) in
    let read = stepped-read law c.args.at.window c.args.at.start c.args.at.done i olds
    c.loop-i.spokes.items x inv.stepped b c.index_mut.ensures.value x in
    notes-spoke x c.args.fold.now c.loop-i.fold inv.same
    (subst (λ z. NotesSpoke z c.args.fold.now) (sym read) (c.requires.noted i x b))

pub loop-i-preserved : goal.loop-i-preserved
loop-i-preserved g c =
    let law = g.L.Law.meaning c.args.law.now in
    let w = c.args.at.window in
    let s = c.args.at.start in
    let k = c.args.at.done in
    let x = c.index_mut.result.now in
    let i = c.loop-i.i in
    let olds = c.args.spokes.now.items in
    let inv = c.loop-i.invariant in
    let f : Spoke → Marks = λ spoke. is_between spoke.stretch (spoke_front spoke.last w s k)
    (spoke_front spoke.last w s (k + 1)) in
    let b : i < length olds = omega (
      arith,
      inv.stepped.each,
      c.loop-i-test.true,
      c.len-i-end.ensures,
    ) in
    let read = stepped-read law w s k i olds c.loop-i.spokes.items x inv.stepped b
    c.index_mut.ensures.value in
    record {
      stepped = stepped-more law w s k i olds c.loop-i.spokes.items c.step.new.self inv.stepped b
          (λ d. subst (λ z. IsSpokeLater law w s k z c.step.new.self)
          (read d) c.step.ensures.later);
      same = same-then c.args.fold.now c.loop-i.fold c.step.new.fold inv.same
          c.step.ensures.same_fold;
      stands = λ marks st.
          stands-more law c.step.new.fold f olds i x marks b read
          (c.step.ensures.stands (or_marked marks (spokes_marks w s k (k + 1) (take i olds)))
          (inv.stands marks st));
    }

pub returns-clause-stands : goal.returns-clause-stands
returns-clause-stands g c = λ marks st.
    let law = g.L.Law.meaning c.args.law.now in
    let olds = c.args.spokes.now.items in
    let inv = c.loop-i.invariant in
    let all : take c.loop-i.i olds ≡ olds = take_all c.loop-i.i olds
    (omega (arith, inv.stepped.each, c.loop-i-test.false, c.len-i-end.ensures)) in
    subst (λ (xs : List Spoke). Stands c.loop-i.fold (marked law (or_marked marks
    (spokes_marks c.args.at.window c.args.at.start c.args.at.done (c.args.at.done + 1) xs)))) all
    (inv.stands marks st)
