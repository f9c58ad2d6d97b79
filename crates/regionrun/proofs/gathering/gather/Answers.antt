use Rattle.std.proofs.Common.{◌≡◌, ◌∙◌, ℕ, ◌<◌, length, refl, subst, sym, arith}
use Rattle.envelope.specs.Folds.{Stands}
use Rattle.regionrun.specs.Gathering.{IsDone, IsPart}
use Rattle.regionrun.specs.Owned.{owned_below}
use Rattle.strands.specs.Marks.{marked}
use Rattle.regionrun.proofs.Merging.{all-gathered, none-gathered, same-part}
use Rattle.regionrun.proofs.gathering.gather.Goals as goal
use Rattle.envelope.proofs.Lined.{same-then}

pub loop-strand-init : goal.loop-strand-init
loop-strand-init g c = record {
  same = record { spans_are = refl; probes_are = refl; steps_are = refl; every_is = refl };
  stands = λ law layout done few fresh.
      none-gathered law layout c.args.into.now c.stands_for_equal_maps.ensures fresh;
}

pub take_in-requires : goal.take_in-requires
take_in-requires g c = record {
  part =
      same-part c.args.into.now c.loop-strand.into c.strand-item.result.frontier.fold
      c.loop-strand.invariant.same
      (subst (λ s. IsPart c.args.into.now s.frontier.fold) (sym c.strand-item.is)
      (c.requires.fits c.loop-strand.strand-index c.strand-item.result c.loop-strand-test.true));
}

pub loop-strand-preserved : goal.loop-strand-preserved
loop-strand-preserved g c = record {
  same =
      same-then c.args.into.now c.loop-strand.into c.take_in.new.into c.loop-strand.invariant.same
      c.take_in.ensures.same;
  stands = λ law layout done few fresh.
      let x : ℕ = c.loop-strand.strand-index in
      let here : x < length layout.shapes =
      subst (λ (n : ℕ). x < n) done.each c.loop-strand-test.true in
      let steps = c.loop-strand.invariant.same.steps_are in
      c.take_in.ensures.stands law layout x
      (subst (IsDone law layout x) (sym c.strand-item.is)
      (done.strand x c.strand-item.result here))
      (omega arith) (c.loop-strand.invariant.stands law layout done few fresh);
}

pub returns-clause-stands : goal.returns-clause-stands
returns-clause-stands g c = λ law layout done few spans fresh.
    let all : c.loop-strand.strand-index ≡ length layout.shapes = omega (arith, done.each) in
    let same = c.loop-strand.invariant.same in
    let steps = same.steps_are in
    all-gathered law layout c.loop-strand.into c.stands_for_equal_maps.ensures
    (c.layouts_are_lawful.ensures layout law.mesh done.laid_out) (omega arith)
    (same.spans_are ∙ spans)
    (subst (λ (n : ℕ). Stands c.loop-strand.into
    (marked law (owned_below law.mesh layout.window n))) all
    (c.loop-strand.invariant.stands law layout done few fresh))
