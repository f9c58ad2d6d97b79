use Rattle.std.proofs.Common.{◌≡◌, ◌∙◌, ◌-◌, ◌+◌, ◌<◌, ◌≤◌, ap, refl, sym, subst, true, arith}
use Rattle.envelope.specs.Cells.{is_within}
use Rattle.envelope.specs.Folds.{Stands, spans_of}
use Rattle.envelope.specs.Notings.{Agree, noted, only, union}
use Rattle.envelope.specs.Notings.Noting.{OfPoint}
use Rattle.envelope.proofs.Lined.{same-then, still-within}
use Rattle.fronts.specs.Noted.{run_noted}
use Rattle.fronts.proofs.Lining.{noted-more, noted-none, run-agrees}
use Rattle.fronts.proofs.stretches.Stretch.note_points.Goals as goal

pub loop-place-init : goal.loop-place-init
loop-place-init c = record {
  same = record { spans_are = refl; probes_are = refl; steps_are = refl; every_is = refl };
  stands = λ m h a.
      c.stands_for_equal_maps.ensures c.args.fold.now m (union m (run_noted c.args.self.now c.args.step c.args.low c.args.low))
      (λ s k l w. noted-none m c.args.self.now c.args.step c.args.low s k) h;
}

pub note-requires : goal.note-requires
note-requires c =
    let low : c.args.low ≤ c.loop-place.place = c.loop-place.auto.place in
    let high : c.loop-place.place < c.args.high = c.loop-place-test.true in
    let e : c.args.self.now.number + c.args.low + (c.loop-place.place - c.args.low) ≡ c.args.self.now.number + c.loop-place.place = omega arith in
    subst (λ z. is_within (spans_of c.loop-place.fold) z ≡ true) e
    (still-within c.args.fold.now c.loop-place.fold (c.args.self.now.number + c.args.low) (c.args.high - c.args.low) (c.loop-place.place - c.args.low) c.loop-place.invariant.same c.requires.span (omega arith))

pub loop-place-preserved : goal.loop-place-preserved
loop-place-preserved c =
    let o = c.args.self.now in
    let step = c.args.step in
    let place = c.loop-place.place in
    let low = c.loop-place.auto.place in
    record {
      same = same-then c.args.fold.now c.loop-place.fold c.note.new.self c.loop-place.invariant.same c.note.ensures.same;
      stands = λ m h a.
          let run = union m (run_noted o step c.args.low place) in
          c.stands_for_equal_maps.ensures c.note.new.self (noted run step (o.number + place) (OfPoint c.point.result)) (union m (run_noted o step c.args.low (place + 1)))
          (λ s k l w. ap (λ p. noted run step (o.number + place) (OfPoint p) s k) c.point.ensures.point ∙ noted-more m o step c.args.low place s k low)
          (c.note.ensures.stands run (c.loop-place.invariant.stands m h a)
          (subst (λ p. Agree run (only step (o.number + place) (OfPoint p))) (sym c.point.ensures.point) (run-agrees m o step c.args.low place c.args.high low c.loop-place-test.true a)));
    }

pub returns-clause-stands : goal.returns-clause-stands
returns-clause-stands c = λ m h a.
    let e : c.loop-place.place ≡ c.args.high = omega (arith, c.loop-place.auto.place-end c.requires.order, c.loop-place-test.false) in
    subst (λ n. Stands c.loop-place.fold (union m (run_noted c.args.self.now c.args.step c.args.low n))) e (c.loop-place.invariant.stands m h a)
