use Rattle.std.proofs.Common.{◌∙◌, ◌+◌, refl, sym, ap, get_or, None, arith}
use Rattle.envelope.specs.Probes.{lines_of, marks_of}
use Rattle.envelope.proofs.SpotLines.{kept-more, none-kept, room-still}
use Rattle.envelope.proofs.probes.keep_spots.Goals as goal

pub loop-i-init : goal.loop-i-init
loop-i-init c = record { places = refl; marks = refl; kept = none-kept c.args.spots.now (marks_of c.args.probes.now) c.args.first c.args.step c.args.every (lines_of c.args.probes.now) }

pub keep_probed-requires-clause-room : goal.keep_probed-requires-clause-room
keep_probed-requires-clause-room c =
    room-still (marks_of c.args.probes.now) (marks_of c.loop-i.probes) (lines_of c.args.probes.now) (lines_of c.loop-i.probes) (c.args.first + c.loop-i.i) _
    (c.requires.room (c.args.first + c.loop-i.i)) c.loop-i.invariant.kept.same c.loop-i.invariant.marks

pub loop-i-preserved : goal.loop-i-preserved
loop-i-preserved c =
    let k = c.keep_probed.ensures in
    let m = c.loop-i.invariant.marks in
    record {
      places = k.places ∙ c.loop-i.invariant.places;
      marks = k.marks ∙ m;
      kept = kept-more c.args.spots.now (marks_of c.args.probes.now) c.args.first c.loop-i.i c.args.step c.args.every (lines_of c.args.probes.now) (lines_of c.loop-i.probes) (lines_of c.keep_probed.new.probes) c.index-spots-i.result
          c.loop-i-test.true c.index-spots-i.is c.requires.own c.loop-i.invariant.kept
          (record {
            here = λ line last f g a q gs gn h. k.here line last f g a (ap (λ z. get_or z (c.args.first + c.loop-i.i) None) m ∙ q) (gs ∙ sym c.of_spot.ensures) gn h;
            others = λ l n. k.others l (λ q. n (ap (λ z. get_or z (c.args.first + c.loop-i.i) None) (sym m) ∙ q));
            same = k.same;
          });
    }

pub returns-clause-here : goal.returns-clause-here
returns-clause-here c = λ i line last f g h. c.loop-i.invariant.kept.here i line last f g (omega arith)

pub returns-clause-others : goal.returns-clause-others
returns-clause-others c = λ l h. c.loop-i.invariant.kept.others l (λ i b. h i (omega arith))

pub returns-clause-same : goal.returns-clause-same
returns-clause-same c = c.loop-i.invariant.kept.same
