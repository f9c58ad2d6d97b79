use Rattle.envelope.specs.Notings.{only}
use Rattle.envelope.specs.Folds.{spans_of, steps_of}
use Rattle.envelope.proofs.Noted.{bad-only, noted-past, places-kept, taken-only}
use Rattle.envelope.proofs.folds.Fold.fail.Goals as goal

pub returns-then-step-last-clause-stands : goal.returns-then-step-last-clause-stands
returns-then-step-last-clause-stands c = λ map x t b p g.
    let fold = c.args.self.now in
    record {
      places = places-kept fold map (only c.args.step c.args.place x) g (λ s k l. taken-only c.args.step c.args.place x s k t) p.places;
      first_fault = c.earlier-self.ensures (spans_of fold) (steps_of fold) map (only c.args.step c.args.place x) g p.first_fault (bad-only (spans_of fold) (steps_of fold) c.args.step c.args.place x c.if-step-last.true c.requires b);
    }

pub returns-else-step-last-clause-stands : goal.returns-else-step-last-clause-stands
returns-else-step-last-clause-stands c = λ map x t b p g. noted-past c.args.self.now map c.args.step c.args.place x c.if-step-last.false g p
