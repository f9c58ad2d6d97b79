use Rattle.std.proofs.Common.{length, refl, sym, subst, arith, to_z-of_z}
use Rattle.envelope.specs.Cells.{bases_of}
use Rattle.envelope.specs.Extremes.{either}
use Rattle.envelope.specs.Folds.{probes_of}
use Rattle.envelope.specs.Lines.{AreWithin}
use Rattle.envelope.specs.Layout.{IsStanding, lines_in, marks_in}
use Rattle.envelope.specs.Probes.{lines_of}
use Rattle.envelope.proofs.Placed.{laid-out}
use Rattle.envelope.proofs.Settled.{all-later}
use Rattle.envelope.proofs.Standing.{in-line, line-there, standing-here, standing-elsewhere}
use Rattle.envelope.proofs.folds.Fold.keep_within.Goals as goal

pub keep_probed-requires-clause-room : goal.keep_probed-requires-clause-room
keep_probed-requires-clause-room c = λ line h.
    let o = c.args.self.now in
    (line-there o c.args.cell line h, in-line o c.args.cell line c.args.step h c.requires.step)

pub returns-clause-kept : goal.returns-clause-kept
returns-clause-kept c = λ place within e.
    let o = c.args.self.now in
    let bases = bases_of o.spans.items in
    let cells = c.join_sample.new.cells.items in
    let lines = lines_of c.keep_probed.new.probes in
    let k = c.keep_probed.ensures in
    record {
      layout = record { same = record { spans_are = refl; probes_are = k.places; steps_are = refl; every_is = refl }; marks_are = k.marks; fault_is = refl };
      here = λ f g a gs gn p.
          subst (λ m. IsStanding o.spans.items bases o.steps o.every m cells lines place (either f g)) (sym k.marks)
          (standing-here o.spans.items bases o.steps o.every (marks_in o) o.cells.items cells (lines_in o) lines place c.args.cell f g e
          (λ h. c.join_sample.ensures.here f g o.steps c.requires.step a gs gn h)
          (λ line q h. k.here line o.steps f g a q gs gn h)
          p);
      others = λ p w n f s.
          subst (λ m. IsStanding o.spans.items bases o.steps o.every m cells lines p f) (sym k.marks)
          (standing-elsewhere o.spans.items bases (probes_of o) o.steps o.every (marks_in o) o.cells.items cells (lines_in o) lines place c.args.cell p (length (probes_of o)) f
          o.rising (laid-out o.spans.items o.rising) o.marked within w n e c.join_sample.ensures.others k.others s);
    }

pub invariant_of-self-clause-early : goal.invariant_of-self-clause-early
invariant_of-self-clause-early c =
    let o = c.args.self.now in
    let m = c.max-self.ensures in
    λ t. c.join_sample.ensures.plain c.max-self.result (omega arith) (let q = c.is_still_plain-self.ensures.here t in grind (arith, to_z-of_z)) (all-later o.latest c.max-self.result o.cells.items (omega arith) (o.early (c.is_still_plain-self.ensures.before t)))

pub invariant_of-self-clause-probed : goal.invariant_of-self-clause-probed
invariant_of-self-clause-probed c =
    let o = c.args.self.now in
    subst (AreWithin o.spans.items) (sym c.keep_probed.ensures.places) o.probed
