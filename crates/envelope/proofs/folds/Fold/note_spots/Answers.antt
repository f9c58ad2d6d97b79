use Rattle.std.proofs.Common.{arith, ◌∙◌, ◌+◌, ◌≤◌, length, map, get_or, sym, ap, subst}
use Rattle.std.proofs.lemmas.List.{with_items_is}
use Rattle.case_model.specs.Runs.{calm_at, calm_point}
use Rattle.envelope.specs.Calm.{ArePlain, Joins}
use Rattle.envelope.specs.Cells.{bases_of}
use Rattle.envelope.specs.Extremes.{unmet}
use Rattle.envelope.specs.Folds.{probes_of, spans_of, steps_of}
use Rattle.envelope.specs.Lines.{AreWithin}
use Rattle.envelope.specs.Layout.{IsStanding, lines_in, marks_in}
use Rattle.envelope.specs.Notings.{column, line_noted, union}
use Rattle.envelope.specs.Probes.{lines_of, marks_of}
use Rattle.envelope.proofs.Calmly.{AreTaken, calm-good, cells-fit, no-marks, own-line, taken-at, taken-unmarked}
use Rattle.envelope.proofs.Lined.{first-within}
use Rattle.envelope.proofs.Noted.{fault-kept}
use Rattle.envelope.proofs.Placed.{laid-out}
use Rattle.envelope.proofs.Settled.{all-later}
use Rattle.envelope.proofs.Standing.{in-line, line-there}
use Rattle.envelope.proofs.folds.Fold.note_spots.Goals as goal

pub cell-cell-requires : goal.cell-cell-requires
cell-cell-requires c = first-within (spans_of c.args.self.now) c.args.first (length c.args.spots.now) c.requires.span c.requires.some

pub join_spots-requires-clause-room : goal.join_spots-requires-clause-room
join_spots-requires-clause-room c =
    subst (λ cs. c.cell-cell.result + length c.args.spots.now ≤ length cs) (sym c.deref_mut.ensures.value)
    (cells-fit c.args.self.now c.args.first (length c.args.spots.now) c.cell-cell.result c.requires.span c.requires.some c.cell-cell.ensures.cell)

pub join_spots-requires-clause-late : goal.join_spots-requires-clause-late
join_spots-requires-clause-late c = λ t. subst (ArePlain c.args.step) (sym c.deref_mut.ensures.value) (c.is_late-late.ensures t)

pub keep_spots-requires-clause-own : goal.keep_spots-requires-clause-own
keep_spots-requires-clause-own c = own-line c.args.self.now

pub keep_spots-requires-clause-room : goal.keep_spots-requires-clause-room
keep_spots-requires-clause-room c = λ cell line h.
    let o = c.args.self.now in
    (line-there o cell line h, in-line o cell line c.args.step h c.requires.step)

pub returns-then-is_some-clause-stands : goal.returns-then-is_some-clause-stands
returns-then-is_some-clause-stands c = λ noted p g.
    let o = c.args.self.now in
    let spots = c.args.spots.now in
    let cell = c.cell-cell.result in
    let line = line_noted c.args.step c.args.first (map calm_point spots) in
    let lines = lines_of c.keep_spots.new.probes in
    let k = c.keep_spots.ensures in
    let v = c.deref_mut.ensures.value in
    let j = c.join_spots.ensures in
    let z = with_items_is o.cells c.join_spots.new.cells (j.count ∙ ap length v ∙ sym o.cells.ok.0) in
    let t : AreTaken o.spans.items (bases_of o.spans.items) o.every (marks_in o) o.cells.items c.join_spots.new.cells (lines_in o) lines cell c.args.step spots = record {
      here = λ i h. subst (λ cs. Joins (get_or cs (cell + i) unmet) (get_or c.join_spots.new.cells (cell + i) unmet) c.args.step (calm_at spots i)) v (j.here i h);
      others = λ n h. j.others n h ∙ ap (λ cs. get_or cs n unmet) v;
      line_here = k.here;
      line_others = k.others;
    } in
    record {
      places = λ n w.
          subst (λ cs. IsStanding o.spans.items (bases_of o.spans.items) o.steps o.every (marks_of c.keep_spots.new.probes) cs lines n (column (union noted line) n)) (sym z)
          (subst (λ m. IsStanding o.spans.items (bases_of o.spans.items) o.steps o.every m c.join_spots.new.cells lines n (column (union noted line) n)) (sym k.marks)
          (taken-at o.spans.items (bases_of o.spans.items) (probes_of o) o.steps o.every (marks_in o) o.cells.items c.join_spots.new.cells (lines_in o) lines cell c.args.step c.args.first n (length (probes_of o)) spots noted
          o.rising (laid-out o.spans.items o.rising) o.marked c.requires.span c.cell-cell.ensures.cell c.requires.step t g w (p.places n w)));
      first_fault = fault-kept (spans_of o) (steps_of o) noted line o.fault g p.first_fault (calm-good (spans_of o) (steps_of o) c.args.step c.args.first spots);
    }

pub returns-else-is_some-clause-stands : goal.returns-else-is_some-clause-stands
returns-else-is_some-clause-stands c = λ noted p g.
    let o = c.args.self.now in
    let spots = c.args.spots.now in
    let cell = c.cell-cell.result in
    let line = line_noted c.args.step c.args.first (map calm_point spots) in
    let v = c.deref_mut.ensures.value in
    let j = c.join_spots.ensures in
    let z = with_items_is o.cells c.join_spots.new.cells (j.count ∙ ap length v ∙ sym o.cells.ok.0) in
    let t = taken-unmarked o.spans.items (bases_of o.spans.items) o.every (marks_in o) o.cells.items c.join_spots.new.cells (lines_in o) cell c.args.step spots
    (no-marks o.probes (sym c.if-is_some.false ∙ c.is_some.ensures))
    (λ i h. subst (λ cs. Joins (get_or cs (cell + i) unmet) (get_or c.join_spots.new.cells (cell + i) unmet) c.args.step (calm_at spots i)) v (j.here i h))
    (λ n h. j.others n h ∙ ap (λ cs. get_or cs n unmet) v) in
    record {
      places = λ n w.
          subst (λ cs. IsStanding o.spans.items (bases_of o.spans.items) o.steps o.every (marks_in o) cs (lines_in o) n (column (union noted line) n)) (sym z)
          (taken-at o.spans.items (bases_of o.spans.items) (probes_of o) o.steps o.every (marks_in o) o.cells.items c.join_spots.new.cells (lines_in o) (lines_in o) cell c.args.step c.args.first n (length (probes_of o)) spots noted
          o.rising (laid-out o.spans.items o.rising) o.marked c.requires.span c.cell-cell.ensures.cell c.requires.step t g w (p.places n w));
      first_fault = fault-kept (spans_of o) (steps_of o) noted line o.fault g p.first_fault (calm-good (spans_of o) (steps_of o) c.args.step c.args.first spots);
    }

pub invariant_of-self-clause-early : goal.invariant_of-self-clause-early
invariant_of-self-clause-early c =
    let o = c.args.self.now in
    let j = c.join_spots.ensures in
    let v = c.deref_mut.ensures.value in
    let m = c.max-self.ensures in
    let last = c.max-self.result in
    λ t. subst (ArePlain last) (sym (with_items_is o.cells c.join_spots.new.cells (j.count ∙ ap length v ∙ sym o.cells.ok.0)))
    (j.plain last (omega arith) (subst (ArePlain last) (sym v) (all-later o.latest last o.cells.items (omega arith) (o.early t))))

pub invariant_of-self-clause-probed : goal.invariant_of-self-clause-probed
invariant_of-self-clause-probed c =
    let o = c.args.self.now in
    subst (AreWithin o.spans.items) (sym c.keep_spots.ensures.places) o.probed

pub invariant_of-self-clause-filled : goal.invariant_of-self-clause-filled
invariant_of-self-clause-filled c =
    let o = c.args.self.now in
    let j = c.join_spots.ensures in
    let each = j.count ∙ ap length c.deref_mut.ensures.value in
    ap length (with_items_is o.cells c.join_spots.new.cells (each ∙ sym o.cells.ok.0)) ∙ each ∙ o.filled

pub invariant_of-self-else-is_some-clause-early : goal.invariant_of-self-else-is_some-clause-early
invariant_of-self-else-is_some-clause-early c =
    let o = c.args.self.now in
    let j = c.join_spots.ensures in
    let v = c.deref_mut.ensures.value in
    let m = c.max-self.ensures in
    let last = c.max-self.result in
    λ t. subst (ArePlain last) (sym (with_items_is o.cells c.join_spots.new.cells (j.count ∙ ap length v ∙ sym o.cells.ok.0)))
    (j.plain last (omega arith) (subst (ArePlain last) (sym v) (all-later o.latest last o.cells.items (omega arith) (o.early t))))

pub invariant_of-self-else-is_some-clause-filled : goal.invariant_of-self-else-is_some-clause-filled
invariant_of-self-else-is_some-clause-filled c =
    let o = c.args.self.now in
    let j = c.join_spots.ensures in
    let each = j.count ∙ ap length c.deref_mut.ensures.value in
    ap length (with_items_is o.cells c.join_spots.new.cells (each ∙ sym o.cells.ok.0)) ∙ each ∙ o.filled
