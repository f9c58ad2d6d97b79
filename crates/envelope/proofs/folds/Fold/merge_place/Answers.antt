use Rattle.std.proofs.Common.{◌∙◌, refl, sym, subst, arith}
use Rattle.std.proofs.lemmas.List.{get_or_default}
use Rattle.envelope.specs.Calm.{IsPlain}
use Rattle.envelope.specs.Cells.{bases_of}
use Rattle.envelope.specs.Extremes.{either, unmet}
use Rattle.envelope.specs.Lines.{AreWithin}
use Rattle.envelope.specs.Layout.{IsStanding}
use Rattle.envelope.specs.Probes.{lines_of}
use Rattle.envelope.proofs.Merged.{cell-filled, cell-found, more-there, place-joined, place-kept, same-width}
use Rattle.envelope.proofs.Settled.{all-later, later}
use Rattle.envelope.proofs.Standing.{line-there}
use Rattle.envelope.proofs.folds.Fold.merge_place.Goals as goal

pub join_probed-requires-clause-there : goal.join_probed-requires-clause-there
join_probed-requires-clause-there c = λ line h. line-there c.args.self.now c.find_cell-cell.result line h

pub join_probed-requires-clause-wide : goal.join_probed-requires-clause-wide
join_probed-requires-clause-wide c = λ line more q h.
    let o = c.args.self.now in
    let r = c.args.other.now in
    let from = c.find_cell-from.result in
    (line-there r from more h, same-width o r c.find_cell-cell.result from line more c.requires.mergeable q h)

pub returns : goal.returns
returns c =
    let o = c.args.self.now in
    let r = c.args.other.now in
    let place = c.args.place in
    let cell = c.find_cell-cell.result in
    let from = c.find_cell-from.result in
    let m = c.requires.mergeable in
    let e = cell-found o _ place cell c.deref.ensures.value c.find_cell-cell.ensures.cell in
    let e2 = cell-found r _ place from c.deref-2.ensures.value c.find_cell-from.ensures.cell in
    let l = cell-filled r _ from c.deref-2.ensures.value c.find_cell-from.ensures.inside in
    let cells = c.join_cell.new.cells.items in
    let lines = lines_of c.join_probed.new.probes in
    let j = c.join_probed.ensures in
    record {
      layout = record { same = record { spans_are = refl; probes_are = j.places; steps_are = refl; every_is = refl }; marks_are = j.marks; fault_is = refl };
      joined = λ k w lo hi f g a s t.
          subst (λ n. IsStanding o.spans.items (bases_of o.spans.items) o.steps o.every n cells lines k (either f g)) (sym j.marks)
          (place-joined o r cells lines place cell from k c.index.result.now f g m e e2 l c.index.ensures
          (λ p q. c.join_cell.ensures.here f g o.steps a p q)
          (λ line q h more.
          let n = more-there o r place cell from line m c.requires.within e e2 q in
          j.here line n.0 o.steps o.every f g q n.1 h (more n.0 n.1))
          lo hi s t);
      kept = λ k w d f s.
          subst (λ n. IsStanding o.spans.items (bases_of o.spans.items) o.steps o.every n cells lines k f) (sym j.marks)
          (place-kept o r cells lines place cell k f m c.requires.within e c.join_cell.ensures.others j.others w d s);
    }

pub invariant_of-self-clause-early : goal.invariant_of-self-clause-early
invariant_of-self-clause-early c =
    let o = c.args.self.now in
    let r = c.args.other.now in
    let from = c.find_cell-from.result in
    let m = c.max-self.ensures in
    let last = c.max-self.result in
    let l = cell-filled r _ from c.deref-2.ensures.value c.find_cell-from.ensures.inside in
    λ t. c.join_cell.ensures.plain last (all-later o.latest last o.cells.items (omega arith) (o.early (c.are_plain-self.ensures.here t)))
    (subst (IsPlain last) (sym (c.index.ensures ∙ get_or_default r.cells.items from _ unmet l)) (later r.latest last _ (omega arith) (r.early (c.are_plain-self.ensures.there t) from)))

pub invariant_of-self-clause-probed : goal.invariant_of-self-clause-probed
invariant_of-self-clause-probed c =
    let o = c.args.self.now in
    subst (AreWithin o.spans.items) (sym c.join_probed.ensures.places) o.probed
