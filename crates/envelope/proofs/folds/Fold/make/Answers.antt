use Rattle.std.proofs.Common.{◌∙◌, ◌+◌, ◌/◌, ap, subst, sym, refl, get_or}
use Rattle.envelope.specs.Cells.{bases_of, cell_of}
use Rattle.envelope.specs.Extremes.{HasExtreme, unmet}
use Rattle.envelope.specs.Notings.{nothing, column}
use Rattle.envelope.proofs.Read.{all-unmet}
use Rattle.envelope.proofs.Standing.{nothing-met, blank-line}
use Rattle.envelope.proofs.Told.{tells}
use Rattle.envelope.proofs.folds.Fold.make.Goals as goal

pub returns-clause-stands : goal.returns-clause-stands
returns-clause-stands c = tells (record {
  places = λ k w.
      let spans = c.in_ok-from_slice.field-0.items in
      let cell = cell_of spans (bases_of spans) k in
      record {
        envelope = subst (λ x. HasExtreme (column nothing k) c.args.steps x)
            (sym (ap (λ xs. get_or xs cell unmet) c.in_ok-blank_cells.ensures ∙ all-unmet c.count_cells-count.result cell))
            (nothing-met (column nothing k) c.args.steps (λ s. refl));
        line_has = λ line q.
            blank-line (column nothing k) c.args.steps c.args.every (c.args.steps / c.args.every + 1) _ (λ s. refl)
            (c.in_ok-make_probes.ensures.blank.blank line (c.in_ok-make_probes.ensures.own.own _ line q).0);
      };
  first_fault = λ s k l w. refl;
})
