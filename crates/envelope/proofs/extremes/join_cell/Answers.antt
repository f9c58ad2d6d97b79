use Rattle.std.proofs.Common.{◌∙◌, sym, subst}
use Rattle.std.proofs.lemmas.List.{get_or_default}
use Rattle.envelope.specs.Calm.{IsPlain}
use Rattle.envelope.specs.Extremes.{unmet}
use Rattle.envelope.proofs.Settled.{plain-set}
use Rattle.envelope.proofs.extremes.join_cell.Goals as goal

pub returns-then-not-covers-clause-plain : goal.returns-then-not-covers-clause-plain
returns-then-not-covers-clause-plain c = λ step h k.
    let cells = c.args.cells.now.items in
    let i = c.index-then-not-covers in
    plain-set step cells c.args.cell c.joined.result h c.requires
    (c.joined.ensures.plain step (subst (IsPlain step) (sym (i.ensures ∙ get_or_default cells c.args.cell i.result.now unmet c.requires)) (h c.args.cell)) k)
