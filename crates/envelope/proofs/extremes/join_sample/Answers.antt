use Rattle.std.proofs.Common.{◌∙◌, sym, subst, arith, to_z-of_z}
use Rattle.std.proofs.lemmas.List.{get_or_default, get_or-set_same}
use Rattle.envelope.specs.Calm.{IsPlain}
use Rattle.envelope.specs.Extremes.{HasExtreme, either, unmet}
use Rattle.envelope.proofs.Settled.{plain-set}
use Rattle.envelope.proofs.extremes.join_sample.Goals as goal

pub join_taken-requires : goal.join_taken-requires
join_taken-requires c = λ late.
    subst (IsPlain c.args.step) (sym (c.index_mut.ensures.value ∙ get_or_default c.args.cells.now.items c.args.cell c.index_mut.result.now unmet c.requires.there)) (c.requires.late late c.args.cell)

pub returns-clause-here : goal.returns-clause-here
returns-clause-here c = λ f g last l a gs gn h.
    let x = c.args.sample.now in
    let cells = c.args.cells.now.items in
    subst (HasExtreme (either f g) last) (sym (get_or-set_same cells c.args.cell c.join_taken.new.cell unmet c.requires.there))
    (c.join_taken.ensures.here (record { h = x.h; qu = x.qu; qd = x.qd; v = x.v }) (grind (arith, to_z-of_z)) (grind (arith, to_z-of_z)) f g last l a gs gn
    (subst (HasExtreme f last) (sym (c.index_mut.ensures.value ∙ get_or_default cells c.args.cell c.index_mut.result.now unmet c.requires.there)) h))

pub returns-clause-plain : goal.returns-clause-plain
returns-clause-plain c = λ last l o h.
    let cells = c.args.cells.now.items in
    plain-set last cells c.args.cell c.join_taken.new.cell h c.requires.there
    (c.join_taken.ensures.plain last l (grind (arith, to_z-of_z))
    (subst (IsPlain last) (sym (c.index_mut.ensures.value ∙ get_or_default cells c.args.cell c.index_mut.result.now unmet c.requires.there)) (h c.args.cell)))
