use Rattle.std.proofs.Common.{subst, sym, pos, arith, to_z-of_z}
use Rattle.std.proofs.lemmas.List.{get_or_default, get_or-set_same}
use Rattle.envelope.specs.Calm.{IsPlain, IsReady}
use Rattle.envelope.specs.Extremes.{HasExtreme, either, unmet}
use Rattle.envelope.proofs.Settled.{plain-set}
use Rattle.envelope.proofs.extremes.join_spot.Goals as goal

pub join_head-requires : goal.join_head-requires
join_head-requires p c = λ late.
    let h = c.requires.late late c.args.cell in
    subst (IsReady c.args.step (pos 0)) (get_or_default c.args.cells.now c.args.cell unmet _ c.requires.there) (record { plain = h; full = h.filled })

pub returns-clause-here : goal.returns-clause-here
returns-clause-here p c = λ f g last l a gs gn h.
    let s = c.args.spot.now in
    let cells = c.args.cells.now in
    subst (HasExtreme (either f g) last) (sym (get_or-set_same cells c.args.cell c.join_head.new.cell unmet c.requires.there))
    (c.join_head.ensures.here (record { h = s.h; qu = s.q; qd = s.q; v = pos 0 }) (grind (arith, to_z-of_z)) (grind arith) f g last l a gs gn
    (subst (HasExtreme f last) (get_or_default cells c.args.cell unmet _ c.requires.there) h))

pub returns-clause-plain : goal.returns-clause-plain
returns-clause-plain p c = λ last l h.
    let cells = c.args.cells.now in
    plain-set last cells c.args.cell c.join_head.new.cell h c.requires.there
    (c.join_head.ensures.plain last l (grind arith) (subst (IsPlain last) (get_or_default cells c.args.cell unmet _ c.requires.there) (h c.args.cell)))
