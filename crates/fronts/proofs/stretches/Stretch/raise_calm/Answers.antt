use Rattle.std.proofs.Common.{◌∙◌, ap, sym, refl, length, arith}
use Rattle.std.proofs.lemmas.List.{with_items_is}
use Rattle.fronts.specs.Stretches.{count_of}
use Rattle.fronts.proofs.Stepping.{stepped-calm}
use Rattle.fronts.proofs.stretches.Stretch.raise_calm.Goals as goal

pub raise_spots-requires-clause-high : goal.raise_spots-requires-clause-high
unfolding count_of
raise_spots-requires-clause-high g c κs within = c.requires.before_last

pub raise_spots-requires-clause-fits : goal.raise_spots-requires-clause-fits
unfolding count_of
raise_spots-requires-clause-fits g c κs within = c.requires.on_mesh.fits

pub returns-clause-stepped : goal.returns-clause-stepped
unfolding count_of
returns-clause-stepped g c =
    let o = c.args.self.now in
    let more = c.raise_spots.new.spots in
    stepped-calm (g.L.Law.meaning c.args.law.now) c.args.step c.args.low c.args.high c.raise_spots.result o _ _ c.deref_mut.result.now more
    c.requires.calm c.requires.calm (record { pipe_is = refl; first_is = refl; number_is = refl; count_is = refl }) c.deref_mut.ensures.value
    (with_items_is o.spots more (c.raise_spots.ensures.raised.each ∙ ap length c.deref_mut.ensures.value ∙ sym o.spots.ok.0))
    refl refl refl refl c.requires.after_first (omega (arith, c.raise_spots.ensures.most, c.requires.order)) c.requires.before_last c.raise_spots.ensures.raised
