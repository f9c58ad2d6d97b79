use Rattle.std.proofs.Common.{◌∙◌, ◌+◌, ap, sym, refl, length}
use Rattle.std.proofs.lemmas.List.{with_items_is}
use Rattle.fronts.specs.Stretches.{count_of}
use Rattle.fronts.proofs.Taking.{row-copied}
use Rattle.fronts.proofs.stretches.Stretch.take_calm.Goals as goal

pub returns : goal.returns
unfolding count_of
returns c =
    let o = c.args.self.now in
    let more = c.copy_spots.new.spots in
    row-copied c.args.even c.args.place c.args.from c.args.count (c.start.result + c.args.place)
    (c.start-2.result + c.args.from)
    o _ c.args.other.now c.deref_mut.result.now c.deref.result.now more
    c.requires.calm c.requires.calm c.requires.other_calm
    (record { pipe_is = refl; first_is = refl; number_is = refl; count_is = refl })
    c.deref_mut.ensures.value c.deref.ensures.value
    (with_items_is o.spots more (c.copy_spots.ensures.each ∙ ap length c.deref_mut.ensures.value
    ∙ sym o.spots.ok.0))
    (ap (λ n. n + c.args.place) c.start.ensures) (ap (λ n. n + c.args.from) c.start-2.ensures)
    c.requires.inside c.requires.there c.copy_spots.ensures
