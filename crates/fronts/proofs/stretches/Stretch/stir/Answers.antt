use Rattle.std.proofs.Common.{◌∙◌, refl, sym, ap, length}
use Rattle.std.proofs.lemmas.List.{with_items_is}
use Rattle.fronts.specs.Cavities.{cavity_at}
use Rattle.fronts.specs.Stretches.{count_of}
use Rattle.fronts.proofs.Keeping.{stirred}
use Rattle.fronts.proofs.stretches.Stretch.stir.Goals as goal

pub returns-clause-kept : goal.returns-clause-kept
unfolding count_of
returns-clause-kept c =
    let o = c.args.self.now in
    stirred o _ (record { pipe_is = refl; first_is = refl; number_is = refl; count_is = refl }) c.requires refl refl
    (λ k. ap (λ xs. cavity_at xs k) (with_items_is o.cavities c.clear.new.cavities (c.clear.auto.cavities ∙ ap length c.deref_mut.ensures.value ∙ sym o.cavities.ok.0)) ∙ c.clear.ensures k)
