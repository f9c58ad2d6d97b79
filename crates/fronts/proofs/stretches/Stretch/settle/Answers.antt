use Rattle.std.proofs.Common.{◌∙◌, refl, sym, ap}
use Rattle.fronts.specs.Cavities.{cavity_at, with_cavity}
use Rattle.fronts.specs.Stretches.{count_of}
use Rattle.fronts.proofs.Keeping.{settled}
use Rattle.fronts.proofs.stretches.Stretch.settle.Goals as goal

pub returns-then-are_none : goal.returns-then-are_none
unfolding count_of
returns-then-are_none c =
    settled c.args.self.now _ (record { pipe_is = refl; first_is = refl; number_is = refl; count_is = refl }) c.if-not-self.true refl refl
    (λ k p. ap (λ xs. with_cavity p (cavity_at xs k)) (sym c.deref.ensures.value) ∙ c.are_none.ensures c.if-are_none.true k p)
