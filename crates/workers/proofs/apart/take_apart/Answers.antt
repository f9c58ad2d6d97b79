-- All runners are taken apart.
use Rattle.std.specs.Prelude.{◌≡◌, ◌++◌, []}
use Rattle.std.proofs.Common.{◌∙◌, ap, sym, subst, append-nil}
use Rattle.std.proofs.lemmas.List.{nil_from_length}
use Rattle.std.specs.Vec.Iter.{into_iter_items}
use Rattle.workers.specs.Runs.{AreApart}
use Rattle.workers.proofs.apart.take_apart.Goals as goal

pub returns : goal.returns
returns g c =
    let at = c.loop-runner in
    let empty : into_iter_items at.runner-iterator ≡ [] =
    nil_from_length (into_iter_items at.runner-iterator)
    (sym at.invariant.left ∙ c.in-None.ensures.steps.0) in
    let all : at.yielded ≡ c.args.runners.items =
    sym (append-nil at.yielded) ∙ ap (λ xs. at.yielded ++ xs) (sym empty) ∙ at.invariant.all in
    record {
      strands = subst (λ rs. AreApart rs at.parts.strands.items at.parts.writers.items
          at.parts.readers.items) all at.invariant.apart;
    }
