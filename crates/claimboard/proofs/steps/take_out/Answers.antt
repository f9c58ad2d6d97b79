use Rattle.std.proofs.Common.{rules, ◌∷◌, Some, ap, sym, ◌∙◌}
use Rattle.atomic_table.specs.Table.{rest}
use Rattle.claimboard.proofs.steps.take_out.Goals as goal

pub exchange-requires : goal.exchange-requires
exchange-requires g c =
    let item = c.requires.in_hand in
    (search rules, (Some item.0, item.1 ∙ ap (λ cs. (c.args.number, Some item.0) ∷ rest cs) (sym item.1)))
