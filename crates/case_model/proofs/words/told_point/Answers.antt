use Rattle.std.proofs.Common.{◌∙◌, sym, arith}
use Rattle.case_model.proofs.WordLaws.{tells-none, tells-good, zeros}
use Rattle.case_model.proofs.words.told_point.Goals as goal

pub returns-in-Bad : goal.returns-in-Bad
returns-in-Bad c = tells-none c.args.head c.args.up c.args.down c.args.volume (λ e. let z = zeros c.args.head c.args.up c.args.down c.args.volume e in grind (arith, z)) (sym c.good_point.ensures ∙ c.in-Bad.is)

pub returns-in_default : goal.returns-in_default
returns-in_default c = tells-good c.args.head c.args.up c.args.down c.args.volume c.good_point.result c.good_point.ensures c.in_default.not-Bad
