use Rattle.std.proofs.Common.{ℤ, subst, sym, rules}
use Rattle.std.proofs.lemmas.List.Elements.{recursion_from_All}
use Rattle.fixed_num.specs.Tables.{IsBetween, IsInterpolated}
use Rattle.fixed_num.proofs.Between.{interp_points, interp_within}
use Rattle.fixed_num.proofs.tables.interp.Goals as goal

pub returns-clause-point : goal.returns-clause-point
returns-clause-point c =
    subst (λ (x : ℤ). IsInterpolated c.args.table.now c.args.t x) (sym (search rules)) (interp_points c.args.table.now c.args.t c.requires.some c.requires.rises)

pub returns-clause-within : goal.returns-clause-within
returns-clause-within c = λ least most h.
    subst (λ (x : ℤ). IsBetween least most x) (sym (search rules)) (interp_within least most c.args.table.now c.args.t c.requires.some (recursion_from_All (λ e. IsBetween least most e.1) c.args.table.now h))
