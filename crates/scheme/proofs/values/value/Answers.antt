use Rattle.std.proofs.Common.{◌≡◌, ◌∙◌, List, ℤ, ap, get_or, subst, sym, arith, to_z-of_z}
use Rattle.std.specs.List.{All}
use Rattle.case_model.specs.declared.cases.Table.{Table}
use Rattle.case_model.specs.declared.cases.Value.{Value}
use Rattle.case_model.specs.Parts.{table_at}
use Rattle.fixed_num.specs.Tables.{IsBetween}
use Rattle.scheme.specs.Values.{Keeps, IsTimed}
use Rattle.scheme.proofs.TimeTables.{same_table}
use Rattle.scheme.proofs.values.value.Goals as goal

pub returns-in-ByTable-clause-within : goal.returns-in-ByTable-clause-within
returns-in-ByTable-clause-within c = λ low high h.
    let k = subst (λ (v : Value). Keeps low high c.args.case.now v) c.in-ByTable.is h in
    let t = subst (λ (v : Value). IsTimed c.args.case.now v) c.in-ByTable.is c.requires.timed in
    let e : c.as_slice-points.result.now ≡ (table_at c.args.case.now c.in-ByTable.table).points =
    c.as_slice-points.ensures ∙ ap (λ (ts : List Table). (get_or ts c.in-ByTable.table c.index-as_slice-table.result).points) c.as_slice.ensures
    ∙ same_table c.args.case.now c.in-ByTable.table c.index-as_slice-table.result t.0 in
    let b = c.by_table.ensures.within low high (subst (λ (ps : List (ℤ × ℤ)). All (λ x. IsBetween low high x.1) ps) (sym e) k) in
    record { low = grind (arith, to_z-of_z, b.low); high = grind (arith, to_z-of_z, b.high) }
