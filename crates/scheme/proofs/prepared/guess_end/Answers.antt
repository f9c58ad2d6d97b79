use Rattle.std.proofs.Common.{◌≡◌, ◌∙◌, ◌<◌, arith, get_or, length, subst, sym}
use Rattle.std.proofs.lemmas.List.{get_or_default}
use Rattle.scheme.specs.Runs.{IsPreparedFor}
use Rattle.scheme.specs.declared.prepared.PreparedPipe.TheVariants.{Explicit, Wide}
use Rattle.scheme.proofs.Calm.{one_set, same_pipe}
use Rattle.scheme.proofs.prepared.guess_end.Goals as goal

pub returns-in-Explicit-clause-prepared : goal.returns-in-Explicit-clause-prepared
returns-in-Explicit-clause-prepared c = λ case mesh h.
    let p = c.args.end.pipe in
    let table = c.args.table.now.items in
    let inside : p < length table = omega (arith, c.if-pipe-len.true, c.len.ensures) in
    let is = c.guessing.ensures in
    let entry : get_or table p Wide ≡ Explicit c.in-Explicit.prepared = get_or_default table p Wide _ inside ∙ sym c.index.ensures ∙ c.in-Explicit.is in
    one_set case mesh table p (Explicit c.guessing.result) inside h
    (same_pipe case mesh p c.in-Explicit.prepared c.guessing.result is.impedance is.resistance is.top
    (subst (IsPreparedFor case mesh p) entry (h p inside)))
