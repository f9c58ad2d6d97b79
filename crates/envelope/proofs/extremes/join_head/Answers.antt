use Rattle.std.proofs.Common.{◌∙◌, sym, arith, rules, to_z-of_z}
use Rattle.std.specs.Prelude.{◌≤ℤ◌}
use Rattle.std.proofs.lemmas.Int.{ints}
use Rattle.envelope.proofs.Settled.{joined-nothing}
use Rattle.envelope.proofs.extremes.join_head.Goals as goal
use Rattle.envelope.proofs.extremes.join_head.Goals.{then-this-ne0, else-this-ne0}

pub returns-else-not-is_over : goal.returns-else-not-is_over
returns-else-not-is_over p c =
    let e = c.args.cell.now in
    let low : e.min ≤ℤ c.args.h = grind (arith, to_z-of_z) in
    let high : c.args.h ≤ℤ e.max = search rules in
    let m : e.min ≤ℤ e.max = omega (arith, ints) in
    joined-nothing c.args.step c.args.h c.args.v e (elim c.if-this-ne0.branch [
      | then-this-ne0 w ↦
          let r = c.requires (search rules) in
          record { low = low; high = high; full = r.full m; high_first = r.plain.early.high_first; low_first = r.plain.early.low_first; full_first = r.plain.early.full_first }
      | else-this-ne0 w ↦
          let t = sym w.value-is ∙ c.if-not-is_over.false in
          let k = w.is_over.ensures in
          record { low = low; high = high; full = let q = k.full t in grind (arith, to_z-of_z); high_first = (k.early t).high_first; low_first = (k.early t).low_first; full_first = (k.early t).full_first }
    ])
