use Rattle.std.proofs.Common.{◌≡◌, ap, ◌∙◌, arith, to_z-of_z}
use Rattle.case_rules.specs.Known.{single_word}
use Rattle.netfile.specs.Built.{single_amount}
use Rattle.netfile.specs.Settings.{amount_by}
use Rattle.netfile.proofs.SingleLimits.{amount_told}
use Rattle.netfile.proofs.singles.single_amount.Goals as goal

pub returns-in-Some : goal.returns-in-Some
returns-in-Some c = λ lines t.
    let h = c.text.ensures lines t in
    let k = rw c.in-Some.is at h in
    let e : c.amount.result ≡ single_amount (single_word c.args.single) c.args.quantity c.args.default lines =
    c.amount.ensures.value ∙ ap (amount_by c.args.quantity c.args.default) k ∙ amount_told c.args.single c.args.quantity c.args.default lines in
    grind (arith, to_z-of_z, e)

pub returns-in-None : goal.returns-in-None
returns-in-None c = λ lines t.
    let h = c.text.ensures lines t in
    let k = rw c.in-None.is at h in
    let e : c.args.default ≡ single_amount (single_word c.args.single) c.args.quantity c.args.default lines =
    ap (amount_by c.args.quantity c.args.default) k ∙ amount_told c.args.single c.args.quantity c.args.default lines in
    grind (arith, to_z-of_z, e)
