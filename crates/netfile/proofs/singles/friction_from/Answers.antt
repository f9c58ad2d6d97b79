use Rattle.std.proofs.Common.{◌≡◌, ◌==◌, false, ap, ◌∙◌, refl}
use Rattle.std.proofs.lemmas.Bool.{ne_eqb}
use Rattle.netfile.specs.Settings.{friction_told}
use Rattle.netfile.specs.Built.{friction_from}
use Rattle.netfile.proofs.SingleLimits.{form_told}
use Rattle.netfile.proofs.singles.friction_from.Goals as goal

pub returns-in-Some : goal.returns-in-Some
unfolding friction_from
returns-in-Some c = λ lines t.
    let h = c.text.ensures lines t in
    let k = rw c.in-Some.is at h in
    rw (ne_eqb c.args.tally.now.version 1 c.if-tally-eq1.false) (c.unwrap_or.ensures ∙ rw c.friction_of.ensures (ap friction_told k ∙ form_told lines))

pub returns-in-None : goal.returns-in-None
unfolding friction_from
returns-in-None c = λ lines t.
    let h = c.text.ensures lines t in
    let k = rw c.in-None.is at h in
    rw (ne_eqb c.args.tally.now.version 1 c.if-tally-eq1.false) (ap friction_told k ∙ form_told lines)
