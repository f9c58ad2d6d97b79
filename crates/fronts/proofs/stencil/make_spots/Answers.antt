use Rattle.std.proofs.Common.{◌≡◌, ◌-◌, length, take, drop, refl, arith}
use Rattle.std.proofs.lemmas.List.{length-drop, length-take-le}
use Rattle.fronts.proofs.Making.{run-made}
use Rattle.fronts.proofs.stencil.make_spots.Goals as goal

pub returns-clause-made : goal.returns-clause-made
returns-clause-made g c =
    let p = c.args.places in
    let new = c.args.new.now in
    let n : length (take (p.high - p.low) (drop p.low new)) ≡ p.high - p.low = length-take-le (p.high - p.low) (drop p.low new) (omega (arith, c.requires.low, c.requires.high, c.requires.each, length-drop p.low new)) in
    run-made (g.L.Law.meaning c.args.law.now) p _ (p.high - p.low) c.calm_run.result c.args.old.now new c.calm_run.new.now c.requires.some c.requires.low c.requires.high c.requires.each refl refl
    (omega (arith, c.calm_run.ensures.most, n)) c.calm_run.ensures.run
