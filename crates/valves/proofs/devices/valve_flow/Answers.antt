use Rattle.std.proofs.Common.{◌≡◌, ◌<◌, ◌∙◌, ℤ, pos, unsigned_abs, to_z, w64, ap, subst, sym, arith}
use Rattle.std.proofs.lemmas.Int.{ints, to_z-of_z}
use Rattle.valves.specs.Orifices.{valve_flow}
use Rattle.valves.proofs.Shut.{shut}
use Rattle.valves.proofs.devices.valve_flow.Goals as goal

pub returns-then-opening-eq0-clause-value : goal.returns-then-opening-eq0-clause-value
returns-then-opening-eq0-clause-value c =
    let valve = c.args.valve.now in
    let least = c.requires.valve_in.valve.loss.low in
    let some : 0 < unsigned_abs valve.h0 = omega (arith, ints) in
    let e : c.args.opening ≡ pos 0 = sym (to_z-of_z w64 c.args.opening c.ranges.opening) ∙ ap (to_z w64) c.if-opening-eq0.true in
    subst (λ (x : ℤ). pos 0 ≡ valve_flow c.args.b valve.q0 valve.h0 x c.args.e) (sym e)
    (sym (shut c.args.b valve.q0 valve.h0 c.args.e some))
