use Rattle.std.proofs.Common.{◌≡◌, ◌+◌, arith, subst}
use Rattle.fronts.specs.Bands.{IsStepped}
use Rattle.fronts.proofs.Raising.{raised-on}
use Rattle.fronts.proofs.Stepping.{stepped-after}
use Rattle.fronts.proofs.stretches.Stretch.step_place.Goals as goal

pub returns-clause-stepped : goal.returns-clause-stepped
returns-clause-stepped g c =
    let law = g.L.Law.meaning c.args.law.now in
    let place = c.args.place in
    let mid = c.settle.new.self in
    let new = c.raise_next.new.self in
    let one : c.raise_next.result ≡ 1 =
    omega (arith, c.raise_next.ensures.some, c.raise_next.ensures.most) in
    stepped-after law c.args.step place (place + 1) c.args.self.now mid new c.settle.ensures
    (subst (λ n. IsStepped law c.args.step (λ x. x) place (place + n) mid new) one
    c.raise_next.ensures.stepped)

pub returns-clause-holds : goal.returns-clause-holds
returns-clause-holds g c since front later r h =
    let law = g.L.Law.meaning c.args.law.now in
    let place = c.args.place in
    let mid = c.settle.new.self in
    let new = c.raise_next.new.self in
    let one : c.raise_next.result ≡ 1 =
    omega (arith, c.raise_next.ensures.some, c.raise_next.ensures.most) in
    raised-on law c.args.step (λ x. x) place (place + 1) c.args.self.now new since front later
    c.requires.on_mesh
    (stepped-after law c.args.step place (place + 1) c.args.self.now mid new c.settle.ensures
    (subst (λ n. IsStepped law c.args.step (λ x. x) place (place + n) mid new) one
    c.raise_next.ensures.stepped)) r h
