use Rattle.std.proofs.Common.{◌≡◌, ◌+◌, ◌≤◌, ◌∙◌, arith, length, subst}
use Rattle.std.proofs.lemmas.List.{length-take-le}
use Rattle.strands.proofs.Nodes.{hub-begins, hub-next, hub-stepped-more, hub-stepped-none}
use Rattle.strands.proofs.Nodes.{notes-hub}
use Rattle.strands.specs.Hubs.{IsHubAfter, IsHubStepped}
use Rattle.strands.proofs.hubs.Hub.compute.Goals as goal

pub loop-done-init : goal.loop-done-init
loop-done-init g c =
    let law = g.L.Law.meaning c.args.law.now in
    let each : c.len-count.result ≡ length c.args.self.now.spokes.items =
    omega (arith, c.len-count.ensures) in
    let few : c.len-count.result ≤ 16 = omega (arith, c.requires.at.on_mesh.few) in
    record {
      stepped = hub-stepped-none law c.args.window c.args.start 0 c.args.self.now c.args.fold.now
          (hub-begins law c.args.window c.args.start c.args.self.now c.requires.loaded
          c.requires.at);
      bare = λ b. absurd (omega arith);
      near = length-take-le c.len-count.result _ few ∙ each;
      ends = length-take-le c.len-count.result _ few ∙ each;
    }

pub step-requires-clause-noted : goal.step-requires-clause-noted
step-requires-clause-noted g c κs within =
    let inv = c.loop-done.invariant.stepped in
    notes-hub c.args.self.now c.loop-done.self c.args.fold.now c.loop-done.fold inv.same
    inv.same_fold c.requires.noted

pub loop-done-preserved : goal.loop-done-preserved
loop-done-preserved g c =
    let law = g.L.Law.meaning c.args.law.now in
    let k = c.loop-done.done in
    record {
      stepped = hub-stepped-more law c.args.window c.args.start 0 k (k + 1) c.args.self.now
          c.loop-done.self c.step.new.self
          c.args.fold.now c.loop-done.fold c.step.new.fold (omega arith) (omega arith)
          c.loop-done.invariant.stepped c.step.ensures.stepped;
      bare = λ b. c.step.ensures.bare;
      near = c.step.ensures.near;
      ends = c.step.ensures.ends;
    }

pub returns-clause-done : goal.returns-clause-done
returns-clause-done g c =
    let e : c.loop-done.done ≡ c.args.window = omega
    (arith, c.loop-done-test.false, c.loop-done.auto.done-end) in
    subst (λ z. IsHubStepped (g.L.Law.meaning c.args.law.now) c.args.window c.args.start 0 z
    c.args.self.now c.loop-done.self c.args.fold.now c.loop-done.fold) e
    c.loop-done.invariant.stepped

pub returns-clause-bare : goal.returns-clause-bare
returns-clause-bare g c =
    let e : c.loop-done.done ≡ c.args.window = omega
    (arith, c.loop-done-test.false, c.loop-done.auto.done-end) in
    c.loop-done.invariant.bare (omega (arith, e, c.requires.some))

pub returns-clause-next : goal.returns-clause-next
returns-clause-next g c =
    let law = g.L.Law.meaning c.args.law.now in
    let e : c.loop-done.done ≡ c.args.window = omega
    (arith, c.loop-done-test.false, c.loop-done.auto.done-end) in
    hub-next law c.args.window c.args.start c.loop-done.self
    (c.loop-done.invariant.bare (omega (arith, e, c.requires.some)))
    (subst (λ z. IsHubAfter law c.args.window c.args.start z c.loop-done.self) e
    c.loop-done.invariant.stepped.computed)
