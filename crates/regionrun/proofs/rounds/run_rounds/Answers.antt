use Rattle.std.proofs.Common.{◌∙◌, ap, length, subst, sym}
use Rattle.regionrun.specs.Lawful.{IsLawful}
use Rattle.schedule.specs.LayoutNets.{layout_net}
use Rattle.schedule.specs.Nets.{IsSameNet}
use Rattle.schedule.specs.Plans.{net_of}
use Rattle.regionrun.proofs.Halving.{all-written}
use Rattle.regionrun.specs.Engine.{AreAt, AreSameFolds}
use Rattle.regionrun.specs.Right.{region_count}
use Rattle.regionrun.proofs.rounds.run_rounds.Goals as goal

pub run_on-requires-clause-course : goal.run_on-requires-clause-course
run_on-requires-clause-course g c κs within =
    let law = g.L.Law.meaning c.args.law.now in
    record {
      lawful = subst (λ m. IsLawful c.args.layout.now m) c.requires.mesh c.sizes.ensures.lawful;
      planned = subst (λ m. IsSameNet (layout_net c.args.layout.now m 1) (net_of c.in_ok-plan.plan)) c.requires.mesh c.in_ok-plan.ensures.net;
    }

pub returns-clause-done : goal.returns-clause-done
returns-clause-done g c =
    subst (AreAt g.G.Stub.EntryStub.strand_of g.G.Stub.EntryStub.entered_of
    (g.L.Law.meaning c.args.law.now) c.args.layout.now (region_count c.args.layout.now))
    (sym (all-written c.args.strands.len c.args.strands.items c.run_on.new.strands
    c.args.strands.ok.0 (c.run_on.auto.strands ∙ ap length c.deref_mut.ensures.value)))
    c.run_on.ensures.done

pub returns-clause-folds : goal.returns-clause-folds
returns-clause-folds g c =
    subst (AreSameFolds c.args.strands.items)
    (sym (all-written c.args.strands.len c.args.strands.items c.run_on.new.strands
    c.args.strands.ok.0 (c.run_on.auto.strands ∙ ap length c.deref_mut.ensures.value)))
    (subst (λ k. AreSameFolds k c.run_on.new.strands) c.deref_mut.ensures.value
    c.run_on.ensures.folds)
