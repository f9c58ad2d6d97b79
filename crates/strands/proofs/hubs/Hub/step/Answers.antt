use Rattle.std.proofs.Common.{◌+◌, ◌<◌, subst, sym, refl}
use Rattle.strands.proofs.Nodes.{end-is-given, hub-stepped-one}
use Rattle.strands.specs.declared.hubs.Hub.{Hub}
use Rattle.strands.proofs.hubs.Hub.step.Goals as goal

pub step_spokes-requires-clause-ends : goal.step_spokes-requires-clause-ends
step_spokes-requires-clause-ends g c κs within = λ i d e b.
    let law = g.L.Law.meaning c.args.law.now in
    let hub = c.args.self.now in
    let is = c.requires.computed.spokes i e b in
    end-is-given law c.args.at.window (c.args.at.start + c.args.at.done) hub.node i _
    c.ask-self.new.ends d is.on_pipe
    (c.requires.computed.on_mesh.ends i e b) (subst (λ z. i < z) (sym c.ask-self.ensures.each) b)
    c.ask-self.ensures.ends

pub returns-clause-bare : goal.returns-clause-bare
returns-clause-bare g c = λ i d b.
    (c.step_spokes.ensures.later i d (subst (λ z. i < z) c.step_spokes.ensures.each b)).bare

pub returns-clause-stepped : goal.returns-clause-stepped
returns-clause-stepped g c =
    let law = g.L.Law.meaning c.args.law.now in
    let old = c.args.self.now in
    let new : Hub = record {
      node = old.node;
      state = c.ask-self.result;
      spokes =
          c.step_spokes.new.spokes;
    } in
    hub-stepped-one law c.args.at.window c.args.at.start c.args.at.done old new c.args.fold.now
    c.step_spokes.new.fold c.note_state.new.fold
    refl c.step_spokes.ensures.each c.step_spokes.ensures.later c.requires.computed
    c.ask-self.ensures.state
    c.step_spokes.ensures.same c.note_state.ensures.same c.step_spokes.ensures.stands
    (λ marks st. c.note_state.ensures.stands law marks c.requires.computed.on_mesh.numbered
    c.requires.computed.on_mesh.there c.ask-self.ensures.state st)
