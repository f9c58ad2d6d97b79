use Rattle.std.proofs.Common.{◌/◌, sym, subst, get_or, [], arith}
use Rattle.envelope.specs.Extremes.{either}
use Rattle.envelope.specs.Lines.{HasSamples}
use Rattle.envelope.proofs.Sampled.{kept-sample, not-sampled, whole-steps, set-here}
use Rattle.envelope.proofs.lines.keep_sample.Goals as goal

pub returns-then-step-every-eq0-clause-here : goal.returns-then-step-every-eq0-clause-here
returns-then-step-every-eq0-clause-here c = λ f g last a gs gn h.
    let every = c.args.every in
    subst (λ line. HasSamples (either f g) last every line)
    (sym (set-here c.args.samples.now.items c.args.line c.put.new.line _ _ _ c.requires.line c.index_mut.ensures.value c.put.ensures))
    (kept-sample f g last every (get_or c.args.samples.now.items c.args.line []) (c.args.step / every) c.args.step c.args.sample.now c.requires.some c.requires.inside (whole-steps c.args.step every (omega arith)) a gs gn h)

pub returns-else-step-every-eq0-clause-here : goal.returns-else-step-every-eq0-clause-here
returns-else-step-every-eq0-clause-here c = λ f g last a gs gn h. not-sampled f g last c.args.every _ c.args.step c.if-step-every-eq0.false gn h
