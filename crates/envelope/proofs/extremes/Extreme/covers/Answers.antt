use Rattle.envelope.proofs.Joined.{joined-envelopes, over-retaken, under-retaken, in-between}
use Rattle.envelope.proofs.extremes.Extreme.covers.Goals as goal

pub returns : goal.returns
returns c = λ e f g last h p q.
    let o = c.is_unmet.ensures.met c.if-is_unmet.false in
    let m = in-between c.args.self.now.max c.args.self.now.min c.args.other.now.max c.args.other.now.min _ _ _ _
    c.highest.ensures.value c.lowest.ensures.value c.highest-2.ensures.value c.lowest-2.ensures.value (c.is_over.ensures.over c.if-not-is_over.false) (c.is_under.ensures.under c.if-not-is_under.false) o in
    joined-envelopes f g last c.args.self.now c.args.other.now c.args.self.now h (p.filled m) (q.filled o)
    (over-retaken last _ _ _ _ _ _ _ _ c.highest.ensures.value c.highest.ensures.step c.highest-2.ensures.value c.highest-2.ensures.step (λ f g. c.is_over.ensures.taken c.if-not-is_over.false f g last))
    (under-retaken last _ _ _ _ _ _ _ _ c.lowest.ensures.value c.lowest.ensures.step c.lowest-2.ensures.value c.lowest-2.ensures.step (λ f g. c.is_under.ensures.taken c.if-not-is_under.false f g last))
    (over-retaken last _ _ _ _ _ _ _ _ c.fullest.ensures.value c.fullest.ensures.step c.fullest-2.ensures.value c.fullest-2.ensures.step (λ f g. c.is_over-2.ensures.taken e f g last))
