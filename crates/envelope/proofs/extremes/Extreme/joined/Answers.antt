use Rattle.std.proofs.Common.{rules}
use Rattle.envelope.proofs.Joined.{joined-envelopes, greatest-retaken, smallest-retaken}
use Rattle.envelope.proofs.extremes.Extreme.joined.Goals as goal

pub returns-clause-taken : goal.returns-clause-taken
returns-clause-taken c = λ f g last h p q. joined-envelopes f g last c.args.self.now c.args.other.now _ h (p.filled (c.is_unmet-2.ensures.met c.if-is_unmet-2.false)) (q.filled (c.is_unmet.ensures.met c.if-is_unmet.false))
    (greatest-retaken last _ _ _ _ _ _ _ _ _ _ _ c.highest.ensures.value c.highest.ensures.step c.highest-2.ensures.value c.highest-2.ensures.step (search rules) (λ f g. c.greater-max.ensures.taken f g last))
    (smallest-retaken last _ _ _ _ _ _ _ _ _ _ _ c.lowest.ensures.value c.lowest.ensures.step c.lowest-2.ensures.value c.lowest-2.ensures.step (search rules) (λ f g. c.lesser-min.ensures.taken f g last))
    (greatest-retaken last _ _ _ _ _ _ _ _ _ _ _ c.fullest.ensures.value c.fullest.ensures.step c.fullest-2.ensures.value c.fullest-2.ensures.step (search rules) (λ f g. c.greater-volume.ensures.taken f g last))
