use Rattle.std.proofs.Common.{◌≡◌, ℕ, ◌+◌, ◌*◌, ◌/◌, ◌≤◌, List, length, subst, sym, ◌∙◌}
use Rattle.envelope.specs.Lines.{AreWithin}
use Rattle.regionrun.proofs.Spans.{few-within, probes-within}
use Rattle.regionrun.proofs.strand_folds.strand_fold.Goals as goal

pub make-requires-clause-probes : goal.make-requires-clause-probes
make-requires-clause-probes c =
    let same : c.deref.result.now ≡ c.deref-2.result.now =
    c.deref.ensures.value ∙ sym c.deref-2.ensures.value in
    subst (λ (spans : List (ℕ × ℕ)). AreWithin spans c.deref-3.result.now) same
    (subst (AreWithin c.deref.result.now)
    (sym (c.deref-3.ensures.value ∙ c.in_ok-probes.ensures))
    (probes-within c.deref.result.now c.args.survey.now.probes.now))

pub make-requires-clause-few : goal.make-requires-clause-few
make-requires-clause-few c =
    let case = c.args.survey.now.case.now in
    subst (λ (xs : List ℕ). length xs * (case.steps / case.every + 1) ≤ 4_000_000)
    (sym (c.deref-3.ensures.value ∙ c.in_ok-probes.ensures))
    (few-within c.deref.result.now c.args.survey.now.probes.now (case.steps / case.every + 1)
    c.surveyed.ensures.few)
