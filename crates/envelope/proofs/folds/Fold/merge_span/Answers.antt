use Rattle.std.proofs.Common.{◌≡◌, ◌+◌, ◌≤◌, ◌<◌, ℕ, subst, arith}
use Rattle.std.proofs.lemmas.List.{get_or_read}
use Rattle.envelope.specs.Cells.{no_span}
use Rattle.envelope.specs.Changes.{AreJoined}
use Rattle.envelope.specs.Folds.{spans_of}
use Rattle.envelope.proofs.CellLaws.{within-span}
use Rattle.envelope.proofs.Merged.{joined-on}
use Rattle.envelope.proofs.folds.Fold.merge_span.Goals as goal

pub merge_place-requires-clause-within : goal.merge_place-requires-clause-within
merge_place-requires-clause-within c =
    let spans = spans_of c.args.other.now in
    let q = get_or_read spans c.args.index c.index.result.now c.requires.there c.index.ensures no_span in
    let low : c.index.result.now.0 ≤ c.loop-place.place = omega arith in
    let high : c.loop-place.place < c.index.result.now.0 + c.index.result.now.1 = omega arith in
    within-span spans c.args.index c.loop-place.place c.requires.there
    (subst (λ (s : ℕ × ℕ). s.0 ≤ c.loop-place.place) q low) (subst (λ (s : ℕ × ℕ). c.loop-place.place < s.0 + s.1) q high)

pub loop-place-preserved : goal.loop-place-preserved
loop-place-preserved c =
    joined-on c.args.self.now c.args.other.now c.loop-place.self c.merge_place.new.self c.index.result.now.0 c.loop-place.place (c.loop-place.place + 1) c.requires.mergeable (omega arith) (omega arith) c.loop-place.invariant c.merge_place.ensures

pub returns : goal.returns
returns c =
    let spans = spans_of c.args.other.now in
    let q = get_or_read spans c.args.index c.index.result.now c.requires.there c.index.ensures no_span in
    let e : c.loop-place.place ≡ c.index.result.now.0 + c.index.result.now.1 = omega arith in
    subst (λ (s : ℕ × ℕ). AreJoined c.args.self.now c.args.other.now c.loop-place.self s.0 (s.0 + s.1)) q
    (subst (λ n. AreJoined c.args.self.now c.args.other.now c.loop-place.self c.index.result.now.0 n) e c.loop-place.invariant)
