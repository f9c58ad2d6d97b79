use Rattle.std.proofs.Common.{rules, ◌≡◌, ℕ, ◌+◌, ◌∙◌, ap, sym}
use Rattle.case_model.specs.declared.points.Point.{Point}
use Rattle.case_model.specs.Runs.{calm_at, calm_point}
use Rattle.case_model.proofs.Running.{calm_spot, nothing_done, one_more}
use Rattle.case_model.proofs.laws.Law.calm_run.Goals as goal

pub loop-k-init : goal.loop-k-init
loop-k-init g c = nothing_done _ _ _ _ _

pub loop-k-preserved : goal.loop-k-preserved
loop-k-preserved g c =
    let law = g.Self.Law.meaning c.args.self.now in
    let before = c.args.before.now in
    let k : ℕ = c.loop-k.k in
    let at : ℕ → Point → Point → Point → Point = λ n. law.inner c.args.pipe (c.args.first + n) in
    let left : c.point-left.result ≡ calm_at before k =
    c.point-left.ensures.point ∙ ap calm_point c.index-before-k.is ∙ sym (calm_spot before k _ (search rules)) in
    let own : c.point-own.result ≡ calm_at before (k + 1) =
    c.point-own.ensures.point ∙ ap calm_point c.index-before-k-in-loop-k.is ∙ sym (calm_spot before (k + 1) _ (search rules)) in
    let right : c.point-right.result ≡ calm_at before (k + 2) =
    c.point-right.ensures.point ∙ ap calm_point c.index-before-k-in-loop-k-2.is ∙ sym (calm_spot before (k + 2) _ (search rules)) in
    one_more law c.args.pipe c.args.first before k c.args.now.now c.loop-k.now c.in-Some.spot (search rules)
    (c.in-Some.ensures ∙ c.inner-next.ensures
    ∙ ap (λ p. at k p c.point-own.result c.point-right.result) left
    ∙ ap (λ p. at k (calm_at before k) p c.point-right.result) own
    ∙ ap (at k (calm_at before k) (calm_at before (k + 1))) right)
    c.loop-k.invariant
