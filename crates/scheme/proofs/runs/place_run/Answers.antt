use Rattle.std.proofs.Common.{rules, ◌≡◌, ℕ, ◌+◌, ◌∙◌, ap, sym, subst}
use Rattle.case_model.specs.declared.points.Point.{Point}
use Rattle.case_model.specs.Runs.{calm_at, calm_point}
use Rattle.case_model.proofs.Running.{calm_spot, nothing_done, one_more}
use Rattle.case_model.specs.Range.{IsPoint}
use Rattle.scheme.specs.Laws.{inner_law, meaning_of}
use Rattle.scheme.specs.LawRange.{inner_law-good}
use Rattle.scheme.proofs.runs.place_run.Goals as goal

pub loop-i-init : goal.loop-i-init
loop-i-init g c = nothing_done _ _ _ _ _

pub loop-i-preserved : goal.loop-i-preserved
unfolding meaning_of
loop-i-preserved g c =
    let law = meaning_of c.args.case.now c.args.mesh.now in
    let before = c.args.before.now in
    let k : ℕ = c.loop-i.i in
    let at : Point → Point → Point → Point = inner_law c.args.case.now c.args.mesh.now c.args.at.pipe (c.args.at.place + k) in
    let left : c.point-left.result ≡ calm_at before k =
    c.point-left.ensures.point ∙ ap calm_point c.index-before-i.is ∙ sym (calm_spot before k _ (search rules)) in
    let own : c.point-own.result ≡ calm_at before (k + 1) =
    c.point-own.ensures.point ∙ ap calm_point c.index-before-i-in-loop-i.is ∙ sym (calm_spot before (k + 1) _ (search rules)) in
    let right : c.point-right.result ≡ calm_at before (k + 2) =
    c.point-right.ensures.point ∙ ap calm_point c.index-before-i-in-loop-i-2.is ∙ sym (calm_spot before (k + 2) _ (search rules)) in
    one_more law c.args.at.pipe c.args.at.place before k c.args.now.now c.loop-i.now c.in-Some.spot (search rules)
    (c.in-Some.ensures ∙ c.place_law.ensures
    ∙ ap (λ p. at p c.point-own.result c.point-right.result) left
    ∙ ap (λ p. at (calm_at before k) p c.point-right.result) own
    ∙ ap (at (calm_at before k) (calm_at before (k + 1))) right)
    c.loop-i.invariant

pub of-requires : goal.of-requires
of-requires g c = subst IsPoint (sym c.place_law.ensures) (inner_law-good _ _ _ _ _ _ _)
