use Rattle.std.proofs.Common.{◌≡◌, ◌∙◌, ◌<◌, length, get_or, subst, sym, ap, Some, None}
use Rattle.envelope.specs.Probes.{lines_of, marks_of}
use Rattle.envelope.proofs.probes.keep_probed.Goals as goal

pub keep_sample-requires-clause-line : goal.keep_sample-requires-clause-line
keep_sample-requires-clause-line c =
    let line = c.in-Some-line.line in
    let at : get_or (marks_of c.args.probes.now) c.args.cell None ≡ Some line =
    ap (λ p. get_or (marks_of p) c.args.cell None) c.in-Some.is
    ∙ ap (λ v. get_or v.marks.items c.args.cell None) (sym c.deref.ensures) ∙ sym c.line.ensures ∙ c.in-Some-line.is in
    subst (λ v. line < length v.lines.items) (sym c.deref_mut.ensures.value)
    (subst (λ p. line < length (lines_of p)) c.in-Some.is (c.requires.room line at).0)
