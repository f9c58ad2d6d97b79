use Rattle.std.proofs.Common.{◌≡◌, ◌∙◌, ◌<◌, [], length, get_or, subst, sym, ap, arith}
use Rattle.envelope.specs.Extremes.{either}
use Rattle.envelope.specs.Lines.{HasSamples}
use Rattle.envelope.specs.Probes.{lines_of}
use Rattle.envelope.proofs.Probed.{marked, read-line}
use Rattle.envelope.proofs.probes.join_probed.Goals as goal

pub index-requires : goal.index-requires
index-requires c =
    let more = c.in-Some-line-2.more in
    let at = marked c.args.probes.now _ _ c.args.cell c.line.result c.in-Some-line.line c.in-Some.is c.deref.ensures c.line.ensures c.in-Some-line.is in
    let from = marked c.args.other.now _ _ c.args.from c.line-in-Some-other.result more c.in-Some-other.is c.deref-in-Some-other.ensures c.line-in-Some-other.ensures c.in-Some-line-2.is in
    let there : more < length c.deref-in-Some-line-2.result.now.lines.items =
    subst (λ v. more < length v.lines.items) (sym c.deref-in-Some-line-2.ensures)
    (subst (λ p. more < length (lines_of p)) c.in-Some-other.is (c.requires.wide c.in-Some-line.line more at from).0) in
    omega arith

pub join_line-requires-clause-same : goal.join_line-requires-clause-same
join_line-requires-clause-same c =
    let line = c.in-Some-line.line in
    let more = c.in-Some-line-2.more in
    let at = marked c.args.probes.now _ _ c.args.cell c.line.result line c.in-Some.is c.deref.ensures c.line.ensures c.in-Some-line.is in
    let from = marked c.args.other.now _ _ c.args.from c.line-in-Some-other.result more c.in-Some-other.is c.deref-in-Some-other.ensures c.line-in-Some-other.ensures c.in-Some-line-2.is in
    let wide = c.requires.wide line more at from in
    let there : more < length c.deref-in-Some-line-2.result.now.lines.items =
    subst (λ v. more < length v.lines.items) (sym c.deref-in-Some-line-2.ensures) (subst (λ p. more < length (lines_of p)) c.in-Some-other.is wide.0) in
    ap length (c.as_slice.ensures ∙ read-line c.args.other.now _ _ more _ c.in-Some-other.is c.deref-in-Some-line-2.ensures there c.index.ensures)
    ∙ wide.1
    ∙ ap (λ p. length (get_or (lines_of p) line [])) c.in-Some.is
    ∙ ap (λ v. length (get_or v.lines.items line [])) (sym c.deref_mut.ensures.value)

pub returns-in-Some-line-2-clause-here : goal.returns-in-Some-line-2-clause-here
returns-in-Some-line-2-clause-here c = λ line more last every f g at from p q.
    let own = c.in-Some-line.line in
    let theirs = c.in-Some-line-2.more in
    let at2 = marked c.args.probes.now _ _ c.args.cell c.line.result own c.in-Some.is c.deref.ensures c.line.ensures c.in-Some-line.is in
    let from2 = marked c.args.other.now _ _ c.args.from c.line-in-Some-other.result theirs c.in-Some-other.is c.deref-in-Some-other.ensures c.line-in-Some-other.ensures c.in-Some-line-2.is in
    let same : line ≡ own = let e = sym at ∙ at2 in cc in
    let same2 : more ≡ theirs = let e = sym from ∙ from2 in cc in
    let there : theirs < length c.deref-in-Some-line-2.result.now.lines.items =
    subst (λ v. theirs < length v.lines.items) (sym c.deref-in-Some-line-2.ensures)
    (subst (λ p. theirs < length (lines_of p)) c.in-Some-other.is (c.requires.wide own theirs at2 from2).0) in
    let read = c.as_slice.ensures ∙ read-line c.args.other.now _ _ theirs _ c.in-Some-other.is c.deref-in-Some-line-2.ensures there c.index.ensures in
    subst (λ n. HasSamples (either f g) last every (get_or c.join_line.new.samples.items n [])) (sym same)
    (c.join_line.ensures.here f g last every
    (subst (λ v. HasSamples f last every (get_or v.lines.items own [])) (sym c.deref_mut.ensures.value)
    (subst (λ z. HasSamples f last every (get_or (lines_of z) own [])) c.in-Some.is (subst (λ n. HasSamples f last every (get_or (lines_of c.args.probes.now) n [])) same p)))
    (subst (λ xs. HasSamples g last every xs) (sym read) (subst (λ n. HasSamples g last every (get_or (lines_of c.args.other.now) n [])) same2 q)))
