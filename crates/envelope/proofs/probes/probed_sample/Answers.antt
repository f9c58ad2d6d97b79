use Rattle.std.proofs.Common.{◌∙◌, ◌<◌, length, subst, sym, arith}
use Rattle.envelope.specs.Probes.{lines_of}
use Rattle.envelope.proofs.Probed.{marked, read-line}
use Rattle.envelope.proofs.probes.probed_sample.Goals as goal

pub index-requires-in-Some-line : goal.index-requires-in-Some-line
index-requires-in-Some-line c =
    let line = c.in-Some-line.line in
    let at = marked c.args.probes.now _ _ c.find_cell-cell.result c.line.result line c.in-Some.is c.deref-in-Some.ensures c.line.ensures c.in-Some-line.is in
    let there : line < length c.deref-in-Some-line.result.now.lines.items =
    subst (λ v. line < length v.lines.items) (sym c.deref-in-Some-line.ensures)
    (subst (λ p. line < length (lines_of p)) c.in-Some.is (c.requires.room c.find_cell-cell.result line at).0) in
    omega arith

pub sample_in-requires : goal.sample_in-requires
sample_in-requires c =
    let line = c.in-Some-line.line in
    let at = marked c.args.probes.now _ _ c.find_cell-cell.result c.line.result line c.in-Some.is c.deref-in-Some.ensures c.line.ensures c.in-Some-line.is in
    let room = c.requires.room c.find_cell-cell.result line at in
    let there : line < length c.deref-in-Some-line.result.now.lines.items =
    subst (λ v. line < length v.lines.items) (sym c.deref-in-Some-line.ensures) (subst (λ p. line < length (lines_of p)) c.in-Some.is room.0) in
    let read = c.as_slice.ensures ∙ read-line c.args.probes.now _ _ line _ c.in-Some.is c.deref-in-Some-line.ensures there c.index-in-Some-line.ensures in
    subst (λ xs. c.args.index < length xs) (sym read) room.1
