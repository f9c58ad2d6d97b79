use Rattle.std.proofs.Common.{◌-◌, ◌/◌, ◌<◌, ◌≤◌, inl, inr, subst, sym, arith}
use Rattle.fronts.specs.Fronts.{Raises, ever}
use Rattle.fronts.specs.Stretches.{count_of}
use Rattle.strands.proofs.Advancing.{advanced-empty, advanced-runs, raises-whole}
use Rattle.strands.proofs.sections.advance.Goals as goal
use Rattle.strands.proofs.sections.advance.Goals.{else-low-high-via-then-low-high+else-low-half, else-low-high-via-else-low-high}
use Rattle.strands.proofs.sections.advance.Goals.{else-half-high, then-half-high}

pub returns-then-gap-end : goal.returns-then-gap-end
returns-then-gap-end g c = λ front later ra h.
    let law = g.L.Law.meaning c.args.law.now in
    let old = c.args.stretch.now in
    let mid = c.advance_run.new.stretch in
    let new = c.advance_run-then-gap-end.new.stretch in
    let first = c.args.fold.now in
    let second = c.advance_run.new.fold in
    let third = c.advance_run-then-gap-end.new.fold in
    let low = c.args.low in
    let high = c.args.high in
    let step = c.args.step in
    let more = c.if-gap-end.true in
    elim c.if-half-high.branch [
      | then-half-high w ↦ absurd (omega (arith, w.gap-is))
      | else-half-high w ↦
          let half : high ≤ (count_of old - 1) / 2 =
          subst (λ z. high ≤ (z - 1) / 2) c.count-count.ensures w.if-half-high.false in
          advanced-runs law step low high front later old mid new first second third
          c.requires.after_first c.if-low-high.true half c.advance_run.ensures.same ra h
          (λ since one two r k. c.advance_run.ensures.advanced since one two
          (subst (λ z. Raises step (λ x. x) low z (count_of old) since one two) (sym w.gap-is) r) k)
          (λ since one two r k. c.advance_run-then-gap-end.ensures.advanced since one two
          (subst (λ z. Raises step (λ x. x) (z - high) (z - low) (count_of mid) since one two)
          (sym c.count-count.ensures) r) k)
    ]

pub returns-else-gap-end : goal.returns-else-gap-end
returns-else-gap-end g c = λ front later ra h.
    let old = c.args.stretch.now in
    let low = c.args.low in
    let high = c.args.high in
    let step = c.args.step in
    let n = count_of old in
    let less : low < high = c.if-low-high.true in
    let none = c.if-gap-end.false in
    elim c.if-half-high.branch [
      | then-half-high w ↦
          let half : (n - 1) / 2 < high =
          subst (λ z. (z - 1) / 2 < high) c.count-count.ensures w.if-half-high.true in
          c.advance_run.ensures.advanced ever front later
          (subst (λ z. Raises step (λ x. x) low z n ever front later) (sym w.gap-is)
          (subst (λ z. Raises step (λ x. x) low (z - low) n ever front later)
          (sym c.count-count.ensures)
          (raises-whole step n low high front later c.requires.after_first half ra))) h
      | else-half-high w ↦
          absurd (omega (arith, w.gap-is, w.if-half-high.false, c.requires.after_first))
    ]

pub returns-else-low-high : goal.returns-else-low-high
returns-else-low-high g c = λ front later ra h.
    let old = c.args.stretch.now in
    let low = c.args.low in
    let high = c.args.high in
    advanced-empty (g.L.Law.meaning c.args.law.now) c.args.step low high front later old
    c.args.fold.now
    (elim c.else-low-high.branch [
      | else-low-high-via-then-low-high+else-low-half w ↦
          inr (subst (λ z. (z - 1) / 2 < low) c.count-count.ensures w.if-low-half.false)
      | else-low-high-via-else-low-high w ↦ inl w.if-low-high.false
    ]) ra h
