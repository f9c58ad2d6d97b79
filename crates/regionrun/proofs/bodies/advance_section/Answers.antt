use Rattle.std.proofs.Common.{◌≡◌, ℕ, suc, ◌-◌, ◌+◌, sym, subst, arith}
use Rattle.envelope.specs.Folds.{Stands}
use Rattle.fronts.specs.Fronts.{loaded, tent}
use Rattle.fronts.specs.Stretches.{count_of}
use Rattle.regionrun.specs.Bodies.{section_marks}
use Rattle.strands.specs.Marks.{is_between, marked, or_marked}
use Rattle.regionrun.proofs.bodies.advance_section.Goals as goal

pub returns-then-region-eq0-clause-stands : goal.returns-then-region-eq0-clause-stands
returns-then-region-eq0-clause-stands g c = λ marks st.
    let law = g.L.Law.meaning c.args.law.now in
    let stretch = c.args.section.now.stretch in
    subst (λ (z : ℕ). Stands c.compute_first.new.fold
    (marked law (or_marked marks (section_marks c.args.window stretch z))))
    (sym c.if-region-eq0.true) (c.compute_first.ensures.advanced.stands marks st)

pub returns-else-region-eq0-clause-stands : goal.returns-else-region-eq0-clause-stands
returns-else-region-eq0-clause-stands g c = λ marks st.
    let law = g.L.Law.meaning c.args.law.now in
    let stretch = c.args.section.now.stretch in
    let w = c.args.window in
    let n = count_of stretch - 1 in
    let some = c.if-region-eq0.false in
    let e : suc (c.args.region - 1) ≡ c.args.region = omega arith in
    subst (λ (z : ℕ). Stands c.compute_next.new.fold
    (marked law (or_marked marks (section_marks w stretch z)))) e
    (subst (λ (z : ℕ). Stands c.compute_next.new.fold
    (marked law (or_marked marks (is_between stretch (loaded z w n) (tent (z + w) n)))))
    c.steps_in.ensures.is (c.compute_next.ensures.advanced.stands marks st))
