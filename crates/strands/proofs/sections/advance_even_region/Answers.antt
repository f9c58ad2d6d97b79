use Rattle.std.proofs.Common.{◌≡◌, ℕ, ◌+◌, ◌-◌, ◌*◌, ◌/◌, arith, subst, sym}
use Rattle.fronts.specs.Fronts.{Holds, ever, loaded, tent}
use Rattle.fronts.specs.Stretches.{count_of}
use Rattle.strands.specs.Sections.{IsAdvanced}
use Rattle.strands.proofs.sections.advance_even_region.Goals as goal

pub advance_bare_region-requires-clause-holds : goal.advance_bare_region-requires-clause-holds
advance_bare_region-requires-clause-holds g c κs within =
    let n : ℕ = count_of c.args.stretch.now - 1 in
    let e : c.args.start / 2 * 2 ≡ c.args.start = omega (arith, c.requires.even) in
    subst (λ (s : ℕ). Holds (g.L.Law.meaning c.args.law.now) ever (loaded s c.args.window n)
    c.args.stretch.now) (sym e) c.requires.holds

pub returns : goal.returns
returns g c =
    let n : ℕ = count_of c.args.stretch.now - 1 in
    let e : c.args.start / 2 * 2 ≡ c.args.start = omega (arith, c.requires.even) in
    subst (λ (s : ℕ). IsAdvanced (g.L.Law.meaning c.args.law.now) ever (loaded s c.args.window n)
    (tent (s + c.args.window) n) c.args.stretch.now c.advance_bare_region.new.stretch
    c.args.fold.now c.advance_bare_region.new.fold) e c.advance_bare_region.ensures
