use Rattle.std.proofs.Common.{◌≡◌, ℕ, ◌*◌, ◌/◌, arith, subst, sym}
use Rattle.fronts.specs.Fronts.{Holds}
use Rattle.strands.specs.Sections.{IsAdvanced}
use Rattle.strands.specs.Stations.{seam_front, seam_since}
use Rattle.strands.proofs.stations.advance_even_seam.Goals as goal

pub advance_bare_seam-requires-clause-holds : goal.advance_bare_seam-requires-clause-holds
advance_bare_seam-requires-clause-holds g c κs within =
    let w : ℕ = c.args.window in
    let e : c.args.start / 2 * 2 ≡ c.args.start = omega (arith, c.requires.even) in
    subst (λ (s : ℕ). Holds (g.L.Law.meaning c.args.law.now) (seam_since w s) (seam_front w s 0)
    c.args.stretch.now) (sym e) c.requires.holds

pub returns : goal.returns
returns g c =
    let w : ℕ = c.args.window in
    let e : c.args.start / 2 * 2 ≡ c.args.start = omega (arith, c.requires.even) in
    subst (λ (s : ℕ). IsAdvanced (g.L.Law.meaning c.args.law.now) (seam_since w s)
    (seam_front w s 0) (seam_front w s w) c.args.stretch.now c.advance_bare_seam.new.stretch
    c.args.fold.now c.advance_bare_seam.new.fold) e c.advance_bare_seam.ensures
