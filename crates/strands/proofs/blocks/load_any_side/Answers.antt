use Rattle.std.proofs.Common.{◌≡◌, ◌-◌, ◌/◌, ap, subst, sym}
use Rattle.fronts.specs.Fronts.{Holds, ever}
use Rattle.fronts.specs.Stretches.{count_of}
use Rattle.strands.proofs.Loading.{same-points}
use Rattle.strands.specs.Blocks.{IsBare, loading, raised}
use Rattle.strands.proofs.blocks.load_any_side.Goals as goal

pub returns-then-lay_side-clause-holds : goal.returns-then-lay_side-clause-holds
returns-then-lay_side-clause-holds g c = λ law front points bare h.
    let old = c.args.stretch.now in
    let mid = c.lay_side.new.stretch in
    let left = c.args.left in
    let w = c.args.window in
    let s = c.args.start in
    let same = c.lay_side.ensures.same in
    let e : count_of mid - 1 ≡ count_of old - 1 = ap (λ z. z - 1) same.count_is in
    subst (λ n. Holds law ever (raised left n w s front) c.load_last.new.stretch) e
    (c.load_last.ensures.holds law front (same-points law old mid left w s
    (g.B.Block.tells c.args.block) same points)
    (subst (λ n. IsBare left n w s front) (sym e) bare)
    (subst (λ n. Holds law ever (loading left n w s (w / 2) front) mid) (sym e)
    (c.lay_side.ensures.holds c.if-lay_side.true law front points h)))
