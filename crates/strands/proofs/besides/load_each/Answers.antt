use Rattle.std.proofs.Common.{◌≡◌, ◌+◌, ◌-◌, ◌∙◌, subst, sym, arith}
use Rattle.fronts.specs.Fronts.{Holds}
use Rattle.fronts.specs.Stretches.{count_of}
use Rattle.strands.proofs.Taking.{nearer, same-outer}
use Rattle.strands.specs.Beside.{HasBeside, taken_front, taken_since}
use Rattle.strands.specs.Stations.{half}
use Rattle.strands.proofs.besides.load_each.Goals as goal

pub loop-distance-preserved : goal.loop-distance-preserved
loop-distance-preserved g c =
    let old = c.args.stretch.now in
    let mid = c.loop-distance.stretch in
    let inv = c.loop-distance.invariant.same in
    let now = c.load_at.ensures.same in
    let d = c.loop-distance.distance in
    let right = c.args.right in
    let at = c.args.at in
    let w = c.args.window in
    let s = c.args.start in
    let size : count_of mid ≡ count_of old = inv.count_is in
    let has : HasBeside right at d (count_of mid) = subst (λ n. HasBeside right at d n) (sym size)
    (nearer right at (half w) d (count_of old) c.requires.inside
    (omega (arith, c.loop-distance-test.true, c.div_ceil-distance-end.ensures))) in
    let e : d ≡ d + 1 - 1 = omega arith in
    record {
      same = record {
        pipe_is = now.pipe_is ∙ inv.pipe_is;
        first_is = now.first_is ∙ inv.first_is;
        number_is = now.number_is ∙ inv.number_is;
        count_is = now.count_is ∙ inv.count_is;
      };
      holds = λ law since front points h.
          subst (λ i. Holds law (taken_since right at s i since) (taken_front right at w s i front)
          c.load_at.new.stretch) e
          (c.load_at.ensures.holds law right at since front has c.place_beside-place.ensures.place
          (same-outer law old mid right at w s (g.B.Block.tells c.args.block) inv points)
          (c.loop-distance.invariant.holds law since front points h));
    }
