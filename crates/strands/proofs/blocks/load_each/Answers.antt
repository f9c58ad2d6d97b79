use Rattle.std.proofs.Common.{◌≡◌, ◌+◌, ◌-◌, ◌/◌, ◌≤◌, ◌<◌, ◌∙◌, ap, refl, subst, sym, arith}
use Rattle.fronts.specs.Stretches.{count_of}
use Rattle.strands.proofs.Loading.{end-inside, loading-all, loading-none, same-points}
use Rattle.strands.specs.Blocks.{from_end}
use Rattle.strands.proofs.blocks.load_each.Goals as goal

pub loop-distance-init : goal.loop-distance-init
loop-distance-init g c = record {
  same = record { pipe_is = refl; first_is = refl; number_is = refl; count_is = refl };
  holds = λ law front points bare h.
      loading-none law c.args.stretch.now c.args.left (count_of c.args.stretch.now - 1)
      c.args.window c.args.start front h;
}

pub load_place-requires-clause-inside : goal.load_place-requires-clause-inside
load_place-requires-clause-inside g c =
    let n = c.count-last.result - 1 in
    let d : c.loop-distance.distance ≤ n =
    omega (
      arith,
      c.loop-distance-test.true,
      c.div_ceil-distance-end.ensures,
      c.count-last.ensures,
      c.requires.long,
    ) in
    let size : count_of c.loop-distance.stretch ≡ n + 1 =
    omega (arith, c.loop-distance.invariant.same.count_is, c.count-last.ensures, c.requires.long) in
    subst (λ z. z < count_of c.loop-distance.stretch) (sym c.from_end.ensures)
    (end-inside c.args.left n c.loop-distance.distance (count_of c.loop-distance.stretch) d size)

pub loop-distance-preserved : goal.loop-distance-preserved
loop-distance-preserved g c =
    let old = c.args.stretch.now in
    let mid = c.loop-distance.stretch in
    let inv = c.loop-distance.invariant.same in
    let now = c.load_place.ensures.same in
    let n = count_of old - 1 in
    let last : c.count-last.result - 1 ≡ n = omega (arith, c.count-last.ensures) in
    let size : count_of mid ≡ n + 1 = omega (arith, inv.count_is, c.requires.long) in
    record {
      same = record {
        pipe_is = now.pipe_is ∙ inv.pipe_is;
        first_is = now.first_is ∙ inv.first_is;
        number_is = now.number_is ∙ inv.number_is;
        count_is = now.count_is ∙ inv.count_is;
      };
      holds = λ law front points bare h.
          c.load_place.ensures.holds law c.args.left n front size (omega (arith, c.requires.long))
          (c.from_end.ensures ∙ ap (λ z. from_end c.args.left z c.loop-distance.distance) last)
          (same-points law old mid c.args.left c.args.window c.args.start
          (g.B.Block.tells c.args.block) inv points) bare
          (c.loop-distance.invariant.holds law front points bare h);
    }

pub returns-clause-holds : goal.returns-clause-holds
returns-clause-holds g c = λ law front points bare h.
    let old = c.args.stretch.now in
    let new = c.loop-distance.stretch in
    let n = count_of old - 1 in
    let size : count_of new ≡ n + 1 = omega
    (arith, c.loop-distance.invariant.same.count_is, c.requires.long) in
    let all : (c.args.window + 1) / 2 ≡ c.loop-distance.distance =
    omega (
      arith,
      c.loop-distance-test.false,
      c.loop-distance.auto.distance-end,
      c.div_ceil-distance-end.ensures,
    ) in
    loading-all law new c.args.left n c.args.window c.args.start c.loop-distance.distance front size
    all
    (omega (arith, c.requires.long)) bare (c.loop-distance.invariant.holds law front points bare h)
