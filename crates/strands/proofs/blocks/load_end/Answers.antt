use Rattle.std.proofs.Common.{◌≡◌, ◌+◌, ◌-◌, ◌<◌, ◌∙◌, ap, subst, sym, arith}
use Rattle.fronts.specs.Stretches.{count_of}
use Rattle.strands.proofs.Loading.{end-inside, loading-all, loading-none}
use Rattle.strands.specs.Blocks.{from_end}
use Rattle.strands.proofs.blocks.load_end.Goals as goal

pub load_place-requires-clause-inside : goal.load_place-requires-clause-inside
load_place-requires-clause-inside g c =
    let n = c.count-last.result - 1 in
    let size : count_of c.args.stretch.now ≡ n + 1 =
    omega (arith, c.count-last.ensures, c.requires.long, c.requires.two) in
    subst (λ z. z < count_of c.args.stretch.now) (sym c.from_end.ensures)
    (end-inside c.args.left n 0 (count_of c.args.stretch.now) (omega arith) size)

pub returns-clause-holds : goal.returns-clause-holds
returns-clause-holds g c = λ law front points bare h.
    let old = c.args.stretch.now in
    let new = c.load_place.new.stretch in
    let left = c.args.left in
    let w = c.args.window in
    let s = c.args.start in
    let n = count_of old - 1 in
    let two = c.requires.two in
    let long = c.requires.long in
    let last : c.count-last.result - 1 ≡ n = omega (arith, c.count-last.ensures) in
    let size : count_of old ≡ n + 1 = omega (arith, long) in
    let after : count_of new ≡ n + 1 = omega (arith, c.load_place.ensures.same.count_is, long) in
    loading-all law new left n w s 1 front after (omega (arith, two)) (omega (arith, long)) bare
    (c.load_place.ensures.holds law left n front size (omega (arith, long))
    (c.from_end.ensures ∙ ap (λ z. from_end left z 0) last) points bare
    (loading-none law old left n w s front h))
