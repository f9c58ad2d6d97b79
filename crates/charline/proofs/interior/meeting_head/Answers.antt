use Rattle.std.proofs.Common.{arith, to_z-of_z, ◌≡◌, ◌+◌, ◌+ℤ◌, unsigned_abs}
use Rattle.std.proofs.lemmas.Int.{ints}
use Rattle.charline.specs.Interior.{meeting_head}
use Rattle.charline.proofs.interior.meeting_head.Goals as goal
use Rattle.fixed_num.proofs.Fits.{fits}

pub mean-requires-clause-both : goal.mean-requires-clause-both
mean-requires-clause-both c =
    let one = c.requires.plus_in.impedance in
    let two = c.requires.minus_in.impedance in
    let f = fits (c.args.plus.now.b +ℤ c.args.minus.now.b) (omega (arith, ints)) in
    let s : unsigned_abs (c.args.plus.now.b +ℤ c.args.minus.now.b) ≡ unsigned_abs c.args.plus.now.b + unsigned_abs c.args.minus.now.b = omega (arith, ints) in
    grind (arith, to_z-of_z)

pub returns : goal.returns
unfolding meeting_head
returns c =
    let one = c.requires.plus_in.impedance in
    let two = c.requires.minus_in.impedance in
    let f = fits (c.args.plus.now.b +ℤ c.args.minus.now.b) (omega (arith, ints)) in
    grind (arith, to_z-of_z, c.mean.ensures)
