use Rattle.std.proofs.Common.{◌≡◌, ◌+◌, ◌-◌, ◌*◌, ◌∙◌, ap, arith, false}
use Rattle.fronts.specs.Stretches.{IsStretchOf, count_of}
use Rattle.strands.proofs.Starting.{holds-nothing, puts-start, start-is, started-line}
use Rattle.strands.specs.Seams.{open_front, open_since}
use Rattle.strands.specs.Stations.{half}
use Rattle.strands.proofs.seams.Seam.make.Goals as goal

pub returns-clause-started : goal.returns-clause-started
returns-clause-started g c =
    let law = g.L.Law.meaning c.args.law.now in
    let w = c.args.window in
    let reach = c.div_ceil-reach.result in
    let old = c.in_ok-stretch.stretch in
    let new = c.put.new.self in
    let made = c.in_ok-stretch.ensures in
    let same = c.put.ensures.put.same in
    let e : reach ≡ half w = omega (arith, c.div_ceil-reach.ensures) in
    let is : IsStretchOf c.args.pipe (c.args.place - half w) (c.args.number - half w)
    (2 * half w + 1) new = record {
      pipe_is = same.pipe_is ∙ made.pipe_is;
      first_is = same.first_is ∙ made.first_is ∙ ap (λ z. c.args.place - z) e;
      number_is = same.number_is ∙ made.number_is ∙ ap (λ z. c.args.number - z) e;
      count_is = same.count_is ∙ made.count_is ∙ ap (λ z. 2 * z + 1) e;
    } in
    record {
      line =
          started-line law w c.args.pipe c.args.place c.args.number new is c.requires.some
          c.requires.on_mesh
          c.requires.numbered c.requires.small c.requires.room_left c.requires.room_right
          c.requires.number c.requires.few;
      size = is.count_is;
      some = c.requires.some;
      holds =
          c.put.ensures.holds law (λ x. 1) (λ x. 0) (open_since false false w 0)
          (open_front false false w 0)
          (puts-start w reach (count_of old) e)
          (c.start_point.ensures
          ∙ start-is law old c.args.pipe c.args.place reach made.pipe_is
          (omega (arith, made.first_is, c.requires.room_left)))
          (holds-nothing law old);
    }
