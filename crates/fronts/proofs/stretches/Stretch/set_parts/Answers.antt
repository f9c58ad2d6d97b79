use Rattle.std.proofs.Common.{◌≡◌, ◌∙◌, ◌*◌, refl, sym, ap, set, length, arith}
use Rattle.case_model.specs.Runs.{calm_at, calm_point}
use Rattle.fronts.specs.Cavities.{cavity_at, with_cavity}
use Rattle.fronts.specs.Stretches.{count_of}
use Rattle.fronts.proofs.Keeping.{cavity-beside, cavity-set, in-wild}
use Rattle.fronts.proofs.stretches.Stretch.set_parts.Goals as goal
use Rattle.case_model.proofs.Running.{calm-set, calm-beside}

pub returns : goal.returns
unfolding count_of
returns c =
    let o = c.args.self.now in
    let at = c.args.slot in
    let p = c.args.parts in
    let e : length o.spots.items ≡ 2 * o.count = o.spots_each in
    let f : length o.cavities.items ≡ 2 * o.count = o.cavities_each in
    let more = set o.cavities.items at p.cavity in
    record {
      same = record { pipe_is = refl; first_is = refl; number_is = refl; count_is = refl };
      here = in-wild _ at c.requires.wild
          ∙ ap (λ x. with_cavity x (cavity_at more at)) (calm-set o.spots.items at p.spot (omega (arith, e, c.requires.inside)))
          ∙ ap (with_cavity (calm_point p.spot)) (cavity-set o.cavities.items at p.cavity (omega (arith, f, c.requires.inside)));
      beside = λ k n. in-wild _ k c.requires.wild
          ∙ ap (λ x. with_cavity x (cavity_at more k)) (calm-beside o.spots.items at k p.spot n)
          ∙ ap (with_cavity (calm_at o.spots.items k)) (cavity-beside o.cavities.items at k p.cavity n)
          ∙ sym (in-wild o k c.requires.wild);
    }
