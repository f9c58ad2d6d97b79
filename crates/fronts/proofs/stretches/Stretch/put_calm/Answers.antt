use Rattle.std.proofs.Common.{◌<◌, ◌∙◌, ap, subst, sym}
use Rattle.std.specs.Prelude.{not}
use Rattle.case_model.specs.Runs.{calm_point}
use Rattle.fronts.specs.Stretches.{IsSet, slot}
use Rattle.fronts.proofs.Keeping.{put-set}
use Rattle.fronts.proofs.stretches.Stretch.put_calm.Goals as goal

pub returns : goal.returns
returns c =
    let old = c.args.self.now in
    let between = c.set_calm.new.self in
    let new = c.set_calm-2.new.self in
    let one = c.set_calm.ensures.set in
    let size = one.same.count_is in
    record {
      between = between;
      one = put-set c.args.even c.args.place (calm_point c.args.first) old between c.requires.inside
          (subst (λ s. IsSet s (calm_point c.args.first) old between) c.slot-here.ensures.value
          one);
      other = put-set (not c.args.even) c.args.place (calm_point c.args.second) between new
          (subst (λ n. c.args.place < n) (sym size) c.requires.inside)
          (subst (λ s. IsSet s (calm_point c.args.second) between new)
          (c.slot-there.ensures.value
          ∙ ap (λ n. slot n (not c.args.even) c.args.place) (sym size)) c.set_calm-2.ensures.set);
    }
