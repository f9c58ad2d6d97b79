use Rattle.std.proofs.Common.{◌≡◌, ◌+◌, ◌-◌, ◌∙◌, ap, refl, false, subst, sym, arith}
use Rattle.fronts.specs.Fronts.{Holds, Raises, spot}
use Rattle.fronts.specs.Stretches.{count_of}
use Rattle.strands.proofs.Spoking.{raises-spoke, same-spoke}
use Rattle.strands.specs.Spokes.{IsSameSpoke, end_place, run_low, spoke_front, spoke_since}
use Rattle.strands.specs.declared.spokes.Spoke.{Spoke}
use Rattle.strands.specs.Stations.{half}
use Rattle.strands.proofs.spokes.Spoke.step.Goals as goal

pub returns : goal.returns
returns g c =
    let law = g.L.Law.meaning c.args.law.now in
    let w = c.args.at.window in
    let s = c.args.at.start in
    let k = c.args.at.done in
    let old = c.args.self.now in
    let new : Spoke = record {
      stretch = c.advance.new.self.stretch;
      last = c.advance.new.self.last;
      loaded = false;
    } in
    let last = old.last in
    let most = c.min-most.result in
    let size : count_of old.stretch ≡ half w + 1 = c.requires.computed.on_pipe.size in
    let n : count_of old.stretch - 1 ≡ half w = omega arith in
    let ra = subst (λ m. Raises (s + k) (λ x. x) (run_low last m most)
    (run_low last m most + most + 1) (count_of old.stretch)
    (spoke_since last w s) (spoke_front last w s k) (spoke_front last w s (k + 1))) (sym n)
    (subst (λ m. Raises (s + k) (λ x. x) (run_low last (half w) most)
    (run_low last (half w) most + most + 1) m
    (spoke_since last w s) (spoke_front last w s k) (spoke_front last w s (k + 1))) (sym size)
    (raises-spoke last w s k most c.requires.inside c.min-most.ensures)) in
    let now = c.advance.ensures.advanced (spoke_since last w s) (spoke_front last w s k)
    (spoke_front last w s (k + 1)) ra
    (c.requires.point ∙ ap (λ m. spot law old.stretch (s + k + 1) (end_place last m)) (sym n))
    c.requires.computed.holds in
    let same : IsSameSpoke old new = record { places = now.same; last_is = c.advance.ensures.last }
    in
    record {
      later = record {
        same = same;
        bare = refl;
        computed = record {
          on_pipe = same-spoke law w old new same c.requires.computed.on_pipe;
          holds = subst (λ b. Holds law (spoke_since b w s) (spoke_front b w s (k + 1)) new.stretch)
              (sym c.advance.ensures.last) now.holds;
        };
      };
      same_fold = now.same_fold;
      stands = now.stands;
    }
