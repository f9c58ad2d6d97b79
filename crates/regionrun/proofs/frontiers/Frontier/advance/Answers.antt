use Rattle.std.proofs.Common.{◌∙◌}
use Rattle.regionrun.proofs.ByKind.{same-sides}
use Rattle.regionrun.proofs.Keeping.{IsNext, next-keeps, next-regions, next-stands, next-steps}
use Rattle.regionrun.proofs.Keeping.{ready-fed, right-fits, right-noted, right-sides}
use Rattle.regionrun.proofs.frontiers.Frontier.advance.Goals as goal

pub advance-requires-clause-fits : goal.advance-requires-clause-fits
advance-requires-clause-fits g c κs within =
    let law = g.L.Law.meaning c.args.law.now in
    let ready = c.requires.ready in
    right-fits law ready.layout c.args.self.now.computed c.args.self.now
    (c.layouts_are_lawful.ensures ready.layout law.mesh ready.right.laid_out) ready.right

pub advance-requires-clause-fed : goal.advance-requires-clause-fed
advance-requires-clause-fed g c κs within =
    ready-fed (g.L.Law.meaning c.args.law.now) c.args.self.now c.requires.ready

pub advance-requires-clause-noted : goal.advance-requires-clause-noted
advance-requires-clause-noted g c κs within =
    let law = g.L.Law.meaning c.args.law.now in
    let ready = c.requires.ready in
    right-noted law ready.layout c.args.self.now.computed c.args.self.now
    (c.layouts_are_lawful.ensures ready.layout law.mesh ready.right.laid_out) ready.right

pub returns-clause-right : goal.returns-clause-right
returns-clause-right g c = λ layout right.
    let law = g.L.Law.meaning c.args.law.now in
    let old = c.args.self.now in
    let body = c.advance.new.self in
    let fold = c.advance.new.fold in
    let next : IsNext law old body fold = record {
      computed = c.advance.ensures.computed;
      same = c.advance.ensures.same;
      same_fold = c.advance.ensures.same_fold;
      stands = c.advance.ensures.stands;
    } in
    record {
      laid_out = right.laid_out;
      there = right.there;
      window_is = right.window_is;
      windows_are = right.windows_are;
      sides_are = right.sides_are;
      regions = next-regions law layout old c.requires.ready right;
      keeps = next-keeps law layout old body fold right next;
      spans = c.advance.ensures.same_fold.spans_are ∙ right.spans;
      steps = next-steps law layout old body fold right next;
      stands = next-stands law layout old body fold
          (c.layouts_are_lawful.ensures layout law.mesh right.laid_out) c.requires.ready
          (c.stands_for_equal_maps.ensures fold) right next;
    }

pub returns-clause-sides : goal.returns-clause-sides
returns-clause-sides g c =
    let law = g.L.Law.meaning c.args.law.now in
    let ready = c.requires.ready in
    right-sides law ready.layout c.args.self.now.computed c.args.self.now ready.right
    ∙ same-sides c.args.self.now.body c.advance.new.self c.advance.ensures.same
