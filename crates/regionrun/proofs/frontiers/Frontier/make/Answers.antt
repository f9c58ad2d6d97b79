use Rattle.std.proofs.Common.{◌≡◌, ℕ, ◌*◌, ◌<◌, ◌≤◌, ◌∙◌, ap, arith, refl, subst, sym}
use Rattle.case_model.specs.declared.meshes.Mesh.{Mesh}
use Rattle.regions.specs.LaidOut.{IsLaidOut}
use Rattle.regions.specs.Sides.{shape_at, sides_of}
use Rattle.regionrun.proofs.ByKind.{body-placed, body-sides}
use Rattle.regionrun.specs.Bodies.{side_count}
use Rattle.regionrun.specs.Right.{has_loaded}
use Rattle.regionrun.proofs.frontiers.Frontier.make.Goals as goal

pub returns : goal.returns
unfolding has_loaded
returns g c =
    let law = g.L.Law.meaning c.args.law.now in
    let survey = c.args.survey.now in
    let layout = survey.layout.now in
    let x = c.args.number in
    let body = c.in_ok-body.body in
    let keeps = c.in_ok-body.ensures.keeps in
    let given = c.in_ok-fold.ensures.given in
    let sides : c.sides-sides.result ≡ sides_of layout law.mesh x =
    c.sides-sides.ensures ∙ ap (λ (mesh : Mesh). sides_of layout mesh x) c.requires.mesh in
    let count : c.sides-sides.result ≡ side_count body =
    sides ∙ body-sides layout law.mesh x body c.requires.there
    (body-placed law layout.window 0 (shape_at layout x) body keeps.places keeps.points) in
    record {
      number_is = refl;
      computed_is = refl;
      right = record {
        laid_out = subst (IsLaidOut layout) c.requires.mesh c.standing.ensures.laid_out;
        there = c.requires.there;
        window_is = refl;
        windows_are = refl;
        sides_are = sides;
        regions = omega arith;
        keeps = keeps;
        spans = given.spans_are;
        steps = subst (λ (n : ℕ). n ≤ layout.windows * layout.window) (sym given.steps_are)
            (c.layouts_are_sound.ensures.steps survey.case.now layout survey.mesh.now
            c.requires.survey.cut);
        stands = c.in_ok-fold.ensures.stands;
      };
      bare = λ side here.
          c.in_ok-body.ensures.bare side (subst (λ (n : ℕ). side < n) count here);
      fold = given;
    }
