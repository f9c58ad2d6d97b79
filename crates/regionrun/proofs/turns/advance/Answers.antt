use Rattle.std.proofs.Common.{◌≡◌, ℕ, ◌+◌, ◌∙◌, ap, arith, refl, subst, sym}
use Rattle.regions.specs.Sides.{is_section}
use Rattle.regionrun.specs.declared.frontiers.Frontier.{Frontier}
use Rattle.regionrun.specs.Bodies.{IsComputed}
use Rattle.regionrun.specs.Stubs.{HasStub}
use Rattle.regionrun.proofs.turns.advance.Goals as goal

pub returns-clause-rest : goal.returns-clause-rest
returns-clause-rest g c =
    let law = g.L.Law.meaning c.args.course.now.law.now in
    let layout = c.args.course.now.layout.now in
    let start = c.args.strand.now.frontier in
    let rest = c.requires.rest in
    let number : c.compute.new.self.number ≡ start.number =
    c.compute.ensures.same.number_is ∙ c.feed.ensures.same.number_is
    ∙ ap (λ (f : Frontier). f.number) c.enter.ensures.same in
    let computed : c.feed.new.frontier.computed ≡ c.args.turn.region =
    c.feed.ensures.computed ∙ ap (λ (f : Frontier). f.computed) c.enter.ensures.same
    ∙ rest.at.computed_is in
    record {
      kind = ap (is_section layout) number ∙ rest.kind;
      at = record {
        number_is = refl;
        computed_is = c.compute.ensures.more ∙ ap (λ (k : ℕ). k + 1) computed;
        right = c.compute.ensures.right layout c.feed.ensures.right;
        bare = c.compute.ensures.bare;
        stub = subst (λ (k : ℕ). HasStub g.G.Stub.EntryStub.strand_of
            g.G.Stub.EntryStub.entered_of k (c.args.turn.region + 1) c.enter.new.self.stub)
            (sym number)
            (subst (λ (k : ℕ). HasStub g.G.Stub.EntryStub.strand_of
            g.G.Stub.EntryStub.entered_of start.number (k + 1) c.enter.new.self.stub)
            rest.at.computed_is c.enter.ensures.stub);
      };
      lending = record {
        computed = λ b more.
            let same : c.feed.new.frontier.computed ≡ b =
            omega (arith, c.compute.ensures.more, more) in
            subst (λ (w : ℕ). IsComputed law w b c.compute.new.self.body)
            (c.compute.ensures.same.window_is ∙ c.feed.ensures.right.window_is)
            (subst (λ (k : ℕ). IsComputed law c.compute.new.self.window k c.compute.new.self.body)
            same c.compute.ensures.computed);
      };
    }
