use Rattle.std.proofs.Common.{◌≡◌, ℕ, ◌<◌, ◌∙◌, length, subst, sym}
use Rattle.regions.specs.Sides.{AreMutual, back_of, side_of, sides_of}
use Rattle.runners.proofs.Beside.{laid-out}
use Rattle.runners.proofs.neighbours.neighbour_at.Goals as goal

pub link-link-requires-clause-strand : goal.link-link-requires-clause-strand
link-link-requires-clause-strand g c =
    subst (λ (n : ℕ). c.args.number < n) (sym c.requires.tag.planned.strands_are) c.requires.there

pub link-link-requires-clause-index : goal.link-link-requires-clause-index
link-link-requires-clause-index g c =
    subst (λ (n : ℕ). c.args.side < n)
    (sym (c.requires.tag.planned.sides_are c.args.number c.requires.there)) c.requires.side

pub returns-clause-strand : goal.returns-clause-strand
returns-clause-strand g c =
    c.link-link.ensures.strand
    ∙ c.requires.tag.planned.side_is c.args.number c.args.side c.requires.there c.requires.side

pub returns-clause-back : goal.returns-clause-back
returns-clause-back g c =
    c.link-link.ensures.back
    ∙ c.requires.tag.planned.back_is c.args.number c.args.side c.requires.there c.requires.side

pub returns-clause-there : goal.returns-clause-there
returns-clause-there g c =
    let law = g.L.Law.meaning c.args.tag.now.law.now in
    let layout = c.args.tag.now.layout.now in
    let sides : AreMutual layout law.mesh =
    c.sides_are_mutual.ensures layout law.mesh
    (laid-out g.L.Law.meaning c.args.tag.now c.requires.tag) in
    subst (λ (k : ℕ). k < length layout.shapes) (sym (c.link-link.ensures.strand
    ∙ c.requires.tag.planned.side_is c.args.number c.args.side c.requires.there c.requires.side))
    (sides.inside c.args.number c.args.side c.requires.there c.requires.side)

pub returns-clause-within : goal.returns-clause-within
returns-clause-within g c =
    let law = g.L.Law.meaning c.args.tag.now.law.now in
    let layout = c.args.tag.now.layout.now in
    let x : ℕ = c.args.number in
    let j : ℕ = c.args.side in
    let sides : AreMutual layout law.mesh =
    c.sides_are_mutual.ensures layout law.mesh
    (laid-out g.L.Law.meaning c.args.tag.now c.requires.tag) in
    let strand_is : c.link-link.result.strand ≡ side_of layout law.mesh x j =
    c.link-link.ensures.strand
    ∙ c.requires.tag.planned.side_is x j c.requires.there c.requires.side in
    let back_is : c.link-link.result.back ≡ back_of layout law.mesh x j =
    c.link-link.ensures.back
    ∙ c.requires.tag.planned.back_is x j c.requires.there c.requires.side in
    subst (λ (k : ℕ). c.link-link.result.back < sides_of layout law.mesh k) (sym strand_is)
    (subst (λ (k : ℕ). k < sides_of layout law.mesh (side_of layout law.mesh x j)) (sym back_is)
    (sides.index x j c.requires.there c.requires.side))
