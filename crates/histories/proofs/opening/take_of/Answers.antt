use Rattle.std.proofs.Common.{◌≡◌, ℕ, ◌<◌, ◌∙◌, ap, arith, length, subst}
use Rattle.case_model.specs.declared.meshes.Mesh.{Mesh}
use Rattle.regions.specs.Sides.{AreMutual, back_of, side_of, sides_of}
use Rattle.histories.specs.Opened.{AreReadersOf}
use Rattle.histories.proofs.Dealt.{next-waiting, reader-more, take-inside, take-some, take-there, took, waits-on}
use Rattle.histories.proofs.opening.take_of.Goals as goal

pub take_reader-reader-requires-clause-there : goal.take_reader-reader-requires-clause-there
take_reader-reader-requires-clause-there g c =
    let law = g.L.Law.meaning c.args.opening.now.law.now in
    let opening = c.args.opening.now in
    let layout = opening.layout.now in
    let x : ℕ = c.args.strand in
    let side : ℕ = c.loop-side.side in
    let same : opening.mesh.now ≡ law.mesh = c.requires.opening.mesh_is in
    let mutual_sides : AreMutual layout law.mesh =
    subst (AreMutual layout) same
    (c.layouts_are_lawful.ensures layout opening.mesh.now c.requires.opening.laid_out).sides in
    let below : side < sides_of layout law.mesh x =
    subst (λ (m : Mesh). side < sides_of layout m x) same
    (omega (arith, c.loop-side-test.true, c.sides-sides.ensures)) in
    let b_is : c.side-beside.result ≡ side_of layout law.mesh x side =
    c.side-beside.ensures ∙ ap (λ (m : Mesh). side_of layout m x side) same in
    let k_is : c.back-number.result ≡ back_of layout law.mesh x side =
    c.back-number.ensures ∙ ap (λ (m : Mesh). back_of layout m x side) same in
    take-there law layout c.args.histories.now x side c.loop-side.dealt mutual_sides c.requires.there below
    c.loop-side.invariant.waiting c.side-beside.result c.back-number.result b_is k_is

pub take_reader-reader-requires-clause-inside : goal.take_reader-reader-requires-clause-inside
take_reader-reader-requires-clause-inside g c =
    let law = g.L.Law.meaning c.args.opening.now.law.now in
    let opening = c.args.opening.now in
    let layout = opening.layout.now in
    let x : ℕ = c.args.strand in
    let side : ℕ = c.loop-side.side in
    let same : opening.mesh.now ≡ law.mesh = c.requires.opening.mesh_is in
    let mutual_sides : AreMutual layout law.mesh =
    subst (AreMutual layout) same
    (c.layouts_are_lawful.ensures layout opening.mesh.now c.requires.opening.laid_out).sides in
    let below : side < sides_of layout law.mesh x =
    subst (λ (m : Mesh). side < sides_of layout m x) same
    (omega (arith, c.loop-side-test.true, c.sides-sides.ensures)) in
    let b_is : c.side-beside.result ≡ side_of layout law.mesh x side =
    c.side-beside.ensures ∙ ap (λ (m : Mesh). side_of layout m x side) same in
    let k_is : c.back-number.result ≡ back_of layout law.mesh x side =
    c.back-number.ensures ∙ ap (λ (m : Mesh). back_of layout m x side) same in
    take-inside law layout c.args.histories.now x side c.loop-side.dealt mutual_sides c.requires.there below
    c.loop-side.invariant.waiting c.side-beside.result c.back-number.result b_is k_is

pub take_reader-reader-requires-clause-waiting : goal.take_reader-reader-requires-clause-waiting
take_reader-reader-requires-clause-waiting g c =
    let law = g.L.Law.meaning c.args.opening.now.law.now in
    let opening = c.args.opening.now in
    let layout = opening.layout.now in
    let x : ℕ = c.args.strand in
    let side : ℕ = c.loop-side.side in
    let same : opening.mesh.now ≡ law.mesh = c.requires.opening.mesh_is in
    let mutual_sides : AreMutual layout law.mesh =
    subst (AreMutual layout) same
    (c.layouts_are_lawful.ensures layout opening.mesh.now c.requires.opening.laid_out).sides in
    let below : side < sides_of layout law.mesh x =
    subst (λ (m : Mesh). side < sides_of layout m x) same
    (omega (arith, c.loop-side-test.true, c.sides-sides.ensures)) in
    let b_is : c.side-beside.result ≡ side_of layout law.mesh x side =
    c.side-beside.ensures ∙ ap (λ (m : Mesh). side_of layout m x side) same in
    let k_is : c.back-number.result ≡ back_of layout law.mesh x side =
    c.back-number.ensures ∙ ap (λ (m : Mesh). back_of layout m x side) same in
    take-some law layout c.args.histories.now x side c.loop-side.dealt mutual_sides c.requires.there below
    c.loop-side.invariant.waiting c.side-beside.result c.back-number.result b_is k_is

pub loop-side-preserved : goal.loop-side-preserved
loop-side-preserved g c =
    let law = g.L.Law.meaning c.args.opening.now.law.now in
    let opening = c.args.opening.now in
    let layout = opening.layout.now in
    let x : ℕ = c.args.strand in
    let side : ℕ = c.loop-side.side in
    let same : opening.mesh.now ≡ law.mesh = c.requires.opening.mesh_is in
    let mutual_sides : AreMutual layout law.mesh =
    subst (AreMutual layout) same
    (c.layouts_are_lawful.ensures layout opening.mesh.now c.requires.opening.laid_out).sides in
    let below : side < sides_of layout law.mesh x =
    subst (λ (m : Mesh). side < sides_of layout m x) same
    (omega (arith, c.loop-side-test.true, c.sides-sides.ensures)) in
    let b_is : c.side-beside.result ≡ side_of layout law.mesh x side =
    c.side-beside.ensures ∙ ap (λ (m : Mesh). side_of layout m x side) same in
    let k_is : c.back-number.result ≡ back_of layout law.mesh x side =
    c.back-number.ensures ∙ ap (λ (m : Mesh). back_of layout m x side) same in
    record {
      readers = reader-more law layout c.args.histories.now x side c.loop-side.readers.items
          c.push.new.self.items c.take_reader-reader.result c.loop-side.invariant.readers
          c.in_ok-push.ensures.items
          (took law layout c.args.histories.now x side c.loop-side.dealt mutual_sides c.requires.there below
          c.loop-side.invariant.waiting c.side-beside.result c.back-number.result b_is k_is c.take_reader-reader.result
          c.take_reader-reader.new.dealt c.take_reader-reader.ensures);
      waiting = waits-on law layout c.args.histories.now x side c.loop-side.dealt mutual_sides c.requires.there below
          c.loop-side.invariant.waiting c.side-beside.result c.back-number.result b_is k_is c.take_reader-reader.result
          c.take_reader-reader.new.dealt c.take_reader-reader.ensures;
    }

pub returns-clause-readers : goal.returns-clause-readers
returns-clause-readers g c =
    let law = g.L.Law.meaning c.args.opening.now.law.now in
    let opening = c.args.opening.now in
    let layout = opening.layout.now in
    let x : ℕ = c.args.strand in
    let all : c.loop-side.side ≡ c.sides-sides.result =
    omega (arith, c.loop-side-test.false, c.loop-side.auto.side-end) in
    let count : c.loop-side.side ≡ sides_of layout law.mesh x =
    all ∙ c.sides-sides.ensures
    ∙ ap (λ (m : Mesh). sides_of layout m x) c.requires.opening.mesh_is in
    subst (λ (n : ℕ). AreReadersOf law layout c.args.histories.now x n c.loop-side.readers.items)
    count c.loop-side.invariant.readers

pub returns-clause-waiting : goal.returns-clause-waiting
returns-clause-waiting g c =
    next-waiting (g.L.Law.meaning c.args.opening.now.law.now) c.args.opening.now.layout.now
    c.args.histories.now c.args.strand c.loop-side.side c.loop-side.dealt
    c.loop-side.invariant.waiting
