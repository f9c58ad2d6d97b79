use Rattle.std.proofs.Common.{◌≡◌, ℕ, ◌+◌, ◌-◌, ◌*◌, ◌<◌, ◌≤◌, ◌∙◌, List, ap, arith, length, refl, subst, sym}
use Rattle.regions.specs.Sides.{sides_of}
use Rattle.regionrun.specs.Bodies.{HasOutgoing}
use Rattle.regionrun.specs.Handed.{AreWordsOf, IsBlockFor, part, words_have}
use Rattle.regionrun.specs.Lent.{lent_tells}
use Rattle.regionrun.proofs.Keeping.{right-outgoing}
use Rattle.regionrun.proofs.Parts.{part-inside, part-size, parts-more}
use Rattle.regionrun.proofs.Wording.{words-for, words-outgoing}
use Rattle.regionrun.proofs.frontiers.Frontier.write_words.Goals as goal

pub loop-side-preserved : goal.loop-side-preserved
loop-side-preserved c =
    let f = c.args.self.now in
    let w : ℕ = f.window in
    let side = c.loop-side.side in
    let old = c.loop-side.out in
    let new = c.encode_lent.new.words in
    let each : length old ≡ 4 * w * f.sides = c.loop-side.auto.out ∙ c.requires.room in
    let inside : 4 * w * side + 4 * w ≤ length old =
    part-inside (4 * w) f.sides side (length old) c.loop-side-test.true each in
    let size : length new ≡ 4 * w = c.encode_lent.auto.words ∙ part-size (4 * w) side old inside in
    record {
      parts = λ law i computed below.
          parts-more
          (λ (n : ℕ) (items : List ℕ). HasOutgoing law w (f.computed - 1) n f.body
          (words_have items))
          (4 * w) side (4 * w * side) (4 * w * side + 4 * w - 4 * w * side) old new refl
          (omega arith) size inside (λ n l. c.loop-side.invariant.parts law n computed l)
          (words-outgoing law w (f.computed - 1) side f.body (lent_tells c.block.result) new
          (subst (λ (n : ℕ). AreWordsOf n (lent_tells c.block.result) new) c.block.ensures.size
          c.encode_lent.ensures.words) (c.block.ensures.points law computed)) i below;
    }

pub returns : goal.returns
returns c = record {
  block = λ law layout right computed.
      let f = c.args.self.now in
      let w : ℕ = f.window in
      let out = c.loop-side.out in
      let size : length out ≡ 4 * w * f.sides = c.loop-side.auto.out ∙ c.requires.room in
      let all : c.loop-side.side ≡ f.sides =
      omega (arith, c.loop-side-test.false, c.loop-side.auto.side-end) in
      record {
        each = subst (λ (n : ℕ). length out ≡ 4 * n * sides_of layout law.mesh f.number)
            right.window_is (subst (λ (n : ℕ). length out ≡ 4 * w * n) right.sides_are size);
        parts = λ side here.
            let below : side < f.sides = subst (λ (n : ℕ). side < n) (sym right.sides_are) here in
            subst (λ (n : ℕ). IsBlockFor law layout f.number side (f.computed - 1)
            (part (4 * n) side out)) right.window_is
            (words-for law layout f.number side (f.computed - 1) (part (4 * w) side out)
            (part-size (4 * w) side out (part-inside (4 * w) f.sides side (length out) below size)
            ∙ ap (λ (n : ℕ). 4 * n) right.window_is)
            (right-outgoing law layout f.computed (f.computed - 1) side f
            (words_have (part (4 * w) side out))
            (c.layouts_are_lawful.ensures layout law.mesh right.laid_out) right
            (subst (λ (n : ℕ). side < n) c.requires.sides below)
            (c.loop-side.invariant.parts law side computed (omega arith))));
      };
}
