use Rattle.std.proofs.Common.{◌≡◌, ℕ, ◌*◌, ◌∙◌, arith, length, subst}
use Rattle.regionrun.proofs.Wording.{words-more}
use Rattle.regionrun.specs.Handed.{AreWordsOf}
use Rattle.regionrun.proofs.words.encode.Goals as goal

pub loop-number-preserved : goal.loop-number-preserved
loop-number-preserved g c = record {
  same = c.put_point.ensures.same ∙ c.loop-number.invariant.same;
  words = words-more c.loop-number.number (g.B.Block.tells c.args.block.now) c.point.result
      c.loop-number.words c.put_point.new.words c.point.ensures.point c.put_point.ensures
      c.loop-number.invariant.words;
}

pub returns : goal.returns
returns g c =
    let size : length c.args.words.now ≡ 4 * g.B.Block.size c.args.block.now = c.requires.room in
    let all : c.loop-number.number ≡ g.B.Block.size c.args.block.now =
    omega (arith, c.loop-number-test.false, c.loop-number.auto.number-end) in
    record {
      words = subst (λ (n : ℕ). AreWordsOf n (g.B.Block.tells c.args.block.now)
          c.loop-number.words) all c.loop-number.invariant.words;
    }
