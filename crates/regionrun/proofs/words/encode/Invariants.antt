use Rattle.std.specs.Prelude.{◌≡◌, length}
use Rattle.regionrun.specs.Handed.{AreWordsOf}
use Rattle.regionrun.proofs.words.encode.Given as goal

abbrev pub invariant-loop-number : goal.invariant-loop-number
invariant-loop-number g l = record {
  same : length l.words ≡ length l.fn.words;
  words : AreWordsOf l.number (g.B.Block.tells l.block) l.words;
}
