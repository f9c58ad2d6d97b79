use Rattle.std.specs.Prelude.{ℕ, ◌-◌, ◌*◌, ◌<◌}
use Rattle.case_model.specs.Meaning.{Meaning}
use Rattle.regionrun.specs.Bodies.{HasOutgoing, IsComputed}
use Rattle.regionrun.specs.Handed.{part, words_have}
use Rattle.regionrun.proofs.frontiers.Frontier.write_words.Given as goal

abbrev pub invariant-loop-side : goal.invariant-loop-side
invariant-loop-side l = record {
  parts : (law : Meaning) (side : ℕ)
      → IsComputed law l.self.window (l.self.computed - 1) l.self.body → side < l.side
      → HasOutgoing law l.self.window (l.self.computed - 1) side l.self.body
      (words_have (part (4 * l.self.window) side l.out));
}
