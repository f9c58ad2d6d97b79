use Rattle.std.specs.Prelude.{◌==◌}
use Rattle.std.proofs.Common.{◌∙◌, ◌+◌, ◌-◌, ◌*◌, ap, arith}
use Rattle.fronts.specs.Stretches.{kept}
use Rattle.fronts.specs.Pairs.{first_of, second_of}
use Rattle.strands.specs.Blocks.{from_end}
use Rattle.strands.proofs.Pairing.{section-read}
use Rattle.strands.proofs.handed.SectionBlockBlock.pair.Goals as goal

pub returns-clause-first : goal.returns-clause-first
returns-clause-first c point tells =
    let block = c.args.self.now in
    let i = c.args.index in
    section-read block i (2 * i) (block.start + i) (first_of c.pair.result) point (omega arith) (omega arith)
    (c.pair.ensures.first ∙ ap (kept block.stretch.now (block.start + i))
    (c.from_end-place.ensures ∙ ap (λ n. from_end (block.left == 1) (n - 1) (i + 1)) c.count.ensures)) tells

pub returns-clause-second : goal.returns-clause-second
returns-clause-second c point tells =
    let block = c.args.self.now in
    let i = c.args.index in
    section-read block i (2 * i + 1) (block.start + i + 1) (second_of c.pair.result) point (omega arith) (omega arith)
    (c.pair.ensures.second ∙ ap (kept block.stretch.now (block.start + i + 1))
    (c.from_end-place.ensures ∙ ap (λ n. from_end (block.left == 1) (n - 1) (i + 1)) c.count.ensures)) tells
