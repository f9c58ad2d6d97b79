use Rattle.std.specs.Prelude.{◌==◌}
use Rattle.std.proofs.Common.{◌∙◌, ◌+◌, ◌-◌, ◌*◌, ◌/◌, ap, arith}
use Rattle.fronts.specs.Stretches.{count_of, kept}
use Rattle.fronts.specs.Pairs.{first_of, second_of}
use Rattle.strands.proofs.Pairing.{earlier-step, later-step, station-read}
use Rattle.strands.proofs.Taking.{has-beside}
use Rattle.strands.proofs.handed.StationBlockBlock.pair.Goals as goal

pub place_beside-place-requires : goal.place_beside-place-requires
place_beside-place-requires c =
    let block = c.args.self.now in
    has-beside (block.right == 1) block.at ((block.window - 1) / 2) (count_of block.stretch.now)
    c.args.index block.ahead block.behind (omega (arith, c.requires.there))

pub returns-clause-first : goal.returns-clause-first
returns-clause-first c point tells =
    let block = c.args.self.now in
    let i = c.args.index in
    let step = block.start + (block.window - 1 - i) in
    station-read block i (2 * i) step (first_of c.pair.result) point (omega arith) (earlier-step block.window block.start i c.requires.there)
    (c.pair.ensures.first ∙ ap (kept block.stretch.now step) c.place_beside-place.ensures.place) tells

pub returns-clause-second : goal.returns-clause-second
returns-clause-second c point tells =
    let block = c.args.self.now in
    let i = c.args.index in
    let step = block.start + (block.window - 1 - i) in
    station-read block i (2 * i + 1) (step + 1) (second_of c.pair.result) point (omega arith) (later-step block.window block.start i c.requires.there)
    (c.pair.ensures.second ∙ ap (kept block.stretch.now (step + 1)) c.place_beside-place.ensures.place) tells
