-- What holds while a worker goes over the board.
use Rattle.std.specs.Prelude.{◌≡◌, length}
use Rattle.claimboard.specs.Views.{IsReady}
use Rattle.runners.specs.Tags.{HasRoom}
use Rattle.workers.proofs.scans.scan.Given as goal

abbrev pub invariant-loop-step : goal.invariant-loop-step
invariant-loop-step g l = record {
  seat : IsReady l.crew.board.now.table.shared.table_id l.crew.board.now.table.shared.key.value
      l.seat.seat;
  room : HasRoom l.crew.tag.now.layout.now l.crew.tag.now.mesh.now (length l.scratch);
  same : length l.scratch ≡ length l.fn.scratch;
}
