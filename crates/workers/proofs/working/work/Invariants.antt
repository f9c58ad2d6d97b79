-- What holds each time a worker goes over the board.
use Rattle.std.specs.Prelude.{length}
use Rattle.claimboard.specs.Views.{IsReady}
use Rattle.runners.specs.Tags.{HasRoom}
use Rattle.workers.proofs.working.work.Given as goal

abbrev pub invariant-loop : goal.invariant-loop
invariant-loop g l = record {
  seat : IsReady l.crew.board.now.table.shared.table_id l.crew.board.now.table.shared.key.value
      l.hand.seat.seat;
  room : HasRoom l.crew.tag.now.layout.now l.crew.tag.now.mesh.now (length l.hand.scratch.items);
}
