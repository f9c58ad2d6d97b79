-- What each thread is given.
use denote.Exit.{unseen}
use denote.Param.Send.{Quiet-if}
use mir.Syntax.{of_param}
use Rattle.workers.proofs.together.work_beside.Goals as goal

pub join_mut-requires-after_bounds : goal.join_mut-requires-after_bounds
join_mut-requires-after_bounds g c κs within = (
  (
    (
      c.requires.tag,
      c.requires.run.0,
      c.requires.run.1,
      c.requires.seats,
      c.requires.room,
    ),
    (
      record {
        owned = c.type_bounds.send-G-Stub.owned;
        leaving = λ k. Quiet-if (k (of_param 3)) _ unseen (λ x w. tt) (λ x w. tt);
      },
      record { shared = c.type_bounds.sync-R.shared },
      record { shared = c.type_bounds.sync-L.shared },
      record { shared = c.type_bounds.sync-G.shared },
      record { shared = c.type_bounds.sync-G-Stub.shared },
    ),
  ),
  (
    (
      c.requires.tag,
      c.requires.run.0,
      c.requires.run.1,
      c.requires.own_seat,
      c.requires.own_room,
    ),
    (
      record {
        owned = c.type_bounds.send-G-Stub.owned;
        leaving = λ k. Quiet-if (k (of_param 3)) _ unseen (λ x w. tt) (λ x w. tt);
      },
      record { shared = c.type_bounds.sync-R.shared },
      record { shared = c.type_bounds.sync-L.shared },
      record { shared = c.type_bounds.sync-G.shared },
      record { shared = c.type_bounds.sync-G-Stub.shared },
    ),
  ),
)
