-- The ends at each node, one pipe after another.
use Rattle.std.specs.Prelude.{ℕ, true, false, List, [], ◌∷◌, ◌++◌, slice_index_or, slice_set}
use Rattle.case_model.specs.declared.cases.Pipe.{Pipe}
use Rattle.case_model.specs.declared.meshes.End.{End}

-- the ends at each node, with one more at node k
abbrev pub with_end : List (List End) → ℕ → End → List (List End)
with_end ends k end = slice_set ends k (slice_index_or ends k [] ++ end ∷ [])

-- the ends at each node, with those of one more pipe
unfoldable pub with_pipe : List (List End) → ℕ → Pipe → List (List End)
with_pipe ends index p =
    with_end (with_end ends p.first (record { pipe = index; at_last = false })) p.last
    (record { pipe = index; at_last = true })
