-- The pipe ends at a node.
use Rattle.std.specs.Prelude.{ℕ, ◌+◌, ◌==◌, Bool, true, false, Option, Some, None, if◌then◌else◌}
use Rattle.std.specs.Prelude.{List, [], ◌∷◌}
use Rattle.std.specs.List.{cons_option}
use Rattle.case_model.specs.declared.cases.Pipe.{Pipe}
use Rattle.case_model.specs.declared.meshes.End.{End}

-- an end of the pipe of this index, where it is one of the node
abbrev pub end_if : Bool → ℕ → Bool → Option End
end_if here index at_last = if here then Some (record { pipe = index; at_last = at_last }) else None

-- the ends of node k in these pipes, in file order, of which the first has the index `index`; a
-- pipe from a node to itself has both its ends there
abbrev pub ends_at : ℕ → ℕ → List Pipe → List End
ends_at k index [] = []
ends_at k index (p ∷ ps) =
    cons_option (end_if (p.first == k) index false)
    (cons_option (end_if (p.last == k) index true) (ends_at k (index + 1) ps))
