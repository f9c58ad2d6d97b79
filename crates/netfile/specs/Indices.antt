-- Maps from the names of parts to their indices.
use Rattle.std.specs.Prelude.{ℕ, ◌≡◌, List}
use Rattle.std.specs.List.{position_from}
use Rattle.std.specs.HashMap.{HashMap, get}
use Rattle.std.specs.Str.{bytes_eq}
use denote.Ref.{Bor}
use Rattle.case_model.specs.declared.cases.Table.{Table}
use Rattle.case_model.specs.declared.cases.Node.{Node}
use Rattle.case_model.specs.declared.cases.Pipe.{Pipe}
use Rattle.case_rules.specs.Known.{same_bytes}

-- each name has the index of the first table of this name, and no other name has one
abbrev pub IndexTables : {S : Type 0} → HashMap (Bor (List ℕ)) ℕ S → List Table → Type 0
IndexTables indices tables =
    (name : Bor (List ℕ)) → get same_bytes indices name
    ≡ position_from (λ t. bytes_eq t.name name.now) 0 tables

-- the same of nodes, and of pipes
abbrev pub IndexNodes : {S : Type 0} → HashMap (Bor (List ℕ)) ℕ S → List Node → Type 0
IndexNodes indices nodes =
    (name : Bor (List ℕ)) → get same_bytes indices name
    ≡ position_from (λ n. bytes_eq n.name name.now) 0 nodes

abbrev pub IndexPipes : {S : Type 0} → HashMap (Bor (List ℕ)) ℕ S → List Pipe → Type 0
IndexPipes indices pipes =
    (name : Bor (List ℕ)) → get same_bytes indices name
    ≡ position_from (λ p. bytes_eq p.name name.now) 0 pipes
