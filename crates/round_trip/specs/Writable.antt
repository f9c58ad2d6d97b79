-- Which cases have a written text that reads back: those that the reader can accept.
use Rattle.std.specs.Prelude.{ℕ, ◌<◌, ◌≤◌, ◌≡◌, IsTrue, List, [], ◌++◌, map, length, All}
use Rattle.std.specs.Prelude.{slice_index_or}
use Rattle.case_model.specs.declared.cases.Case.{Case}
use Rattle.case_model.specs.Limits.{IsRead}
use Rattle.case_model.specs.Refusals.{passes}
use Rattle.case_model.specs.Sets.{AreEmpty}
use Rattle.case_lines.specs.Fields.{is_name}

-- the names of the tables, the nodes and the pipes
unfoldable pub case_names : Case → List (List ℕ)
case_names case =
    map (λ t. t.name) case.tables ++ map (λ n. n.name) case.nodes ++ map (λ p. p.name) case.pipes

-- a name as a case text can give it
pub record IsNameText (name : List ℕ) : Type 0 where
  pub spelt : IsTrue (is_name name)
  pub short : length name ≤ 32

-- no two places of a list have the same text
abbrev pub AreApart : List (List ℕ) → Type 0
AreApart names =
    (i j : ℕ) → i < length names → j < length names
    → slice_index_or names i [] ≡ slice_index_or names j [] → i ≡ j

pub record IsWritable (case : Case) : Type 0 where
  pub read : IsRead case
  pub kept : AreEmpty (passes case)
  pub some : 0 < length case.pipes
  pub names : All IsNameText (case_names case)
  pub once : AreApart (case_names case)
