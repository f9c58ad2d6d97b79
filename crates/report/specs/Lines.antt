-- The fields of numbers and labels.
use Rattle.std.specs.Prelude.{ℕ, ℤ, List, [], ◌∷◌}
use Rattle.fixed_num.specs.Written.{written}
use Rattle.surge_io.specs.Fields.{count_text}
use Rattle.case_model.specs.Parts.{node_at, pipe_at}
use Rattle.case_model.specs.declared.cases.Case.{Case}
use Rattle.case_model.specs.declared.cases.ProbeAt.{ProbeAt}
use Rattle.case_model.specs.declared.cases.ProbeAt.TheVariants.{OnPipe, OnNode}

-- a head in 1e-6 m
abbrev pub head_text : ℤ → List ℕ
head_text h = written 6 h

-- a flow or a growth in 1e-9 m3/s
abbrev pub flow_text : ℤ → List ℕ
flow_text q = written 9 q

-- a volume in 1e-9 m3
abbrev pub volume_text : ℤ → List ℕ
volume_text v = written 9 v

-- how a place is named: a node by its name, a place of a pipe by the pipe's name and its number
-- there
abbrev pub node_label : Case → ℕ → List (List ℕ)
node_label case k = (node_at case k).name ∷ []

abbrev pub pipe_label : Case → ℕ → ℕ → List (List ℕ)
pipe_label case p i = (pipe_at case p).name ∷ count_text i ∷ []

abbrev pub label : Case → ProbeAt → List (List ℕ)
label case (OnPipe pipe place) = pipe_label case pipe place
label case (OnNode node) = node_label case node
