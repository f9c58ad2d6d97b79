use Rattle.std.proofs.Common.{◌≡◌, ℕ, ◌+◌, ◌++◌, List, [], length, map, filter, Option, Some, None}
use denote.Ref.{Bor}
use Rattle.std.specs.List.{slice_split}
use Rattle.case_lines.specs.Texts.{is_blank, is_some, parts_of}
use Rattle.case_lines.proofs.cutting.parts_of.Given as goal

abbrev pub parts_left : Option (Bor (List ℕ)) → List (List ℕ)
parts_left (Some text) = slice_split is_blank text.now
parts_left None = []

abbrev pub size_left : Option (Bor (List ℕ)) → ℕ
size_left (Some text) = length text.now + 1
size_left None = 0

abbrev pub invariant-loop-rest : goal.invariant-loop-rest
invariant-loop-rest l = map (λ f. f.now) l.found.items ++ filter is_some (parts_left l.rest) ≡ parts_of l.text

abbrev pub decreases-loop-rest : goal.decreases-loop-rest
decreases-loop-rest l = size_left l.rest
