-- What a case text means: a case and its mesh, or its refusal.
use Rattle.std.specs.Prelude.{ℕ, ◌+◌, ◌<◌, ◌≤◌, ◌≡◌, ◌⊎◌, nat_lt, Option, Some, None, Result, Ok}
use Rattle.std.specs.Prelude.{Err, if◌then◌else◌, List, [], ◌∷◌, length}
use Rattle.std.specs.List.{range_with_len}
use Rattle.case_model.specs.declared.cases.Case.{Case}
use Rattle.case_model.specs.declared.meshes.Mesh.{Mesh}
use Rattle.case_model.specs.Sets.{Rules, AreEmpty, IsFirst}
use Rattle.case_model.specs.Search.{Refusal, first_of}
use Rattle.case_model.specs.Division.{mesh_of}
use Rattle.case_model.specs.Refusals.{passes}
use Rattle.case_model.specs.declared.fault.CaseFault.{CaseFault}
use Rattle.case_model.specs.declared.fault.CaseFault.TheVariants.{Refused, Memory}
use Rattle.case_lines.specs.Texts.{lines_of}
use Rattle.case_rules.specs.Among.{line_rules}
use Rattle.case_rules.specs.Counts.{count_rules}
use Rattle.netfile.specs.Built.{case_of}

-- the four passes: the lines, the counts, and those of the division of the case that the lines say
abbrev pub all_passes : List (List (List ℕ)) → List Rules
all_passes lines = line_rules lines ∷ count_rules lines ∷ passes (case_of lines)

-- the numbers of the rules
abbrev pub rule_numbers : List ℕ
rule_numbers = 1 ∷ 2 ∷ 3 ∷ 4 ∷ 5 ∷ 6 ∷ 7 ∷ 8 ∷ 9 ∷ 10 ∷ 11 ∷ 12 ∷ 13 ∷ 14 ∷ 15 ∷ 16 ∷ []

-- the refusal of lines, if any: the least pair of the first pass that has one
unfoldable pub refusal_of : List (List (List ℕ)) → Option Refusal
refusal_of lines = first_of (all_passes lines) rule_numbers (range_with_len 0 (length lines + 2))

abbrev pub judged : Case → Option Refusal → Result (Case × Mesh) Refusal
judged case (Some refusal) = Err refusal
judged case None = Ok (case, mesh_of case)

-- a text over 8 MiB is refused as too long, on no line
abbrev pub too_long : Refusal
too_long = record { number = 10; line = 0 }

-- what a text means
unfoldable pub verdict : List ℕ → Result (Case × Mesh) Refusal
verdict bytes =
    if nat_lt 8_388_608 (length bytes) then Err too_long
    else judged (case_of (lines_of bytes)) (refusal_of (lines_of bytes))

-- what the verdict on a text is: over 8 MiB it is refused as too long; else, where a pass has a
-- broken rule, it is refused with the least one of the first such pass; else it means the case that
-- its lines say, and the mesh of that case
abbrev pub IsVerdict : List ℕ → Result (Case × Mesh) Refusal → Type 0
IsVerdict bytes (Err r) =
    ((8_388_608 < length bytes) × (r ≡ too_long))
    ⊎ ((length bytes ≤ 8_388_608) × IsFirst (all_passes (lines_of bytes)) r.line r.number)
IsVerdict bytes (Ok v) =
    (length bytes ≤ 8_388_608) × AreEmpty (all_passes (lines_of bytes))
    × (v.0 ≡ case_of (lines_of bytes)) × (v.1 ≡ mesh_of v.0)

-- the refusal that a fault tells, if any
abbrev pub refusal_in : CaseFault → Option Refusal
refusal_in (Refused number line) = Some (record { number = number; line = line })
refusal_in Memory = None
