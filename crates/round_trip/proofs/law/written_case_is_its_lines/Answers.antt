use Rattle.round_trip.proofs.CaseBack.{case_back}
use Rattle.round_trip.proofs.DivisionBack.{division_empty, mesh_same}
use Rattle.round_trip.proofs.LawBack.{no_rule_broken}
use Rattle.round_trip.proofs.law.written_case_is_its_lines.Goals as goal

pub returns-clause-case : goal.returns-clause-case
returns-clause-case c = case_back

pub returns-clause-kept : goal.returns-clause-kept
returns-clause-kept c = no_rule_broken

pub returns-clause-divided : goal.returns-clause-divided
returns-clause-divided c = division_empty

pub returns-clause-mesh : goal.returns-clause-mesh
returns-clause-mesh c = mesh_same
