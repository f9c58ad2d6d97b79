use Rattle.round_trip.proofs.LawBack.{case_reads_back, mesh_reads_back}
use Rattle.round_trip.proofs.law.written_text_reads_back.Goals as goal

pub returns-clause-verdict : goal.returns-clause-verdict
returns-clause-verdict c = case_reads_back

pub returns-clause-mesh : goal.returns-clause-mesh
returns-clause-mesh c = mesh_reads_back
