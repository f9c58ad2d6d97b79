use Rattle.envelope.specs.RowFolds.{probe_numbers}
use Rattle.envelope.specs.Rows.{rows_noted}
use Rattle.scheme.specs.Laws.{meaning_of}
use Rattle.scheme.proofs.Starting.{mesh_of_law}
use Rattle.surge_top.proofs.Reporting.{fault-there, fault-told}
use Rattle.surge_top.proofs.computing.fault_in.Goals as goal

pub returns-clause-fault : goal.returns-clause-fault
returns-clause-fault c =
    let case = c.args.case.now in
    let mesh = c.args.mesh.now in
    fault-told (meaning_of case mesh) mesh (probe_numbers mesh case) case.steps case.every
    c.args.fold.now c.fault.result (mesh_of_law case mesh) c.requires.accepted.numbered
    c.folds_tell_rows.ensures.fault c.requires.given
    (c.fault.ensures.first (rows_noted (meaning_of case mesh)) c.requires.told)

pub returns-clause-there : goal.returns-clause-there
returns-clause-there c =
    let case = c.args.case.now in
    let mesh = c.args.mesh.now in
    fault-there (meaning_of case mesh) mesh case.steps c.fault.result (mesh_of_law case mesh)
    c.requires.accepted.numbered c.numbers_tell_places.ensures.fault
    (fault-told (meaning_of case mesh) mesh (probe_numbers mesh case) case.steps case.every
    c.args.fold.now c.fault.result (mesh_of_law case mesh) c.requires.accepted.numbered
    c.folds_tell_rows.ensures.fault c.requires.given
    (c.fault.ensures.first (rows_noted (meaning_of case mesh)) c.requires.told))
