use Rattle.regionrun.proofs.Sizing.{few-sides}
use Rattle.regionrun.proofs.Spans.{has-spans}
use Rattle.regionrun.proofs.making.standing.Goals as goal

pub returns-clause-has : goal.returns-clause-has
returns-clause-has c =
    let survey = c.args.survey.now in
    let cut = c.requires.survey.cut in
    has-spans survey.layout.now survey.mesh.now c.args.number
    (c.layouts_are_lawful.ensures survey.layout.now survey.mesh.now
    (record { case = survey.case.now; cut = cut })) c.requires.there

pub returns-clause-some : goal.returns-clause-some
returns-clause-some c =
    let survey = c.args.survey.now in
    (c.layouts_are_lawful.ensures survey.layout.now survey.mesh.now
    (record { case = survey.case.now; cut = c.requires.survey.cut })).whole.some

pub returns-clause-few : goal.returns-clause-few
returns-clause-few c =
    let survey = c.args.survey.now in
    (c.layouts_are_lawful.ensures survey.layout.now survey.mesh.now
    (record { case = survey.case.now; cut = c.requires.survey.cut })).whole.few

pub returns-clause-numbered : goal.returns-clause-numbered
returns-clause-numbered c =
    let survey = c.args.survey.now in
    (c.layouts_are_lawful.ensures survey.layout.now survey.mesh.now
    (record { case = survey.case.now; cut = c.requires.survey.cut })).numbered

pub returns-clause-lawful : goal.returns-clause-lawful
returns-clause-lawful c =
    let survey = c.args.survey.now in
    c.layouts_are_lawful.ensures survey.layout.now survey.mesh.now
    (record { case = survey.case.now; cut = c.requires.survey.cut })

pub returns-clause-few_windows : goal.returns-clause-few_windows
returns-clause-few_windows c =
    let survey = c.args.survey.now in
    (c.layouts_are_lawful.ensures survey.layout.now survey.mesh.now
    (record { case = survey.case.now; cut = c.requires.survey.cut })).whole.windows

pub returns-clause-few_sides : goal.returns-clause-few_sides
returns-clause-few_sides c =
    let survey = c.args.survey.now in
    few-sides survey.layout.now survey.mesh.now c.args.number
    (c.layouts_are_lawful.ensures survey.layout.now survey.mesh.now
    (record { case = survey.case.now; cut = c.requires.survey.cut })) c.requires.there

pub returns-clause-laid_out : goal.returns-clause-laid_out
returns-clause-laid_out c =
    record { case = c.args.survey.now.case.now; cut = c.requires.survey.cut }
