use Rattle.regionrun.proofs.Spans.{few-samples, has-spans, spans-rising}
use Rattle.regionrun.proofs.strand_folds.surveyed.Goals as goal

pub returns-clause-has : goal.returns-clause-has
returns-clause-has c =
    let survey = c.args.survey.now in
    let cut = c.requires.survey.cut in
    has-spans survey.layout.now survey.mesh.now c.args.number
    (c.layouts_are_lawful.ensures survey.layout.now survey.mesh.now
    (record { case = survey.case.now; cut = cut })) c.requires.there

pub returns-clause-rising : goal.returns-clause-rising
returns-clause-rising c =
    let survey = c.args.survey.now in
    let cut = c.requires.survey.cut in
    spans-rising survey.layout.now survey.mesh.now c.args.number
    (c.layouts_are_lawful.ensures survey.layout.now survey.mesh.now
    (record { case = survey.case.now; cut = cut })) c.requires.there

pub returns-clause-window : goal.returns-clause-window
returns-clause-window c =
    let survey = c.args.survey.now in
    let cut = c.requires.survey.cut in
    (c.layouts_are_lawful.ensures survey.layout.now survey.mesh.now
    (record { case = survey.case.now; cut = cut })).whole.some

pub returns-clause-few : goal.returns-clause-few
returns-clause-few c =
    let survey = c.args.survey.now in
    few-samples survey.case.now survey.mesh.now survey.probes.now
    (c.accepted_cases_are_kept.ensures.kept survey.case.now c.requires.survey.cut.accepted.kept)
    c.requires.survey.probes_are
