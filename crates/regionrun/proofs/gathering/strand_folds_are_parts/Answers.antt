use Rattle.regionrun.proofs.Spans.{part-later, strand-part}
use Rattle.regionrun.proofs.gathering.strand_folds_are_parts.Goals as goal

pub returns-clause-part : goal.returns-clause-part
returns-clause-part c = λ case mesh layout probes x whole part survey there all own.
    strand-part case mesh layout probes x whole part
    (c.layouts_are_lawful.ensures layout mesh (record { case = case; cut = survey.cut })) there all
    own

pub returns-clause-later : goal.returns-clause-later
returns-clause-later c = part-later
