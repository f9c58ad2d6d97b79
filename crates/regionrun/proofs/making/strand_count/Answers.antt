use Rattle.regionrun.proofs.making.strand_count.Goals as goal

pub sizes-requires : goal.sizes-requires
sizes-requires c = record { case = c.args.survey.now.case.now; cut = c.requires.survey.cut }
