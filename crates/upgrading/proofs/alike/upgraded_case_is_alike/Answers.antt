use Rattle.case_writing.specs.CaseText.{upgraded}
use Rattle.round_trip.specs.Renumbered.{renumbered}
use Rattle.upgrading.proofs.Same.{upgraded_alike}
use Rattle.upgrading.proofs.MeaningSame.{meaning_same}
use Rattle.upgrading.proofs.ReportSame.{report_same, range_same, sample_same}
use Rattle.upgrading.proofs.alike.upgraded_case_is_alike.Goals as goal

pub returns-clause-meaning : goal.returns-clause-meaning
returns-clause-meaning c = λ case mesh. meaning_same (renumbered (upgraded case)) case (upgraded_alike case) mesh

pub returns-clause-sample : goal.returns-clause-sample
returns-clause-sample c = λ case law at step. sample_same (renumbered (upgraded case)) case (upgraded_alike case) law at step

pub returns-clause-report : goal.returns-clause-report
returns-clause-report c = λ case mesh extremes samples. report_same (renumbered (upgraded case)) case (upgraded_alike case) mesh extremes samples

pub returns-clause-range : goal.returns-clause-range
returns-clause-range c = λ case mesh step place. range_same (renumbered (upgraded case)) case (upgraded_alike case) mesh step place
