use Rattle.fixed_num.proofs.Spellings.{number_spelled, spelled_well, spelled_or_not}
use Rattle.fixed_num.proofs.decimal.numbers_are_spelled.Goals as goal

pub returns-clause-number : goal.returns-clause-number
returns-clause-number c = λ places text sign whole fraction s. number_spelled places text sign whole fraction s

pub returns-clause-spelled : goal.returns-clause-spelled
returns-clause-spelled c = λ places text h. spelled_well places text h

pub returns-clause-either : goal.returns-clause-either
returns-clause-either c = λ places text. spelled_or_not places text
