use Rattle.case_model.proofs.WordLaws.{words_of-same}
use Rattle.case_model.proofs.words.words_tell_the_point.Goals as goal

pub returns : goal.returns
returns c = words_of-same
