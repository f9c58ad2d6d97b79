use Rattle.upgrading.proofs.AnswerSame.{upgraded_same}
use Rattle.upgrading.proofs.answers.upgraded_text_answers_alike.Goals as goal

pub returns : goal.returns
returns c = λ words bytes job case mesh j k v l. upgraded_same words bytes job case mesh j k v l
