use Rattle.endhistory.proofs.StepsAllowed.{checks, fills, publishes, looks, takes, passes}
use Rattle.endhistory.proofs.laws.each_step_keeps_the_rule.Goals as goal

pub returns : goal.returns
returns c = record {
  check = λ z slots id me. checks z slots id me;
  fill = λ z slots id me. fills z slots id me;
  publish = λ z slots id me. publishes z slots id me;
  look = λ z slots id me. looks z slots id me;
  take = λ z slots id me. takes z slots id me;
  pass = λ z slots id me. passes z slots id me;
}
