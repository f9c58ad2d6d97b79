use Rattle.fronts.specs.Pairs.{first_of, second_of}
use Rattle.fronts.proofs.Pairing.{both-on, both-same}
use Rattle.fronts.specs.Stretches.{is_even}
use Rattle.fronts.proofs.stretches.Stretch.put_pair.Goals as goal

pub returns-clause-same : goal.returns-clause-same
returns-clause-same c =
    both-same (is_even c.args.step) c.args.place (first_of c.args.pair) (second_of c.args.pair) c.args.self.now c.put_both.new.self c.put_both.ensures

pub returns-clause-holds : goal.returns-clause-holds
returns-clause-holds c law since front middle between sooner later a e b f h =
    both-on law c.args.step c.args.place (first_of c.args.pair) (second_of c.args.pair) c.args.self.now c.put_both.new.self since front middle between
    sooner later c.put_both.ensures a e b f h
