use Rattle.fronts.proofs.stretches.Stretch.put_each.Goals as goal

pub returns : goal.returns
returns c = record { between = c.put_spot.new.self; one = c.put_spot.ensures; other = c.put_spot-2.ensures }
