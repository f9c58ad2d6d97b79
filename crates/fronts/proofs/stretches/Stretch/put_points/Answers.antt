use Rattle.fronts.proofs.stretches.Stretch.put_points.Goals as goal

pub returns : goal.returns
returns c = record { between = c.put_of.new.self; one = c.put_of.ensures; other = c.put_of-2.ensures }
