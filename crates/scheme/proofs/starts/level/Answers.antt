use Rattle.std.proofs.Common.{rules}
use Rattle.case_model.specs.Formulas.{elevation_between}
use Rattle.scheme.specs.Starts.{head_between}
use Rattle.scheme.proofs.starts.level.Goals as goal

pub returns : goal.returns
unfolding head_between elevation_between
returns c = search rules
