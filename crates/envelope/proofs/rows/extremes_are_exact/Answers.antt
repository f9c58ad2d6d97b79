use Rattle.std.proofs.Common.{arith}
use Rattle.envelope.proofs.Overall.{is-greatest, greatest-is, no-greatest, greatest-of_none, is-least, least-is, no-least, least-of_none, envelope-is}
use Rattle.envelope.proofs.RowFolds.{envelope-at, taken-there}
use Rattle.envelope.proofs.rows.extremes_are_exact.Goals as goal

pub returns-clause-greatest : goal.returns-clause-greatest
returns-clause-greatest c = is-greatest

pub returns-clause-only_greatest : goal.returns-clause-only_greatest
returns-clause-only_greatest c = greatest-is

pub returns-clause-no_greatest : goal.returns-clause-no_greatest
returns-clause-no_greatest c = no-greatest

pub returns-clause-greatest_of_none : goal.returns-clause-greatest_of_none
returns-clause-greatest_of_none c = greatest-of_none

pub returns-clause-least : goal.returns-clause-least
returns-clause-least c = is-least

pub returns-clause-only_least : goal.returns-clause-only_least
returns-clause-only_least c = least-is

pub returns-clause-no_least : goal.returns-clause-no_least
returns-clause-no_least c = no-least

pub returns-clause-least_of_none : goal.returns-clause-least_of_none
returns-clause-least_of_none c = least-of_none

pub returns-clause-envelope : goal.returns-clause-envelope
returns-clause-envelope c = envelope-is

pub returns-clause-row_envelope : goal.returns-clause-row_envelope
returns-clause-row_envelope c = λ law at last e n h f q. envelope-at law at last e (taken-there law last 0 at n h f (omega arith)) q
