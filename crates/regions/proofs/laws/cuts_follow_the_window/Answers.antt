use Rattle.regions.proofs.Sound.{windows_hold, windows_end}
use Rattle.regions.proofs.Cutting.{cut-last, reaches-long, reaches-even}
use Rattle.regions.proofs.Windowed.{window-is}
use Rattle.regions.proofs.laws.cuts_follow_the_window.Goals as goal

pub returns-clause-window : goal.returns-clause-window
returns-clause-window c = window-is

pub returns-clause-filled : goal.returns-clause-filled
returns-clause-filled c = cut-last

pub returns-clause-each : goal.returns-clause-each
returns-clause-each c = reaches-long

pub returns-clause-even : goal.returns-clause-even
returns-clause-even c = reaches-even

pub returns-clause-steps : goal.returns-clause-steps
returns-clause-steps c = windows_hold

pub returns-clause-last : goal.returns-clause-last
returns-clause-last c = windows_end
