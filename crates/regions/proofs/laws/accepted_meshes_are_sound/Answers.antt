use Rattle.regions.proofs.Sound.{limited, ordered_for, wired_for}
use Rattle.regions.proofs.laws.accepted_meshes_are_sound.Goals as goal

pub returns-clause-mesh : goal.returns-clause-mesh
returns-clause-mesh c = λ mesh a. a.accepted.good

pub returns-clause-numbered : goal.returns-clause-numbered
returns-clause-numbered c = λ mesh a. a.accepted.numbered

pub returns-clause-limited : goal.returns-clause-limited
returns-clause-limited c = limited

pub returns-clause-wired : goal.returns-clause-wired
returns-clause-wired c = λ mesh a. wired_for a.case mesh a.accepted

pub returns-clause-rising : goal.returns-clause-rising
returns-clause-rising c = λ mesh a. ordered_for a.case mesh a.accepted
