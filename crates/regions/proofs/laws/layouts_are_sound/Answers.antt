use Rattle.regions.proofs.Sound.{accepted_mesh, laid_whole, cut_window, cut_holds, cut_ends}
use Rattle.regions.proofs.laws.layouts_are_sound.Goals as goal

pub returns-clause-mesh : goal.returns-clause-mesh
returns-clause-mesh c = accepted_mesh

pub returns-clause-whole : goal.returns-clause-whole
returns-clause-whole c = laid_whole

pub returns-clause-window : goal.returns-clause-window
returns-clause-window c = cut_window

pub returns-clause-steps : goal.returns-clause-steps
returns-clause-steps c = cut_holds

pub returns-clause-last : goal.returns-clause-last
returns-clause-last c = cut_ends
