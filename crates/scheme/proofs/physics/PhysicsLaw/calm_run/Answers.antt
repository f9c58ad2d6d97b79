use Rattle.scheme.specs.Laws.{meaning_of}
use Rattle.scheme.proofs.physics.PhysicsLaw.calm_run.Goals as goal

pub calm_run-requires-clause-on_mesh : goal.calm_run-requires-clause-on_mesh
unfolding meaning_of
calm_run-requires-clause-on_mesh c = c.requires.on_mesh

pub calm_run-requires-clause-before_last : goal.calm_run-requires-clause-before_last
unfolding meaning_of
calm_run-requires-clause-before_last c = c.requires.before_last

pub unprepared_run-requires-clause-on_mesh : goal.unprepared_run-requires-clause-on_mesh
unfolding meaning_of
unprepared_run-requires-clause-on_mesh c = c.requires.on_mesh

pub unprepared_run-requires-clause-before_last : goal.unprepared_run-requires-clause-before_last
unfolding meaning_of
unprepared_run-requires-clause-before_last c = c.requires.before_last
