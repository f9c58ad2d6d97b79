use Rattle.regions.specs.Layouts.{seams_of}
use Rattle.regions.proofs.Listing.{pieces_more}
use Rattle.regions.proofs.layouts.add_seams.Goals as goal

pub loop-pipe-preserved : goal.loop-pipe-preserved
loop-pipe-preserved c = pieces_more (seams_of c.args.mesh.now c.args.window) c.loop-pipe.pipe _ _ _ c.loop-pipe.invariant c.in_ok-add_pipe_seams.ensures
