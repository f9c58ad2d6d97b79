use Rattle.regions.specs.Layouts.{sections_of}
use Rattle.regions.proofs.Listing.{pieces_more}
use Rattle.regions.proofs.layouts.add_sections.Goals as goal

pub loop-pipe-preserved : goal.loop-pipe-preserved
loop-pipe-preserved c = pieces_more (sections_of c.args.mesh.now c.args.window) c.loop-pipe.pipe _ _ _ c.loop-pipe.invariant c.in_ok-add_pipe_sections.ensures
