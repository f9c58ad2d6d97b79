use Rattle.strands.specs.Sections.{IsAdvanced}
use Rattle.strands.specs.Stations.{seam_front, seam_since}
use Rattle.strands.proofs.stations.advance_any_seam.Given as goal

abbrev pub invariant-loop-k : goal.invariant-loop-k
invariant-loop-k g l =
    IsAdvanced (g.L.Law.meaning l.law) (seam_since l.fn.window l.fn.start) (seam_front l.fn.window l.fn.start 0)
    (seam_front l.fn.window l.fn.start l.k) l.fn.stretch l.stretch l.fn.fold l.fold
