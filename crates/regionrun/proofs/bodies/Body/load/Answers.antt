use Rattle.std.proofs.Common.{sym, subst}
use Rattle.regionrun.proofs.Flags.{flag-taken}
use Rattle.regionrun.specs.Bodies.{HasLoaded}
use Rattle.regionrun.specs.declared.bodies.Body.{Body}
use Rattle.regionrun.specs.declared.bodies.Body.TheVariants.{OfNode}
use Rattle.regionrun.proofs.bodies.Body.load.Goals as goal

pub returns-in-OfNode-clause-loaded : goal.returns-in-OfNode-clause-loaded
returns-in-OfNode-clause-loaded g c =
    let old = c.in-OfNode.hub in
    let new = c.load-in-OfNode.new.self in
    let loaded : HasLoaded c.args.side (OfNode old) (OfNode new) = record {
      same = c.load-in-OfNode.ensures.loaded.same;
      loaded = flag-taken c.args.side old new c.load-in-OfNode.ensures.loaded;
    } in
    subst (λ (z : Body). HasLoaded c.args.side z (OfNode new)) (sym c.in-OfNode.is) loaded
