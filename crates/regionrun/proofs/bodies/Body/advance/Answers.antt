use Rattle.std.proofs.Common.{true, false, ◌≡◌, ℕ, ◌*◌, ◌∙◌, ap, sym, subst}
use Rattle.envelope.specs.Folds.{Stands}
use Rattle.regionrun.proofs.Flags.{flags-loaded, spokes-loaded}
use Rattle.regionrun.specs.Bodies.{IsFedBody, body_marks, window_start}
use Rattle.regionrun.specs.declared.bodies.Body.{Body}
use Rattle.regionrun.specs.declared.bodies.Body.TheVariants.{OfNode}
use Rattle.strands.specs.Hubs.{hub_marks, spokes_of}
use Rattle.strands.specs.Marks.{is_between, marked, or_marked}
use Rattle.strands.specs.Stations.{seam_front}
use Rattle.regionrun.proofs.bodies.Body.advance.Goals as goal

pub returns-in-OfSection-clause-stands : goal.returns-in-OfSection-clause-stands
returns-in-OfSection-clause-stands g c = λ marks st.
    let law = g.L.Law.meaning c.args.law.now in
    subst (λ (z : Body). Stands c.advance_section.new.fold
    (marked law (or_marked marks (body_marks c.args.window z c.args.region))))
    (sym c.in-OfSection.is) (c.advance_section.ensures.stands marks st)

pub returns-in-OfSeam-clause-stands : goal.returns-in-OfSeam-clause-stands
returns-in-OfSeam-clause-stands g c = λ marks st.
    let law = g.L.Law.meaning c.args.law.now in
    let w = c.args.window in
    let stretch = c.in-OfSeam.seam.stretch in
    let e : c.start-start.result ≡ c.args.region * w =
    c.start-start.ensures.is ∙ ap (λ (z : Body). window_start z w c.args.region) c.in-OfSeam.is in
    subst (λ (z : Body). Stands c.compute.new.fold
    (marked law (or_marked marks (body_marks w z c.args.region))))
    (sym c.in-OfSeam.is)
    (subst (λ (z : ℕ). Stands c.compute.new.fold
    (marked law (or_marked marks (is_between stretch (seam_front w z 0) (seam_front w z w)))))
    e (c.compute.ensures.stands marks st))

pub compute-requires-in-OfNode-clause-loaded : goal.compute-requires-in-OfNode-clause-loaded
compute-requires-in-OfNode-clause-loaded g c κs within =
    let hub = c.in-OfNode.hub in
    let fed : IsFedBody (OfNode hub) c.args.region =
    subst (λ (z : Body). IsFedBody z c.args.region) c.in-OfNode.is c.requires.fed in
    spokes-loaded (spokes_of hub) true (λ side here. fed side (λ e. cc) here)

pub returns-in-OfNode-clause-bare : goal.returns-in-OfNode-clause-bare
returns-in-OfNode-clause-bare g c =
    flags-loaded (spokes_of c.compute-in-OfNode.new.self) false c.compute-in-OfNode.ensures.bare

pub returns-in-OfNode-clause-stands : goal.returns-in-OfNode-clause-stands
returns-in-OfNode-clause-stands g c = λ marks st.
    let law = g.L.Law.meaning c.args.law.now in
    let w = c.args.window in
    let e : c.start-start.result ≡ c.args.region * w =
    c.start-start.ensures.is ∙ ap (λ (z : Body). window_start z w c.args.region) c.in-OfNode.is
    in
    subst (λ (z : Body). Stands c.compute-in-OfNode.new.fold
    (marked law (or_marked marks (body_marks w z c.args.region))))
    (sym c.in-OfNode.is)
    (subst (λ (z : ℕ). Stands c.compute-in-OfNode.new.fold
    (marked law (or_marked marks (hub_marks w z 0 w c.in-OfNode.hub))))
    e (c.compute-in-OfNode.ensures.done.stands marks st))
