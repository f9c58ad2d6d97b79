use Rattle.std.proofs.Common.{List, subst, sym}
use Rattle.envelope.specs.Folds.{Stands}
use Rattle.strands.proofs.Advancing.{or-assoc, same-marks}
use Rattle.strands.specs.Marks.{is_only, marked, or_marked}
use Rattle.strands.specs.Hubs.{EachSpoke, start_marks}
use Rattle.strands.specs.Spokes.{IsSpokeAt, NotesSpoke, ends_marks}
use Rattle.strands.specs.declared.spokes.Spoke.{Spoke}
use Rattle.strands.proofs.hubs.Hub.note_start.Goals as goal

pub note_ends-requires-clause-noted : goal.note_ends-requires-clause-noted
note_ends-requires-clause-noted c =
    subst (EachSpoke (λ i spoke. NotesSpoke spoke c.args.fold.now)) (sym c.deref.ensures.value)
    c.requires.noted.spokes

pub returns-clause-stands : goal.returns-clause-stands
returns-clause-stands c = λ law w marks h st.
    let hub = c.args.self.now in
    same-marks law c.note_state.new.fold
    (or_marked (or_marked marks (ends_marks w hub.spokes.items)) (is_only 0 hub.node))
    (or_marked marks (start_marks w hub))
    (λ t p. or-assoc (marks t p) (ends_marks w hub.spokes.items t p) (is_only 0 hub.node t p))
    (c.note_state.ensures.stands law (or_marked marks (ends_marks w hub.spokes.items))
    h.on_mesh.numbered h.on_mesh.there h.state_is
    (subst (λ (xs : List Spoke). Stands c.note_ends.new.fold
    (marked law (or_marked marks (ends_marks w xs)))) c.deref.ensures.value
    (c.note_ends.ensures.stands law w marks (subst (EachSpoke (λ i. IsSpokeAt law w 0))
    (sym c.deref.ensures.value) h.spokes) st)))
