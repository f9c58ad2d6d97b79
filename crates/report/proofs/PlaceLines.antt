-- The lines of all places, as those of the nodes and those of each pipe.
use Rattle.std.proofs.Common.{◌≡◌, ◌∙◌, ◌++◌, ◌+◌, ℕ, List, [], ◌∷◌, length, Option, refl, ap, sym}
use Rattle.std.specs.List.{flat_map, range_with_len}
use Rattle.std.proofs.lemmas.Grind.{flat_map-append}
use Rattle.std.proofs.lemmas.List.Folds.{flat_map-map}
use Rattle.case_model.specs.Mesh.{reaches}
use Rattle.case_model.specs.declared.cases.Case.{Case}
use Rattle.case_model.specs.declared.cases.ProbeAt.{ProbeAt}
use Rattle.case_model.specs.declared.cases.ProbeAt.TheVariants.{OnPipe, OnNode}
use Rattle.case_model.specs.declared.meshes.Mesh.{Mesh}
use Rattle.case_model.specs.Samples.{Sample}
use Rattle.envelope.specs.declared.extremes.Extreme.{Extreme}
use Rattle.report.specs.Parts.{lines_of_pipe, node_lines, part_text, pipe_lines, place_line}
use Rattle.report.specs.Places.{node_places, pipe_places, places, places_of_pipe}
use Rattle.report.specs.Report.{cavities_text, envelopes_text, peak_text, report_text, samples_text}
use Rattle.report.specs.declared.writing.Part.{Part}
use Rattle.report.specs.declared.writing.Part.TheVariants.{Cavities, Envelopes}

-- the pieces of lists one behind the other
pieces_of_lists : {X Y Z : Type 0} (f : Y → List Z) (g : X → List Y) (xs : List X) → flat_map f (flat_map g xs) ≡ flat_map (λ x. flat_map f (g x)) xs
pieces_of_lists f g [] = refl
pieces_of_lists f g (x ∷ xs) = flat_map-append f (g x) (flat_map g xs) ∙ ap (λ l. flat_map f (g x) ++ l) (pieces_of_lists f g xs)

same_pieces : {X Y : Type 0} (f g : X → List Y) (xs : List X) → ((x : X) → f x ≡ g x) → flat_map f xs ≡ flat_map g xs
same_pieces f g [] e = refl
same_pieces f g (x ∷ xs) e = rw (e x, same_pieces f g xs e) refl

one_pipe : (part : Part) (case : Case) (mesh : Mesh) (extremes : ProbeAt → Extreme) (p : ℕ) → flat_map (place_line part case extremes) (places_of_pipe mesh p) ≡ lines_of_pipe part case mesh extremes p
unfolding lines_of_pipe
one_pipe part case mesh extremes p = flat_map-map (place_line part case extremes) (OnPipe p) (range_with_len 0 (reaches mesh p + 1))

all_pipes : (part : Part) (case : Case) (mesh : Mesh) (extremes : ProbeAt → Extreme) → flat_map (place_line part case extremes) (pipe_places mesh) ≡ pipe_lines part case mesh extremes
unfolding pipe_places
all_pipes part case mesh extremes =
    let ps : List ℕ = range_with_len 0 (length mesh.pipes) in
    pieces_of_lists (place_line part case extremes) (places_of_pipe mesh) ps
    ∙ same_pieces (λ p. flat_map (place_line part case extremes) (places_of_pipe mesh p)) (lines_of_pipe part case mesh extremes) ps (one_pipe part case mesh extremes)

all_nodes : (part : Part) (case : Case) (mesh : Mesh) (extremes : ProbeAt → Extreme) → flat_map (place_line part case extremes) (node_places mesh) ≡ node_lines part case mesh extremes
all_nodes part case mesh extremes = flat_map-map (place_line part case extremes) OnNode (range_with_len 0 (length mesh.ends))

pub part_pieces : (part : Part) (case : Case) (mesh : Mesh) (extremes : ProbeAt → Extreme) → node_lines part case mesh extremes ++ pipe_lines part case mesh extremes ≡ part_text part case mesh extremes
unfolding part_text places
part_pieces part case mesh extremes = sym (flat_map-append (place_line part case extremes) (node_places mesh) (pipe_places mesh) ∙ rw (all_nodes part case mesh extremes, all_pipes part case mesh extremes) refl)

-- the report is its samples, its cavities, its envelopes and its peak
pub report_pieces : (case : Case) (mesh : Mesh) (extremes : ProbeAt → Extreme) (samples : ℕ → ℕ → Option Sample)
    → ((samples_text case samples ++ part_text Cavities case mesh extremes) ++ part_text Envelopes case mesh extremes) ++ peak_text case mesh extremes ≡ report_text case mesh extremes samples
unfolding report_text cavities_text envelopes_text part_text
report_pieces case mesh extremes samples = refl
