-- The written text of a case is the text of its lines.
use Rattle.std.proofs.Common.{ℕ, Bool, true, false, cond, ◌==◌, ◌≡◌, List, [], ◌∷◌, ◌++◌, map, append_assoc, refl, ap, ◌∙◌}
use Rattle.std.specs.List.{flat_map}
use Rattle.std.specs.Prelude.{codes}
use Rattle.std.proofs.lemmas.List.{append-nil}
use Rattle.std.proofs.lemmas.List.Concat.{flat_map-append}
use Rattle.fixed_num.specs.Written.{written}
use Rattle.case_model.specs.declared.cases.Case.{Case}
use Rattle.case_model.specs.declared.cases.Friction.{Friction}
use Rattle.case_model.specs.declared.cases.Table.{Table}
use Rattle.case_model.specs.declared.cases.Node.{Node}
use Rattle.case_model.specs.declared.cases.Pipe.{Pipe}
use Rattle.case_model.specs.declared.cases.Probe.{Probe}
use Rattle.surge_io.specs.Fields.{line_of, count_text}
use Rattle.case_writing.specs.CaseText.{version_word, friction_word, friction_text, text_in, settings_text, table_text, node_text, pipe_text, probe_text, network_text, case_text}
use Rattle.round_trip.specs.Lines.{settings_lines, friction_lines, table_line, node_line, pipe_line, probe_line, case_lines}

mapped : {X : Type 0} (f : X → List (List ℕ)) (xs : List X) → flat_map line_of (map f xs) ≡ flat_map (λ x. line_of (f x)) xs
mapped f [] = refl
mapped f (x ∷ xs) = ap (λ l. line_of (f x) ++ l) (mapped f xs)

tables_text : (ts : List Table) → flat_map line_of (map table_line ts) ≡ flat_map table_text ts
unfolding table_text table_line
tables_text ts = mapped table_line ts

nodes_text : (tables : List Table) (ns : List Node) → flat_map line_of (map (node_line tables) ns) ≡ flat_map (node_text tables) ns
unfolding node_text node_line
nodes_text tables ns = mapped (node_line tables) ns

pipes_text : (nodes : List Node) (ps : List Pipe) → flat_map line_of (map (pipe_line nodes) ps) ≡ flat_map (pipe_text nodes) ps
unfolding pipe_text pipe_line
pipes_text nodes ps = mapped (pipe_line nodes) ps

probes_text : (pipes : List Pipe) (nodes : List Node) (qs : List Probe) → flat_map line_of (map (probe_line pipes nodes) qs) ≡ flat_map (probe_text pipes nodes) qs
unfolding probe_text probe_line
probes_text pipes nodes qs = mapped (probe_line pipes nodes) qs

friction_same : (b : Bool) (f : Friction) → flat_map line_of (cond b [] ((codes "friction" ∷ friction_word f ∷ []) ∷ [])) ≡ cond b [] (line_of (codes "friction" ∷ friction_word f ∷ []))
friction_same true f = refl
friction_same false f = append-nil (line_of (codes "friction" ∷ friction_word f ∷ []))

eight : (a b c d e f g h i : List ℕ) → i ≡ h → a ++ (b ++ (c ++ (d ++ (e ++ (f ++ (g ++ i)))))) ≡ a ++ b ++ c ++ d ++ e ++ f ++ g ++ h
eight a b c d e f g h i s = rw s (simp append_assoc)

settings_back : (case : Case) → flat_map line_of (settings_lines case) ≡ settings_text case.version case
unfolding settings_lines settings_text
settings_back case = eight
    (line_of (codes "surge" ∷ version_word case.version ∷ []))
    (line_of (codes "step" ∷ written 6 case.dt ∷ []))
    (line_of (codes "steps" ∷ count_text case.steps ∷ []))
    (line_of (codes "vapour" ∷ written 6 case.vapour ∷ []))
    (line_of (codes "weight" ∷ written 1 case.weight ∷ []))
    (line_of (codes "tolerance" ∷ written 3 case.tolerance ∷ []))
    (line_of (codes "every" ∷ count_text case.every ∷ []))
    (friction_text case.version case.friction)
    (flat_map line_of (friction_lines case.version case.friction))
    (friction_same (case.version == 1) case.friction)

five : (s t n p q : List (List (List ℕ))) → flat_map line_of (s ++ (t ++ n ++ p ++ q)) ≡ flat_map line_of s ++ flat_map line_of t ++ (flat_map line_of n ++ flat_map line_of p ++ flat_map line_of q)
five s t n p q = simp (flat_map-append, append_assoc)

same_five : (a b c d e i j k l m : List ℕ) → a ≡ i → b ≡ j → c ≡ k → d ≡ l → e ≡ m → a ++ b ++ (c ++ d ++ e) ≡ i ++ j ++ (k ++ l ++ m)
same_five a b c d e i j k l m x y z u v = cc

pub text_of_lines : (case : Case) → flat_map line_of (case_lines case) ≡ case_text case
unfolding case_lines case_text text_in network_text
text_of_lines case =
    five (settings_lines case) (map table_line case.tables) (map (node_line case.tables) case.nodes) (map (pipe_line case.nodes) case.pipes) (map (probe_line case.pipes case.nodes) case.probes)
    ∙ same_five _ _ _ _ _ _ _ _ _ _ (settings_back case) (tables_text case.tables) (nodes_text case.tables case.nodes) (pipes_text case.nodes case.pipes) (probes_text case.pipes case.nodes case.probes)
