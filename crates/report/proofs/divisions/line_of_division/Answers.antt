use Rattle.std.proofs.Common.{to_z-of_z, arith, ◌≡◌, ◌∙◌, ◌∷◌, ◌++◌, [], List, ℕ, codes, ap}
use Rattle.surge_io.specs.Fields.{count_text, fields_text}
use Rattle.report.specs.MeshText.{friction_text, impedance_text, speed_text}
use Rattle.report.proofs.Runs.{runs_of_four}
use Rattle.report.proofs.divisions.line_of_division.Goals as goal

pub returns : goal.returns
returns c =
    let names : List (List ℕ) = c.args.name.now ∷ count_text c.args.division.now.reaches ∷ [] in
    let speeds : List (List ℕ) = codes "speed" ∷ speed_text c.args.speed ∷ [] in
    let impedances : List (List ℕ) = codes "b" ∷ impedance_text c.args.division.now.b ∷ [] in
    let frictions : List (List ℕ) = codes "r" ∷ friction_text c.args.division.now.r ∷ [] in
    let word = c.push.ensures ∙ ap (λ l. l ++ codes "pipe") c.new-line.ensures in
    let named = c.add_pipe.ensures.text ∙ ap (λ l. l ++ fields_text names) word in
    let sped : c.add_speed.new.line ≡ c.add_pipe.new.line ++ fields_text speeds = grind (arith, to_z-of_z) in
    let fast = sped ∙ ap (λ l. l ++ fields_text speeds) named in
    let impede : c.add_impedance.new.line ≡ c.add_speed.new.line ++ fields_text impedances = grind (arith, to_z-of_z) in
    let impeded = impede ∙ ap (λ l. l ++ fields_text impedances) fast in
    let slow : c.add_friction.new.line ≡ c.add_impedance.new.line ++ fields_text frictions = grind (arith, to_z-of_z) in
    let slowed = slow ∙ ap (λ l. l ++ fields_text frictions) impeded in
    c.push-2.ensures ∙ ap (λ l. l ++ 10 ∷ []) slowed ∙ runs_of_four (codes "pipe") names speeds impedances frictions
