-- The text of a case as version 2.
use Rattle.std.proofs.Common.{◌≡◌, refl}
use Rattle.case_model.specs.declared.cases.Case.{Case}
use Rattle.case_writing.specs.CaseText.{case_text, network_text, settings_text, text_in, upgraded}

pub upgraded_text : (case : Case) → case_text (upgraded case) ≡ text_in 2 case
unfolding case_text text_in settings_text network_text
upgraded_text case = refl
