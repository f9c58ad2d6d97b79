-- The lines of the written text of a case.
use Rattle.std.proofs.Common.{◌≡◌, ap, sym, ◌∙◌}
use Rattle.case_model.specs.declared.cases.Case.{Case}
use Rattle.case_lines.specs.Texts.{lines_of}
use Rattle.case_writing.specs.CaseText.{case_text}
use Rattle.round_trip.specs.Lines.{case_lines}
use Rattle.round_trip.specs.Writable.{IsWritable}
use Rattle.round_trip.proofs.CaseTexts.{text_of_lines}
use Rattle.round_trip.proofs.FieldsBack.{texts_back}
use Rattle.round_trip.proofs.PlainCase.{case_plain}

pub lines_back : (case : Case) → IsWritable case → lines_of (case_text case) ≡ case_lines case
lines_back case w = ap lines_of (sym (text_of_lines case)) ∙ texts_back (case_lines case) (case_plain case w)
