use Rattle.std.proofs.Common.{sym}
use Rattle.round_trip.proofs.CaseTexts.{text_of_lines}
use Rattle.round_trip.proofs.FieldsBack.{texts_back}
use Rattle.round_trip.proofs.PlainCase.{case_plain}
use Rattle.round_trip.proofs.LinesBack.{lines_back}
use Rattle.round_trip.proofs.texts.written_lines_are_its_fields.Goals as goal

pub returns-clause-any : goal.returns-clause-any
returns-clause-any c = texts_back

pub returns-clause-text : goal.returns-clause-text
returns-clause-text c = λ case. sym (text_of_lines case)

pub returns-clause-plain : goal.returns-clause-plain
returns-clause-plain c = case_plain

pub returns-clause-lines : goal.returns-clause-lines
returns-clause-lines c = lines_back
