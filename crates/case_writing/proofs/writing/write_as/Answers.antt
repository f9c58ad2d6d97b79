use Rattle.surge_io.proofs.Chains.{front_of_text, has_added, whole_text}
use Rattle.case_writing.proofs.writing.write_as.Goals as goal

pub returns-in_err-add_case : goal.returns-in_err-add_case
returns-in_err-add_case g c = front_of_text c.new-page.ensures.begins c.from_residual.ensures.0 c.in_err-add_case.ensures

pub returns : goal.returns
returns g c = whole_text c.new-page.ensures.begins (has_added c.in_ok-add_case.ensures) c.flush.ensures.finished
