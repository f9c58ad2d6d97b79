use Rattle.std.proofs.Common.{◌≡◌, ◌++◌, refl, sym, append_assoc}
use Rattle.std.specs.List.{flat_map}
use Rattle.surge_io.proofs.Chains.{has_added, stopped, then_added}
use Rattle.case_writing.specs.CaseText.{network_text, settings_text, table_text, text_in}
use Rattle.case_writing.proofs.writing.add_case.Goals as goal

pub returns-in_err-add : goal.returns-in_err-add
unfolding text_in
returns-in_err-add g c =
    let tables = flat_map table_text c.args.case.now.tables in
    let network = network_text c.args.case.now in
    stopped (tables ++ network) (rw (c.as_bytes.ensures, c.settings_lines-settings.ensures) (sym (append_assoc (settings_text c.args.version c.args.case.now) tables network)))
    c.from_residual.ensures.0 c.in_err-add.ensures.added

pub returns-in_err-add_tables : goal.returns-in_err-add_tables
unfolding text_in
returns-in_err-add_tables g c =
    let whole : (c.as_bytes.result.now ++ flat_map table_text c.as_slice.result.now) ++ network_text c.args.case.now ≡ text_in c.args.version c.args.case.now =
    rw (c.as_bytes.ensures, c.settings_lines-settings.ensures, c.as_slice.ensures) refl in
    stopped (network_text c.args.case.now) whole c.from_residual-in_err-add_tables.ensures.0 (then_added refl (has_added c.in_ok-add.ensures.added) c.in_err-add_tables.ensures)

pub returns : goal.returns
unfolding text_in
returns g c =
    let whole : (c.as_bytes.result.now ++ flat_map table_text c.as_slice.result.now) ++ network_text c.args.case.now ≡ text_in c.args.version c.args.case.now =
    rw (c.as_bytes.ensures, c.settings_lines-settings.ensures, c.as_slice.ensures) refl in
    then_added whole (has_added (then_added refl (has_added c.in_ok-add.ensures.added) c.in_ok-add_tables.ensures)) c.add_network.ensures
