use Rattle.std.proofs.Common.{◌≡◌, ◌∙◌, ◌∷◌, ◌++◌, [], refl, sym, append_assoc}
use Rattle.std.specs.List.{flat_map}
use Rattle.surge_io.proofs.Chains.{has_added, stopped, then_added}
use Rattle.case_writing.specs.CaseText.{entry_text, table_text, table_word}
use Rattle.case_writing.proofs.Pieces.{table_pieces}
use Rattle.case_writing.proofs.writing.add_table.Goals as goal

pub returns-in_err-add : goal.returns-in_err-add
returns-in_err-add g c =
    let table = c.args.table.now in
    let start = table_word table.kind ++ 32 ∷ table.name in
    let pairs = flat_map (entry_text table.kind) table.points in
    let whole : c.as_bytes.result.now ++ (pairs ++ 10 ∷ []) ≡ table_text table =
    rw (c.as_bytes.ensures, c.table_start-start.ensures) (sym (append_assoc start pairs (10 ∷ [])) ∙ table_pieces table) in
    stopped (pairs ++ 10 ∷ []) whole c.from_residual.ensures.0 c.in_err-add.ensures.added

pub returns-in_err-add_entries : goal.returns-in_err-add_entries
returns-in_err-add_entries g c =
    let whole : (c.as_bytes.result.now ++ flat_map (entry_text c.args.table.now.kind) c.as_slice.result.now) ++ 10 ∷ [] ≡ table_text c.args.table.now =
    rw (c.as_bytes.ensures, c.table_start-start.ensures, c.as_slice.ensures) (table_pieces c.args.table.now) in
    stopped (10 ∷ []) whole c.from_residual-in_err-add_entries.ensures.0 (then_added refl (has_added c.in_ok-add.ensures.added) c.in_err-add_entries.ensures)

pub returns : goal.returns
returns g c =
    let whole : (c.as_bytes.result.now ++ flat_map (entry_text c.args.table.now.kind) c.as_slice.result.now) ++ 10 ∷ [] ≡ table_text c.args.table.now =
    rw (c.as_bytes.ensures, c.table_start-start.ensures, c.as_slice.ensures) (table_pieces c.args.table.now) in
    then_added whole (has_added (then_added refl (has_added c.in_ok-add.ensures.added) c.in_ok-add_entries.ensures)) c.add-2.ensures.added
