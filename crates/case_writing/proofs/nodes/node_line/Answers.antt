use Rattle.std.proofs.Common.{◌≡◌, ◌∷◌, ◌++◌, arith, to_z-of_z}
use Rattle.fixed_num.specs.Written.{written}
use Rattle.case_writing.specs.CaseText.{kind_fields, node_text, node_word}
use Rattle.case_writing.proofs.Pieces.{node_pieces}
use Rattle.case_writing.proofs.nodes.node_line.Goals as goal

pub returns : goal.returns
unfolding node_text
returns c =
    let n = c.args.node.now in
    let number : c.add_number.new.line ≡ c.add_field.new.self ++ 32 ∷ written 6 n.elevation = grind (arith, to_z-of_z) in
    rw (c.push-2.ensures, c.add_kind.ensures.text, number, c.add_field.ensures, c.as_bytes.ensures.bytes, c.push.ensures, c.node_word.ensures.text, c.new-line.ensures)
    (node_pieces (node_word n.kind) n.name (written 6 n.elevation) (kind_fields c.args.tables.now n.kind))
