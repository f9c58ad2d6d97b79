use Rattle.std.proofs.Common.{codes}
use Rattle.drill.specs.Network.{diameter_text, length_text}
use Rattle.drill.proofs.Chains.{five_fields}
use Rattle.drill.proofs.lines.add_measures.Goals as goal

pub returns-clause-text : goal.returns-clause-text
returns-clause-text c =
    rw (c.add_field-3.ensures, c.add_field-2.ensures, c.add_field.ensures, c.add_numbered.ensures.text, c.add_count.ensures.text)
    (five_fields c.args.line.now (length_text c.args.drawn) (diameter_text c.args.drawn) (codes "1000") (codes "0.02") (codes "0"))
