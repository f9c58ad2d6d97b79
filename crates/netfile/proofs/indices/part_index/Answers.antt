use Rattle.std.proofs.Common.{ap, ◌∙◌, ℕ, Option}
use Rattle.std.specs.Option.{unwrap_or}
use Rattle.netfile.specs.Built.{table_index, node_index, pipe_index}
use Rattle.netfile.proofs.indices.part_index.Goals as goal

pub returns : goal.returns
unfolding table_index node_index pipe_index
returns c = record {
  tables = λ tables m. c.unwrap_or.ensures ∙ ap (λ (o : Option ℕ). unwrap_or o 0) (c.copied.ensures ∙ c.get.ensures.value ∙ m c.args.name);
  nodes = λ nodes m. c.unwrap_or.ensures ∙ ap (λ (o : Option ℕ). unwrap_or o 0) (c.copied.ensures ∙ c.get.ensures.value ∙ m c.args.name);
  pipes = λ pipes m. c.unwrap_or.ensures ∙ ap (λ (o : Option ℕ). unwrap_or o 0) (c.copied.ensures ∙ c.get.ensures.value ∙ m c.args.name);
}
