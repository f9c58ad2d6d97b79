use Rattle.std.proofs.Common.{◌≡◌, ◌∙◌, ◌+◌, ◌++◌, ap, arith}
use Rattle.drill.specs.Network.{drawn, next, pipe_text}
use Rattle.drill.proofs.Chains.{drawn_next, no_pipe, none_drawn, one_pipe}
use Rattle.drill.proofs.network.add_pipes.Goals as goal

pub loop-i-init : goal.loop-i-init
loop-i-init c = record {
  few = omega (arith, c.ranges.number.fits);
  value = none_drawn c.args.number;
  text = no_pipe c.args.text.now.items c.args.number;
}

pub loop-i-preserved : goal.loop-i-preserved
loop-i-preserved c =
    let value : c.next-drawn.result ≡ drawn c.args.number (c.loop-i.i + 1) =
    c.next-drawn.ensures.value ∙ ap next c.loop-i.invariant.value ∙ drawn_next c.args.number c.loop-i.i in
    record {
      few = c.next-drawn.ensures.few;
      value = value;
      text = c.in_ok-extend_from_slice.ensures.items
          ∙ ap (λ l. c.loop-i.text.items ++ l) (c.as_bytes.ensures ∙ c.pipe_line-line.ensures)
          ∙ ap (λ l. l ++ pipe_text (c.loop-i.i + 1) c.next-drawn.result) c.loop-i.invariant.text
          ∙ one_pipe c.args.text.now.items c.args.number c.loop-i.i c.next-drawn.result value;
    }
