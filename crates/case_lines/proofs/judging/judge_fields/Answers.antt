use Rattle.std.proofs.Common.{◌-◌, map, arith, rules}
use Rattle.case_lines.proofs.Ranges.{fields_none, fields_more}
use Rattle.case_lines.specs.Fields.{field, field_kind}
use Rattle.case_lines.specs.Alone.{breaks_field, breaks_fields}
use Rattle.case_lines.proofs.judging.judge_fields.Goals as goal

pub loop-place-init : goal.loop-place-init
loop-place-init c = record { least = fields_none c.args.directive (map (λ f. f.now) c.args.fields.now); few = tt }

pub loop-place-preserved : goal.loop-place-preserved
loop-place-preserved c = record {
  least = fields_more c.args.directive (map (λ f. f.now) c.args.fields.now) c.loop-place.place c.lesser-least.result (omega arith)
      (c.lesser-least.ensures.least (breaks_fields c.args.directive (map (λ f. f.now) c.args.fields.now) (c.loop-place.place - 1))
      (breaks_field (field_kind c.args.directive c.loop-place.place) (field (map (λ f. f.now) c.args.fields.now) c.loop-place.place))
      c.loop-place.invariant.least (search rules));
  few = c.lesser-least.ensures.few c.loop-place.invariant.few (search rules);
}
