use Rattle.std.proofs.Common.{◌≡◌, ◌-◌, length, true, false, ap, sym, ◌∙◌, arith}
use Rattle.case_lines.specs.Fields.{field, field_kind}
use Rattle.case_rules.specs.Among.{is_unknown, uses_unknown}
use Rattle.case_rules.proofs.Ranges.{unknown_none, unknown_more, unknown_at}
use Rattle.case_rules.proofs.judging.uses_unknown.Goals as goal

pub loop-place-init : goal.loop-place-init
loop-place-init c = record { known = λ all names. unknown_none all c.args.directive c.args.line.now; within = omega arith }

pub returns-then-is_unknown : goal.returns-then-is_unknown
returns-then-is_unknown c = λ all names.
    let fs = c.args.line.now in
    let g : is_unknown all (field_kind c.args.directive c.loop-place.place) (field fs c.loop-place.place) ≡ true =
    rw (← c.field_kind.ensures, ← c.field.ensures) (sym (c.is_unknown.ensures all names) ∙ c.if-is_unknown.true) in
    sym (unknown_at all c.args.directive fs c.loop-place.place (length c.args.line.now - 1) (omega arith) (omega arith) g)

pub loop-place-preserved : goal.loop-place-preserved
loop-place-preserved c = record {
  known = λ all names.
      let fs = c.args.line.now in
      let g : is_unknown all (field_kind c.args.directive c.loop-place.place) (field fs c.loop-place.place) ≡ false =
      rw (← c.field_kind.ensures, ← c.field.ensures) (sym (c.is_unknown.ensures all names) ∙ c.if-is_unknown.false) in
      unknown_more all c.args.directive fs c.loop-place.place (omega arith) (c.loop-place.invariant.known all names) g;
  within = omega arith;
}

pub returns : goal.returns
returns c = λ all names.
    let fs = c.args.line.now in
    sym (ap (uses_unknown all c.args.directive fs) (omega arith) ∙ c.loop-place.invariant.known all names)
