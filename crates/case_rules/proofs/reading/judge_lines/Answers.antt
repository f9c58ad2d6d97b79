use Rattle.std.proofs.Common.{◌≡◌, ℕ, ◌+◌, sym, subst, ◌∙◌, refl, arith}
use Rattle.case_model.specs.Sets.{IsLeast}
use Rattle.case_lines.specs.Texts.{lines_of}
use Rattle.case_rules.specs.Among.{line_rules}
use Rattle.case_rules.proofs.LinesRead.{next, refused_least, kept_more, kept_none, all_kept, none_least, some_line}
use Rattle.case_rules.proofs.reading.judge_lines.Goals as goal

pub lines-init : goal.lines-init
lines-init c = record { left = refl; within = omega arith; kept = λ l n h. kept_none (lines_of c.args.bytes.now) l n h }

pub returns-in-Some-judge-clause-refused : goal.returns-in-Some-judge-clause-refused
returns-in-Some-judge-clause-refused c = λ number line e.
    let all = lines_of c.args.bytes.now in
    let k = c.lines.before in
    let m = rw c.in-Some.is at c.in_ok-line.ensures in
    let i = next all k c.in-Some.line (lines_of c.in-Some.others.now) (sym c.lines.invariant.left ∙ m.0) in
    let l : k + 1 ≡ line = cc in
    let n : c.in-Some-judge.number ≡ number = cc in
    subst (λ (x : ℕ). IsLeast (line_rules all) line x) n (subst (λ (x : ℕ). IsLeast (line_rules all) x c.in-Some-judge.number) l
    (refused_least all k c.in-Some.line (lines_of c.in-Some.others.now) c.in-Some-judge.number i c.lines.invariant.kept (c.in-Some-judge.ensures all c.requires.tally)))

pub lines-preserved : goal.lines-preserved
lines-preserved c =
    let all = lines_of c.args.bytes.now in
    let m = rw c.in-Some.is at c.in_ok-line.ensures in
    let i = next all c.lines.before c.in-Some.line (lines_of c.in-Some.others.now) (sym c.lines.invariant.left ∙ m.0) in
    record {
      left = sym i.left;
      within = omega (arith, m.1, c.lines.invariant.within);
      kept = kept_more all c.lines.before c.in-Some.line (lines_of c.in-Some.others.now) i c.lines.invariant.kept (c.in_default-judge.ensures all c.requires.tally);
    }

pub returns-then-before-eq0-clause-refused : goal.returns-then-before-eq0-clause-refused
returns-then-before-eq0-clause-refused c = λ number line e.
    let all = lines_of c.args.bytes.now in
    let d = rw c.in_default.is at c.in_ok-line.ensures in
    let l : 1 ≡ line = cc in
    let n : 1 ≡ number = cc in
    subst (λ (x : ℕ). IsLeast (line_rules all) line x) n (subst (λ (x : ℕ). IsLeast (line_rules all) x 1) l (none_least all (some_line all c.lines.before (sym c.lines.invariant.left ∙ d) c.if-before-eq0.true)))

pub returns-clause-kept : goal.returns-clause-kept
returns-clause-kept c =
    let d = rw c.in_default.is at c.in_ok-line.ensures in
    all_kept (lines_of c.args.bytes.now) c.lines.before (sym c.lines.invariant.left ∙ d) (omega arith) c.lines.invariant.kept
