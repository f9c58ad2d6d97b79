use Rattle.std.proofs.Common.{◌≡◌, ℕ, subst, sym, ◌∙◌, true, false}
use Rattle.case_model.specs.Sets.{IsLeast}
use Rattle.case_rules.specs.Counts.{is_incomplete, is_too_large, count_rules}
use Rattle.case_rules.proofs.Tallied.{incomplete_is, too_large_is, incomplete_least, too_large_least, counts_kept}
use Rattle.case_rules.proofs.counting.judge_counts.Goals as goal

pub returns-then-is_incomplete-clause-refused : goal.returns-then-is_incomplete-clause-refused
returns-then-is_incomplete-clause-refused c = λ number line e lines t.
    let i : is_incomplete lines ≡ true = incomplete_is c.args.tally.now lines t ∙ sym c.is_incomplete.ensures ∙ c.if-is_incomplete.true in
    let l : 0 ≡ line = cc in
    let n : 8 ≡ number = cc in
    subst (λ (x : ℕ). IsLeast (count_rules lines) line x) n (subst (λ (x : ℕ). IsLeast (count_rules lines) x 8) l (incomplete_least lines i))

pub returns-then-is_too_large-clause-refused : goal.returns-then-is_too_large-clause-refused
returns-then-is_too_large-clause-refused c = λ number line e lines t.
    let i : is_incomplete lines ≡ false = incomplete_is c.args.tally.now lines t ∙ sym c.is_incomplete.ensures ∙ c.if-is_incomplete.false in
    let k : is_too_large lines ≡ true = too_large_is c.args.tally.now lines t ∙ sym c.is_too_large.ensures ∙ c.if-is_too_large.true in
    let l : 0 ≡ line = cc in
    let n : 10 ≡ number = cc in
    subst (λ (x : ℕ). IsLeast (count_rules lines) line x) n (subst (λ (x : ℕ). IsLeast (count_rules lines) x 10) l (too_large_least lines i k))

pub returns-clause-kept : goal.returns-clause-kept
returns-clause-kept c = λ lines t.
    let i : is_incomplete lines ≡ false = incomplete_is c.args.tally.now lines t ∙ sym c.is_incomplete.ensures ∙ c.if-is_incomplete.false in
    let k : is_too_large lines ≡ false = too_large_is c.args.tally.now lines t ∙ sym c.is_too_large.ensures ∙ c.if-is_too_large.false in
    counts_kept lines i k
