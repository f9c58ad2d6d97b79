-- What the runners of a run are to the board.
use Rattle.std.specs.Prelude.{◌≡◌, ℕ, ◌*◌, ◌<◌, ◌≤◌, ◌==◌, Bool, true, false, List}
use Rattle.std.specs.Prelude.{length, slice_index_or, Result, Ok, Err, IfOk}
use Rattle.std.proofs.Common.{◌∙◌, ap, sym, subst, arith}
use Rattle.std.proofs.lemmas.Bool.{ne_eqb}
use Rattle.std.specs.Global.{Vec}
use Rattle.case_model.specs.Meaning.{Meaning}
use Rattle.claimboard.specs.Items.{AreItems, IsItem}
use Rattle.regions.specs.Sides.{is_section}
use Rattle.regionrun.proofs.Starts.{some-windows}
use Rattle.regionrun.specs.Engine.{none}
use Rattle.regionrun.specs.Right.{region_count}
use Rattle.runners.specs.Runners.{IsGood, is_finished}
use Rattle.runners.specs.declared.runners.Runner.{Runner}
use Rattle.runners.specs.declared.tags.RunTag.{RunTag}
use Rattle.schedule.specs.Nets.{regions_of}
use Rattle.workers.specs.Runs.{AreRunners, IsRunnerAt}

-- a strand has at least one region
unfinished : (kind : Bool) (windows regions computed : ℕ) → 0 < windows → computed ≡ 0
    → regions ≡ regions_of kind windows → (computed == regions) ≡ false
unfinished true windows regions computed some c r =
    ne_eqb computed regions (λ e. absurd (omega (arith, some, c, r, e)))
unfinished false windows regions computed some c r =
    ne_eqb computed regions (λ e. absurd (omega (arith, some, c, r, e)))

pub same-of : (a b : ℕ) → (a == b) ≡ true → a ≡ b
same-of a b e = grind (arith, e)

module _ {L S : Type 0} where
  pub items-of : (meaning : L → Meaning) (strand_of entered_of : S → ℕ) (tag : RunTag L)
      (runners : List (Runner L S)) → 1 ≤ tag.layout.now.windows * tag.layout.now.window
      → AreRunners meaning strand_of entered_of tag none runners
      → AreItems (λ r. r.number) is_finished (IsGood meaning strand_of entered_of) tag false
      runners
  items-of meaning strand_of entered_of tag runners some all i d below =
      let at : IsRunnerAt meaning strand_of entered_of tag i 0 (slice_index_or runners i d) =
      all.runner i d (subst (λ (n : ℕ). i < n) all.each below) in (
        at.good.running.number_is ∙ at.number_is,
        at.good,
        unfinished (is_section tag.layout.now (slice_index_or runners i d).strand.frontier.number)
            tag.layout.now.windows (slice_index_or runners i d).regions
            (slice_index_or runners i d).computed
            (some-windows tag.layout.now.windows tag.layout.now.window some)
            (at.good.running.computed_is ∙ at.computed_is) at.good.running.regions_are,
      )

  runner-of : (meaning : L → Meaning) (strand_of entered_of : S → ℕ) (tag : RunTag L) (x : ℕ)
      (r : Runner L S)
      → IsItem (λ r. r.number) is_finished (IsGood meaning strand_of entered_of) tag x true r
      → IsRunnerAt meaning strand_of entered_of tag x (region_count tag.layout.now x) r
  runner-of meaning strand_of entered_of tag x r item =
      let running = item.1.running in
      let number : r.strand.frontier.number ≡ x = sym running.number_is ∙ item.0 in
      record {
        number_is = number;
        computed_is = sym running.computed_is ∙ same-of r.computed r.regions item.2
            ∙ running.regions_are
            ∙ ap (λ (k : ℕ). region_count tag.layout.now k) number;
        good = item.1;
      }

  pub runners-of : (meaning : L → Meaning) (strand_of entered_of : S → ℕ) (tag : RunTag L)
      (runners : List (Runner L S)) → length runners ≡ length tag.layout.now.shapes
      → AreItems (λ r. r.number) is_finished (IsGood meaning strand_of entered_of) tag true
      runners
      → AreRunners meaning strand_of entered_of tag (region_count tag.layout.now) runners
  runners-of meaning strand_of entered_of tag runners count items = record {
    each = count;
    runner = λ x d below.
        runner-of meaning strand_of entered_of tag x (slice_index_or runners x d)
        (items x d (subst (λ (n : ℕ). x < n) (sym count) below));
  }

  -- where there is no strand, nothing is left to compute
  pub none-there : (meaning : L → Meaning) (strand_of entered_of : S → ℕ) (tag : RunTag L)
      (runners : List (Runner L S)) → length runners ≡ 0
      → AreRunners meaning strand_of entered_of tag none runners
      → AreRunners meaning strand_of entered_of tag (region_count tag.layout.now) runners
  none-there meaning strand_of entered_of tag runners empty all = record {
    each = all.each;
    runner = λ x d below. absurd (omega (arith, empty, all.each, below));
  }

  -- what the board gives back when it is closed
  pub closed : {E : Type 0} (meaning : L → Meaning) (strand_of entered_of : S → ℕ)
      (tag kept : RunTag L) (slots : ℕ) (given : Result (Vec (Runner L S)) E) → kept ≡ tag
      → slots ≡ length tag.layout.now.shapes → IfOk given (λ v. length v.items ≡ slots)
      → IfOk given (λ v. AreItems (λ r. r.number) is_finished
      (IsGood meaning strand_of entered_of) kept true v.items)
      → IfOk given (λ v. AreRunners meaning strand_of entered_of tag
      (region_count tag.layout.now) v.items)
  closed meaning strand_of entered_of tag kept slots (Ok v) same each count items =
      runners-of meaning strand_of entered_of tag v.items (count ∙ each)
      (subst (λ t. AreItems (λ r. r.number) is_finished (IsGood meaning strand_of entered_of) t
      true v.items) same items)
  closed meaning strand_of entered_of tag kept slots (Err e) same each count items = tt
