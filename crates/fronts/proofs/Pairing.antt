-- Two points of a place that are put together.
use Rattle.std.proofs.Common.{◌≡◌, ◌∙◌, ℕ, ◌+◌, ap, subst, sym, Bool}
use Rattle.std.specs.Prelude.{not}
use Rattle.case_model.specs.declared.points.Point.{Point}
use Rattle.case_model.specs.Meaning.{Meaning}
use Rattle.fronts.specs.Fronts.{Holds, Puts, spot}
use Rattle.fronts.specs.Pairs.{ArePut}
use Rattle.fronts.specs.Stretches.{AreSamePlaces, IsPutIn, count_of, is_even, kept, kept_in}
use Rattle.fronts.specs.declared.stretches.Stretch.{Stretch}
use Rattle.fronts.proofs.Keeping.{places-then, put-of}
use Rattle.fronts.proofs.Raising.{put-on, same-spot}
use Rattle.fronts.proofs.Stepping.{next-parity}

pub next-kept : (stretch : Stretch) (step place : ℕ) → kept_in stretch (not (is_even step)) place ≡ kept stretch (step + 1) place
next-kept stretch step place = ap (λ e. kept_in stretch e place) (sym (next-parity step))

pub both-same : (even : Bool) (place : ℕ) (first second : Point) (old new : Stretch) → ArePut even place first second old new → AreSamePlaces old new
both-same even place first second old new p = places-then old p.between new p.one.same p.other.same

pub both-on : (law : Meaning) (step place : ℕ) (first second : Point) (old new : Stretch)
    (since front middle between sooner later : ℕ → ℕ) → ArePut (is_even step) place first second old new
    → Puts step place (count_of old) since front middle between → first ≡ spot law old step place
    → Puts (step + 1) place (count_of old) middle between sooner later → second ≡ spot law old (step + 1) place
    → Holds law since front old → Holds law sooner later new
both-on law step place first second old new since front middle between sooner later p a e b f h =
    let mid = p.between in
    let one = put-on law step place first old mid since front middle between (put-of step place first old mid p.one) a e h in
    let next : IsPutIn (is_even (step + 1)) place second mid new =
    subst (λ z. IsPutIn z place second mid new) (sym (next-parity step)) p.other in
    let size : count_of mid ≡ count_of old = p.one.same.count_is in
    put-on law (step + 1) place second mid new middle between sooner later (put-of (step + 1) place second mid new next)
    (subst (λ n. Puts (step + 1) place n middle between sooner later) (sym size) b)
    (f ∙ sym (same-spot law old mid (step + 1) place p.one.same)) one
