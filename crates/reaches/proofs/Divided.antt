-- What holds of a pipe that can be divided.
use Rattle.std.proofs.Common.{◌≡◌, ℕ, ◌≤◌, ◌==◌, ◌&&◌, not, true, ℤ, pos, ◌≤ℤ◌, int_le, refl, arith}
use Rattle.std.proofs.lemmas.Bool.{and_parts}
use Rattle.std.proofs.lemmas.Bool.Decides.{nat_tests}
use Rattle.case_model.specs.declared.cases.Pipe.{Pipe}
use Rattle.case_model.specs.Formulas.{cut, reach_count}
use Rattle.case_model.specs.Division.{is_count, is_adjusted, are_accepted, has_coefficients, is_divided}
use Rattle.fixed_num.proofs.Orders.{at_most_of}

-- an impedance and a friction that are accepted
pub record AreKept (b r : ℤ) : Type 0 where
  pub b_low : pos 100_000 ≤ℤ b
  pub b_high : b ≤ℤ pos 10_000_000_000_000
  pub b_cut : cut (pos 10_000_000_000_000) b ≡ b
  pub r_cut : cut (pos 100_000_000_000_000_000_000) r ≡ r

kept : (most x : ℤ) → int_le x most ≡ true → cut most x ≡ x
kept most x h = rw h refl

pub are_kept : (b r : ℤ) → are_accepted b r ≡ true → AreKept b r
unfolding are_accepted
are_kept b r k =
    let b1 = int_le (pos 100_000) b in
    let b2 = int_le b (pos 10_000_000_000_000) in
    let r1 = int_le (pos 0) r in
    let r2 = int_le r (pos 100_000_000_000_000_000_000) in
    let k3 : (b1 && b2 && r1) ≡ true = (and_parts (b1 && b2 && r1) r2 k).0 in
    let k2 : (b1 && b2) ≡ true = (and_parts (b1 && b2) r1 k3).0 in
    record {
      b_low = at_most_of (pos 100_000) b ((and_parts b1 b2 k2).0);
      b_high = at_most_of b (pos 10_000_000_000_000) ((and_parts b1 b2 k2).1);
      b_cut = kept (pos 10_000_000_000_000) b ((and_parts b1 b2 k2).1);
      r_cut = kept (pos 100_000_000_000_000_000_000) r ((and_parts (b1 && b2 && r1) r2 k).1);
    }

-- a count of reaches that is accepted
pub record IsCount (n : ℕ) : Type 0 where
  pub some : 2 ≤ n
  pub few : n ≤ 65_536

pub counted : (dt tolerance : ℤ) (p : Pipe) → is_divided dt tolerance p ≡ true → IsCount (reach_count dt p)
counted dt tolerance p h =
    let n = reach_count dt p in
    let apart = not (p.first == p.last) in
    let t3 : (apart && is_count n && is_adjusted dt tolerance n p) ≡ true = (and_parts (apart && is_count n && is_adjusted dt tolerance n p) (has_coefficients dt n p) h).0 in
    let t2 : (apart && is_count n) ≡ true = (and_parts (apart && is_count n) (is_adjusted dt tolerance n p) t3).0 in
    let c : is_count n ≡ true = (and_parts apart (is_count n) t2).1 in
    record { some = grind (arith, nat_tests); few = grind (arith, nat_tests) }
