use Rattle.std.proofs.Common.{ℕ, ◌+◌, ◌-◌, ◌/◌, ◌%◌, ◌^◌, ◌<◌, ◌≤◌, ◌≡◌, List, [], ◌∷◌, ◌++◌, length, take, set, get_or, ap, ◌∙◌, arith, add-one, append_assoc, length-append}
use Rattle.std.proofs.Math.Nat.{pow-suc, div-div-eq-div-mul}
use Rattle.std.proofs.lemmas.List.{set_at, length-take-le, take_more}
use Rattle.std.proofs.lemmas.Fmt.{decimal_step_wide, decimal_digit, length-decimal-le_wide, decimal_by_steps_wide}
use Rattle.std.specs.Fmt.{decimal}
use Rattle.fixed_num.specs.Written.{last_digits}

-- one more digit taken off
pub div_more : (n k : ℕ) → n / 10 ^ k / 10 ≡ n / 10 ^ (k + 1)
div_more n k = rw (add-one, pow-suc) (div-div-eq-div-mul n (10 ^ k) 10)

pub length_one : (n : ℕ) → n < 10 → length (decimal n) ≡ 1
length_one n h = ap length (decimal_digit n h)

pub length_step : (n : ℕ) → 10 ≤ n → n < 10 ^ 64 → length (decimal n) ≡ length (decimal (n / 10)) + 1
length_step n low high = ap length (decimal_step_wide n low high) ∙ length-append (decimal (n / 10)) ((48 + n % 10) ∷ [])

pub length_some : (n : ℕ) → n < 10 ^ 64 → 1 ≤ length (decimal n)
length_some n h = decimal_by_steps_wide (λ m ds. 1 ≤ length ds) (λ m small. omega arith) (λ m ds big e. omega (arith, length-append ds ((48 + m % 10) ∷ []))) n h

pub length_few : (n : ℕ) → n < 10 ^ 28 → length (decimal n) ≤ 28
length_few n h = length-decimal-le_wide 28 n (omega arith) h (omega arith)

-- a digit put before those that stand
put_between : (front digits rest : List ℕ) (old digit k : ℕ) → length front ≡ k → set (front ++ old ∷ [] ++ digits ++ rest) k digit ≡ front ++ (digit ∷ digits) ++ rest
put_between front digits rest old digit k h =
    rw (append_assoc front (old ∷ []) digits, append_assoc front (old ∷ digits) rest, append_assoc front (digit ∷ digits) rest) (set_at front old (digits ++ rest) digit k h)

put_before : (old digits rest : List ℕ) (k digit : ℕ) → k < length old → set (take (k + 1) old ++ digits ++ rest) k digit ≡ take k old ++ (digit ∷ digits) ++ rest
put_before old digits rest k digit h =
    let e : take (k + 1) old ≡ take k old ++ get_or old k 0 ∷ [] = take_more old k 0 h in
    let front : length (take k old) ≡ k = length-take-le k old (omega arith) in
    rw e (put_between (take k old) digits rest (get_or old k 0) digit k front)

-- one step of the loop that writes digits from the last to the first
pub put_step : (old now rest : List ℕ) (at count i n m : ℕ) → at + count ≤ length old → i < count → m ≡ n / 10 ^ i → now ≡ take (at + (count - i)) old ++ last_digits i n ++ rest → set now (at + (count - 1 - i)) (48 + m % 10) ≡ take (at + (count - (i + 1))) old ++ last_digits (i + 1) n ++ rest
put_step old now rest at count i n m room more e h =
    let k : ℕ = at + (count - 1 - i) in
    let here : at + (count - i) ≡ k + 1 = omega arith in
    let next : at + (count - (i + 1)) ≡ k = omega arith in
    rw (h, here, next, e, add-one i) (put_before old (last_digits i n) rest k (48 + n / 10 ^ i % 10) (omega arith))
