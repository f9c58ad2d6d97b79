-- The parts of a block, while one after another is written.
use Rattle.std.proofs.Common.{◌≡◌, ℕ, ◌+◌, ◌-◌, ◌*◌, ◌<◌, ◌≤◌, inl, inr, ◌∙◌, ap, sym, subst}
use Rattle.std.proofs.Common.{arith, List, ◌++◌, length, take, drop}
use Rattle.std.proofs.lemmas.List.{drop-append-le, length-drop, length-take-le, take-append-drop}
use Rattle.std.proofs.lemmas.List.{take-append-le}
use Rattle.std.proofs.Math.Nat.{mul-le-mul_left}
use Rattle.std.proofs.Math.Seq.{drop-append_seam, take-append_seam}
use borrow.Rule.Slice.PartMut.{post_of, put_mid}
use Rattle.strands.proofs.Handing.{before-or-at}
use Rattle.regionrun.specs.Handed.{part}

-- a part has as many items as are written over it
pub part-size : {X : Type 0} (width c : ℕ) (words : List X) → width * c + width ≤ length words
    → length (part width c words) ≡ width
part-size width c words h =
    length-take-le (width * c + width - width * c) (drop (width * c) words)
    (omega (arith, length-drop (width * c) words)) ∙ omega arith

-- the part that is written
pub part-here : {X : Type 0} (width c : ℕ) (old run : List X) → length run ≡ width → width * c ≤ length old
    → part width c (put_mid (width * c) width old run) ≡ run
part-here width c old run size inside =
    let a = width * c in
    let n : length (take a old) ≡ a = length-take-le a old inside in
    let k : a + width - a ≡ length run = omega arith in
    let rest = run ++ post_of a width old in
    ap (λ z. take (a + width - a) (drop z (take a old ++ rest))) (sym n)
    ∙ ap (take (a + width - a)) (drop-append_seam (take a old) rest)
    ∙ ap (λ z. take z rest) k
    ∙ take-append_seam run (post_of a width old)

-- a part of the first of two lists
part-low : {X : Type 0} (width i : ℕ) (xs ys : List X) → width * i + width ≤ length xs
    → part width i (xs ++ ys) ≡ part width i xs
part-low width i xs ys h =
    ap (take (width * i + width - width * i)) (drop-append-le (width * i) xs ys (omega arith))
    ∙ take-append-le (width * i + width - width * i) (drop (width * i) xs) ys
    (omega (arith, length-drop (width * i) xs))

-- those before it stay
pub part-before : {X : Type 0} (width i c : ℕ) (old run : List X) → i < c → width * c ≤ length old
    → part width i (put_mid (width * c) width old run) ≡ part width i old
part-before width i c old run below inside =
    let a = width * c in
    let n : length (take a old) ≡ a = length-take-le a old inside in
    let m : width * (i + 1) ≤ width * c = mul-le-mul_left width (omega arith) in
    let h : width * i + width ≤ length (take a old) = omega arith in
    part-low width i (take a old) (run ++ post_of a width old) h
    ∙ sym (part-low width i (take a old) (drop a old) h)
    ∙ ap (part width i) (take-append-drop a old)

-- where the parts before it are good, and what is written is, one part more is good
pub parts-more : {X : Type 0} (P : ℕ → List X → Type 0) (width c a k : ℕ) (old run : List X)
    → a ≡ width * c → k ≡ width → length run ≡ width → width * c + width ≤ length old
    → ((i : ℕ) → i < c → P i (part width i old)) → P c run → (i : ℕ) → i < c + 1
    → P i (part width i (put_mid a k old run))
parts-more P width c a k old run begins wide size fits before here i below =
    let inside : width * c ≤ length old = omega arith in
    subst (λ z. P i (part width i (put_mid z k old run))) (sym begins)
    (subst (λ z. P i (part width i (put_mid (width * c) z old run))) (sym wide)
    (elim (before-or-at i c below) [
      | inl l ↦ subst (P i) (sym (part-before width i c old run l inside)) (before i l)
      | inr e ↦
          subst (λ z. P z (part width z (put_mid (width * c) width old run))) (sym e)
          (subst (P c) (sym (part-here width c old run size inside)) here)
    ]))

-- the part for a side lies within a block
pub part-inside : (width sides side count : ℕ) → side < sides → count ≡ width * sides
    → width * side + width ≤ count
part-inside width sides side count below size =
    let m : width * (side + 1) ≤ width * sides = mul-le-mul_left width (omega arith) in
    omega arith
