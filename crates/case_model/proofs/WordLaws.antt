use Rattle.std.specs.Prelude.{◌≡◌, ◌≢◌, ◌↔◌, ℕ, ℤ, pos, ◌-ℤ◌, ◌≤ℤ◌, ◌≤◌, List, [], ◌∷◌, unsigned_abs, Option, Some, None, IfSome, refl}
use Rattle.std.proofs.Common.{◌∙◌, ap, subst, sym, arith}
use Rattle.std.proofs.lemmas.Int.{ints}
use Rattle.case_model.specs.declared.points.Point.{Point}
use Rattle.case_model.specs.declared.points.Point.TheVariants.{Good, Bad}
use Rattle.case_model.specs.Range.{InRange, IsPoint, point_of}
use Rattle.case_model.specs.RangeLaws.{point_of-good, point_of-in_range, point_of-is}
use Rattle.case_model.specs.Words.{shifted, words_of, point_with, TellsPoint}

-- ---- one number and its word

unshifted : (n : ℤ) → unsigned_abs n ≤ 1_000_000_000_000 → pos (shifted n) -ℤ pos 10_000_000_000_000 ≡ n
unshifted n h = omega (arith, ints)

reshifted : (w : ℕ) (n : ℤ) → pos w -ℤ pos 10_000_000_000_000 ≡ n → shifted n ≡ w
reshifted w n e = omega (arith, ints)

unsigned : (n : ℤ) → pos 0 ≤ℤ n → pos (unsigned_abs n) ≡ n
unsigned n h = omega (arith, ints)

-- ---- the Good point of four words

pub point_with-words : (a b c d : ℕ) (h qu qd v : ℤ) → point_with a b c d ≡ Good h qu qd v → words_of (Good h qu qd v) ≡ a ∷ b ∷ c ∷ d ∷ []
unfolding point_with
point_with-words a b c d h qu qd v e =
    let s = point_of-is _ _ _ _ h qu qd v e in
    let h' : shifted h ≡ a = reshifted a h s.0 in
    let u' : shifted qu ≡ b = reshifted b qu s.1 in
    let d' : shifted qd ≡ c = reshifted c qd s.2 in
    let v' : unsigned_abs v ≡ d = ap unsigned_abs (sym s.3) in
    cc

point_with-range : (a b c d : ℕ) (h qu qd v : ℤ) → point_with a b c d ≡ Good h qu qd v → InRange h qu qd v
unfolding point_with
point_with-range a b c d h qu qd v e = subst IsPoint e (point_of-in_range _ _ _ _)

pub same_numbers : (a b c d h qu qd v : ℤ) → a ≡ h → b ≡ qu → c ≡ qd → d ≡ v → point_of a b c d ≡ point_of h qu qd v
same_numbers a b c d h qu qd v e f g i = cc

not_zero : (h : ℤ) → unsigned_abs h ≤ 100_000_000_000 → shifted h ≡ 0 → ⊥
not_zero h r e = omega (arith, ints)

with_words : (a b c d : ℕ) (h qu qd v : ℤ) → InRange h qu qd v → words_of (Good h qu qd v) ≡ a ∷ b ∷ c ∷ d ∷ [] → point_with a b c d ≡ Good h qu qd v
unfolding point_with
with_words a b c d h qu qd v r e =
    let h' : shifted h ≡ a = cc in
    let u' : shifted qu ≡ b = cc in
    let d' : shifted qd ≡ c = cc in
    let v' : unsigned_abs v ≡ d = cc in
    let hz : pos a -ℤ pos 10_000_000_000_000 ≡ h = ap (λ n. pos n -ℤ pos 10_000_000_000_000) (sym h') ∙ unshifted h (omega (arith, r.head)) in
    let uz : pos b -ℤ pos 10_000_000_000_000 ≡ qu = ap (λ n. pos n -ℤ pos 10_000_000_000_000) (sym u') ∙ unshifted qu r.up in
    let dz : pos c -ℤ pos 10_000_000_000_000 ≡ qd = ap (λ n. pos n -ℤ pos 10_000_000_000_000) (sym d') ∙ unshifted qd r.down in
    let vz : pos d ≡ v = ap pos (sym v') ∙ unsigned v r.low in
    same_numbers _ _ _ _ h qu qd v hz uz dz vz ∙ point_of-good h qu qd v r

not_zeros : (h qu qd v : ℤ) → InRange h qu qd v → words_of (Good h qu qd v) ≡ 0 ∷ 0 ∷ 0 ∷ 0 ∷ [] → ⊥
not_zeros h qu qd v r e = let z : shifted h ≡ 0 = cc in not_zero h r.head z

no_point : (a b c d : ℕ) → (◌≡◌ {A = List ℕ} (a ∷ b ∷ c ∷ d ∷ []) (0 ∷ 0 ∷ 0 ∷ 0 ∷ []) → ⊥) → point_with a b c d ≡ Bad → (p : Point) → IsPoint p → words_of p ≢ a ∷ b ∷ c ∷ d ∷ []
no_point a b c d some e (Good h qu qd v) r w = let g : point_with a b c d ≡ Good h qu qd v = with_words a b c d h qu qd v r w in cc
no_point a b c d some e Bad r w = some (sym w)

-- ---- what four words tell

pub tells-bad : TellsPoint (0 ∷ 0 ∷ 0 ∷ 0 ∷ []) (Some Bad)
tells-bad = (tt, refl)

pub tells-good : (a b c d : ℕ) (p : Point) → p ≡ point_with a b c d → (p ≡ Bad → ⊥) → TellsPoint (a ∷ b ∷ c ∷ d ∷ []) (Some p)
tells-good a b c d (Good h qu qd v) e good = (point_with-range a b c d h qu qd v (sym e), point_with-words a b c d h qu qd v (sym e))
tells-good a b c d Bad e good = absurd (good refl)

pub tells-none : (a b c d : ℕ) → (◌≡◌ {A = List ℕ} (a ∷ b ∷ c ∷ d ∷ []) (0 ∷ 0 ∷ 0 ∷ 0 ∷ []) → ⊥) → point_with a b c d ≡ Bad → TellsPoint (a ∷ b ∷ c ∷ d ∷ []) None
tells-none a b c d some e = no_point a b c d some e

-- ---- a point and its words tell each other

pub words_of-same : (p q : Point) → IsPoint p → IsPoint q → words_of p ≡ words_of q → p ≡ q
words_of-same (Good h qu qd v) (Good x y z w) r s e =
    sym (with_words _ _ _ _ h qu qd v r refl) ∙ with_words _ _ _ _ x y z w s (sym e)
words_of-same (Good h qu qd v) Bad r s e = absurd (not_zeros h qu qd v r e)
words_of-same Bad (Good x y z w) r s e = absurd (not_zeros x y z w s (sym e))
words_of-same Bad Bad r s e = refl

pub told-range : (words : List ℕ) (r : Option Point) → TellsPoint words r → IfSome r IsPoint
told-range words None t = tt
told-range words (Some p) t = t.0

pub told-some : (words : List ℕ) (r : Option Point) → TellsPoint words r → (p : Point) → IsPoint p → (r ≡ Some p) ↔ (words_of p ≡ words)
told-some words None t p good = (λ e. cc, λ e. absurd (t p good e))
told-some words (Some q) t p good =
    (λ e. let s : q ≡ p = cc in ap words_of (sym s) ∙ t.1, λ e. ap Some (words_of-same q p t.0 good (t.1 ∙ sym e)))

pub told-none : (words : List ℕ) (r : Option Point) → TellsPoint words r → (r ≡ None) ↔ ((p : Point) → IsPoint p → words_of p ≢ words)
told-none words None t = (λ e. t, λ n. refl)
told-none words (Some q) t = (λ e. cc, λ n. absurd (n q t.0 t.1))

pub zeros : (a b c d : ℕ) → ◌≡◌ {A = List ℕ} (a ∷ b ∷ c ∷ d ∷ []) (0 ∷ 0 ∷ 0 ∷ 0 ∷ []) → (a ≡ 0) × (b ≡ 0) × (c ≡ 0) × (d ≡ 0)
zeros a b c d e = (cc, cc, cc, cc)
