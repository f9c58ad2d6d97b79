-- Runs of places of a pipe: the vapour head of its higher end, the law of a place by what a run knows,
-- and how friction is taken.
use Rattle.std.proofs.Common.{List, [], ◌∷◌, ◌++◌, length, subst, get_or, set, refl, not, IsTrue, inl, inr, length-append, ℕ, ◌+◌, ◌<◌, ◌≤◌, ◌≡◌, ap, sym, ◌∙◌, arith, ℤ, pos, ◌+ℤ◌, ◌-ℤ◌, ◌*ℤ◌, ◌≤ℤ◌, unsigned_abs, w64, of_z, to_z}
use Rattle.std.specs.Int.{int_max, w128}
use Rattle.std.proofs.lemmas.Int.{ints, to_z-of_z}
use Rattle.fixed_num.specs.Rounding.{rnd}
use Rattle.fixed_num.proofs.Between.{IsPart, part}
use Rattle.case_model.specs.declared.cases.Case.{Case}
use Rattle.case_model.specs.declared.cases.Friction.{Friction}
use Rattle.case_model.specs.declared.cases.Friction.TheVariants.{Explicit, Linear}
use Rattle.case_model.specs.declared.meshes.Mesh.{Mesh}
use Rattle.case_model.specs.declared.points.Point.{Point}
use Rattle.case_model.specs.declared.spots.Spot.{Spot}
use Rattle.case_model.specs.Runs.{IsCalmRun, calm_at, calm_point}
use Rattle.case_model.specs.Division.{vapour_head}
use Rattle.case_model.specs.Formulas.{elevation_between}
use Rattle.case_model.specs.Mesh.{reaches}
use Rattle.case_model.proofs.Running.{calm_spot, one_more}
use Rattle.charline.specs.Characteristics.{IsImpedance, IsResistance}
use Rattle.charline.proofs.Sizes.{fits_wide}
use Rattle.charline.specs.Interior.{inner_point}
use Rattle.charline.specs.Runs.{IsPlus, IsMinus, IsCalmSpot}
use Rattle.scheme.specs.Arrivals.{impedance}
use Rattle.scheme.specs.Values.{rule_at}
use Rattle.scheme.specs.Laws.{inner_law, meaning_of}
use Rattle.scheme.specs.Runs.{IsOfPipe, is_explicit, IsPreparedFor, ArePrepared}
use Rattle.scheme.specs.declared.prepared.PreparedPipe.{PreparedPipe}
use Rattle.scheme.specs.declared.prepared.PreparedPipe.TheVariants.{Explicit as InWords, Linear as Linearly, Wide}
use Rattle.charline.specs.declared.runs.Prepared.{Prepared}
use Rattle.std.proofs.Math.Seq.{get_or-append_seam}
use Rattle.std.proofs.lemmas.List.{get_or_append_left, get_or-set_other, get_or-set_same, length-set}
use Rattle.std.proofs.lemmas.Bool.{cases_eq, cases_lt}
use Rattle.charline.proofs.Calm.{double}

below_higher : (first last x : ℤ) → IsPart (last -ℤ first) x → (first +ℤ x) ≤ℤ int_max first last
below_higher first last x h = grind (arith, ints, h.up, h.down)

-- no place before the last is higher than the higher end
pub elevation_below : (first last v : ℤ) (i n : ℕ) → i < n → (elevation_between first last i n +ℤ v) ≤ℤ (int_max first last +ℤ v)
unfolding elevation_between
elevation_below first last v i n h =
    let b = below_higher first last (rnd ((last -ℤ first) *ℤ pos i) (pos n)) (part (last -ℤ first) i n h) in omega (arith, ints)

-- the place that a run tells is that of its law
pub calm_is : (case : Case) (mesh : Mesh) (p i b r : ℕ) (top plus minus : ℤ) (left right : Point) (own next : Spot) → case.friction ≡ Explicit → IsOfPipe case mesh p b r top → i < reaches mesh p
    → IsPlus b r left plus → IsMinus b r right minus
    → IsCalmSpot b r top plus minus next → calm_point next ≡ inner_law case mesh p i left (calm_point own) right
unfolding inner_law
calm_is case mesh p i b r top plus minus left right own next e of_pipe h ip im f =
    let law = rule_at case (vapour_head case mesh p i) in
    f law left right own (of_pipe.highest i h) ip im
    ∙ ap (λ (x : Friction). inner_point x law (pos b) (pos r) left (calm_point own) right) (sym e)
    ∙ ap (λ (x : ℤ). inner_point case.friction law x (pos r) left (calm_point own) right) of_pipe.impeded
    ∙ ap (λ (x : ℤ). inner_point case.friction law (impedance mesh p) x left (calm_point own) right) of_pipe.resisted

-- a run with one place more, between two characteristics
pub run_more : (case : Case) (mesh : Mesh) (p first k b r : ℕ) (top plus minus : ℤ) (before old new : List Spot) (x : Spot) → case.friction ≡ Explicit → IsOfPipe case mesh p b r top → first + k < reaches mesh p
    → k < length new → k + 2 < length before
    → IsPlus b r (calm_at before k) plus → IsMinus b r (calm_at before (k + 2)) minus → IsCalmSpot b r top plus minus x
    → IsCalmRun (meaning_of case mesh) p first before k old new → IsCalmRun (meaning_of case mesh) p first before (k + 1) old (set new k x)
unfolding meaning_of
run_more case mesh p first k b r top plus minus before old new x e of_pipe h inside there ip im f run =
    let law : Point → Point → Point → Point = inner_law case mesh p (first + k) in
    let own : Spot = get_or before (k + 1) x in
    one_more (meaning_of case mesh) p first before k old new x inside
    (calm_is case mesh p (first + k) b r top plus minus (calm_at before k) (calm_at before (k + 2)) own x e of_pipe h ip im f
    ∙ ap (λ (q : Point). law (calm_at before k) q (calm_at before (k + 2))) (sym (calm_spot before (k + 1) x (omega arith)))) run

-- a value of C+ as it stands in a word, of a place of the list
pub kept : (b r : ℕ) (spots : List Spot) (k : ℕ) (d x : Spot) (c : ℤ) → k < length spots → x ≡ get_or spots k d → IsPlus b r (calm_point x) c → IsPlus b r (calm_at spots k) (to_z w64 (of_z w64 c))
kept b r spots k d x c h e p =
    let at : calm_point x ≡ calm_at spots k = ap calm_point e ∙ sym (calm_spot spots k d h) in
    subst (λ (q : Point). IsPlus b r q (to_z w64 (of_z w64 c))) at (rw (to_z-of_z w64 c (double c p.size)) p)

pub stored : (b r : ℕ) (from : Point) (c : ℤ) → IsPlus b r from c → IsPlus b r from (to_z w64 (of_z w64 c))
stored b r from c p = rw (to_z-of_z w64 c (double c p.size)) p

pub stored_minus : (b r : ℕ) (from : Point) (c : ℤ) → IsMinus b r from c → IsMinus b r from (to_z w64 (of_z w64 c))
stored_minus b r from c p = rw (to_z-of_z w64 c (double c p.size)) p

-- a value of C- of a place of the list
pub minus_at : (b r : ℕ) (spots : List Spot) (k : ℕ) (d x : Spot) (c : ℤ) → k < length spots → x ≡ get_or spots k d → IsMinus b r (calm_point x) c → IsMinus b r (calm_at spots k) c
minus_at b r spots k d x c h e p =
    let at : calm_point x ≡ calm_at spots k = ap calm_point e ∙ sym (calm_spot spots k d h) in
    subst (λ (q : Point). IsMinus b r q c) at p

pub kept_minus : (b r : ℕ) (spots : List Spot) (k : ℕ) (d x : Spot) (c : ℤ) → k < length spots → x ≡ get_or spots k d → IsMinus b r (calm_point x) c → IsMinus b r (calm_at spots k) (to_z w64 (of_z w64 c))
kept_minus b r spots k d x c h e p = stored_minus b r (calm_at spots k) c (minus_at b r spots k d x c h e p)

-- what a pipe has, as it stands in words
pub impeded_as : (n : ℕ) (b x : ℤ) → IsImpedance b → n ≡ unsigned_abs (to_z w64 (of_z w64 b)) → b ≡ x → pos n ≡ x
impeded_as n b x h e f =
    let low = h.low in
    let high = h.high in
    let g : n ≡ unsigned_abs b = rw (to_z-of_z w64 b (double b (omega (arith, ints)))) at e in
    let s : pos n ≡ b = omega (arith, ints) in s ∙ f

pub resisted_as : (n : ℕ) (r x : ℤ) → IsResistance r → n ≡ unsigned_abs (to_z w128 (of_z w128 r)) → r ≡ x → pos n ≡ x
resisted_as n r x h e f =
    let low = h.low in
    let high = h.high in
    let g : n ≡ unsigned_abs r = rw (to_z-of_z w128 r (fits_wide r (omega (arith, ints)))) at e in
    let s : pos n ≡ r = omega (arith, ints) in s ∙ f

pub below_as : (top x v : ℤ) → unsigned_abs x ≤ 100000000000 → top ≡ to_z w64 (of_z w64 x) → v ≤ℤ x → v ≤ℤ top
below_as top x v h e f =
    let g : top ≡ x = rw (to_z-of_z w64 x (double x (omega arith))) at e in omega (arith, ints)

pub of_explicit : (f : Friction) → f ≡ Explicit → IsTrue (is_explicit f)
of_explicit Explicit e = refl
of_explicit Linear e = absurd cc

pub of_linear : (f : Friction) → f ≡ Linear → IsTrue (not (is_explicit f))
of_linear Explicit e = absurd cc
of_linear Linear e = refl

pub explicitly : (f : Friction) → IsTrue (is_explicit f) → f ≡ Explicit
explicitly Explicit h = refl
explicitly Linear h = absurd cc

pub linearly : (f : Friction) → IsTrue (not (is_explicit f)) → f ≡ Linear
linearly Explicit h = absurd cc
linearly Linear h = refl

-- what an entry tells, by its kind
pub in_words : (case : Case) (mesh : Mesh) (p : ℕ) (x : PreparedPipe) (y : Prepared) → x ≡ InWords y → IsPreparedFor case mesh p x → (case.friction ≡ Explicit) × IsOfPipe case mesh p y.b y.r y.top
in_words case mesh p x y e h = let g : IsPreparedFor case mesh p (InWords y) = subst (IsPreparedFor case mesh p) e h in (explicitly case.friction g.0, g.1)

pub linear_entry : (case : Case) (mesh : Mesh) (p : ℕ) (x : PreparedPipe) → x ≡ Linearly → IsPreparedFor case mesh p x → case.friction ≡ Linear
linear_entry case mesh p x e h = let g : IsPreparedFor case mesh p Linearly = subst (IsPreparedFor case mesh p) e h in linearly case.friction g

pub wide_entry : (case : Case) (mesh : Mesh) (p : ℕ) (x : PreparedPipe) → x ≡ Wide → IsPreparedFor case mesh p x → case.friction ≡ Explicit
wide_entry case mesh p x e h = let g : IsPreparedFor case mesh p Wide = subst (IsPreparedFor case mesh p) e h in explicitly case.friction g

-- a table with one entry more
pub one_prepared : (case : Case) (mesh : Mesh) (table : List PreparedPipe) (x : PreparedPipe) → ArePrepared case mesh table → IsPreparedFor case mesh (length table) x → ArePrepared case mesh (table ++ x ∷ [])
one_prepared case mesh table x h one = λ p l. elim (cases_lt p (length table)) [
  | inl below ↦ subst (IsPreparedFor case mesh p) (sym (get_or_append_left table (x ∷ []) Wide p below)) (h p below)
  | inr above ↦
      let e : length table ≡ p = omega (arith, l, above, length-append table (x ∷ [])) in
      subst (λ (q : ℕ). IsPreparedFor case mesh q (get_or (table ++ x ∷ []) q Wide)) e
      (subst (IsPreparedFor case mesh (length table)) (sym (get_or-append_seam table x [] Wide)) one)
]

-- the table so far, of the first n pipes
pub one_pushed : (case : Case) (mesh : Mesh) (n : ℕ) (table new : List PreparedPipe) (x : PreparedPipe) → length table ≡ n → ArePrepared case mesh table → IsPreparedFor case mesh n x → new ≡ table ++ x ∷ [] → (length new ≡ n + 1) × ArePrepared case mesh new
one_pushed case mesh n table new x e h one s =
    let longer : length (table ++ x ∷ []) ≡ n + 1 = omega (arith, e, length-append table (x ∷ [])) in
    subst (λ (l : List PreparedPipe). (length l ≡ n + 1) × ArePrepared case mesh l) (sym s)
    (longer, one_prepared case mesh table x h (subst (λ (k : ℕ). IsPreparedFor case mesh k x) (sym e) one))

-- what is told of a pipe doesn't speak of guesses
pub same_pipe : (case : Case) (mesh : Mesh) (p : ℕ) (x y : Prepared) → y.b ≡ x.b → y.r ≡ x.r → y.top ≡ x.top → IsPreparedFor case mesh p (InWords x) → IsPreparedFor case mesh p (InWords y)
same_pipe case mesh p x y b r top h = (
  h.0,
  record {
    impeded = ap pos b ∙ h.1.impeded;
    resisted = ap pos r ∙ h.1.resisted;
    highest = λ i l. subst (λ t. vapour_head case mesh p i ≤ℤ t) (sym top) (h.1.highest i l);
  },
)

-- a table with another entry for one pipe
pub one_set : (case : Case) (mesh : Mesh) (table : List PreparedPipe) (i : ℕ) (x : PreparedPipe) → i < length table → ArePrepared case mesh table → IsPreparedFor case mesh i x → ArePrepared case mesh (set table i x)
one_set case mesh table i x inside h one = λ p l. elim (cases_eq p i) [
  | inl same ↦
      subst (λ (q : ℕ). IsPreparedFor case mesh q (get_or (set table i x) q Wide)) (sym same)
      (subst (IsPreparedFor case mesh i) (sym (get_or-set_same table i x Wide inside)) one)
  | inr other ↦
      subst (IsPreparedFor case mesh p) (sym (get_or-set_other table i p x Wide other))
      (h p (subst (λ (m : ℕ). p < m) (length-set table i x) l))
]
