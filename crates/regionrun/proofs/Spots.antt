-- Places of stretches as numbers and as spots.
use Rattle.std.proofs.Common.{◌≡◌, ℕ, ◌+◌, ◌-◌, ◌<◌, ◌≤◌, true, length, ap, ◌∙◌, arith}
use Rattle.std.specs.Prelude.{nat_le, nat_lt}
use Rattle.std.proofs.lemmas.Bool.{and_parts, leb-true, ltb-true}
use Rattle.case_model.specs.declared.cases.ProbeAt.TheVariants.{OnPipe, OnNode}
use Rattle.case_model.specs.declared.meshes.Mesh.{Mesh}
use Rattle.case_model.specs.Mesh.{base_of, reaches}
use Rattle.case_model.specs.PlaceNumbers.{place_at}
use Rattle.fronts.specs.Stretches.{count_of}
use Rattle.fronts.specs.declared.stretches.Stretch.{Stretch}
use Rattle.regions.specs.declared.shapes.Layout.{Layout}
use Rattle.strands.specs.Marks.{is_between}
use Rattle.regionrun.specs.Lawful.{IsLawful}

-- ---- what lies between two fronts

-- place number k is that of place y of the stretch, and the step lies between the fronts
pub record IsBetween (stretch : Stretch) (front later : ℕ → ℕ) (s k : ℕ) : Type 0 where
  pub place : ℕ
  pub number : k ≡ stretch.number + place
  pub there : place < count_of stretch
  pub after : front place < s
  pub before : s ≤ later place

pub between-parts : (stretch : Stretch) (front later : ℕ → ℕ) (s k : ℕ)
    → is_between stretch front later s k ≡ true → IsBetween stretch front later s k
between-parts stretch front later s k h =
    let y : ℕ = k - stretch.number in
    let a = and_parts (nat_le stretch.number k) _ h in
    let b = and_parts (nat_lt k (stretch.number + count_of stretch)) _ a.1 in
    let c = and_parts (nat_lt (front y) s) _ b.1 in
    let low : stretch.number ≤ k = leb-true stretch.number k a.0 in
    let high : k < stretch.number + count_of stretch =
    ltb-true k (stretch.number + count_of stretch) b.0 in
    record {
      place = y;
      number = omega arith;
      there = omega arith;
      after = ltb-true (front y) s c.0;
      before = leb-true s (later y) c.1;
    }

-- ---- the place of a number

pub place-is : (layout : Layout) (mesh : Mesh) (p i k : ℕ) → IsLawful layout mesh
    → p < length mesh.pipes → i ≤ reaches mesh p → k ≡ base_of mesh p + i
    → place_at mesh k ≡ OnPipe p i
place-is layout mesh p i k lawful h b e =
    ap (place_at mesh) e ∙ lawful.told.place (OnPipe p i) (h, b)

pub place-below : (layout : Layout) (mesh : Mesh) (p i k : ℕ) → IsLawful layout mesh
    → p < length mesh.pipes → i ≤ reaches mesh p → k ≡ base_of mesh p + i → k < mesh.places
place-below layout mesh p i k lawful h b e = let l = lawful.told.below (OnPipe p i) (h, b) in
    omega arith

pub node-is : (layout : Layout) (mesh : Mesh) (k : ℕ) → IsLawful layout mesh → k < length mesh.ends
    → place_at mesh k ≡ OnNode k
node-is layout mesh k lawful h = lawful.told.place (OnNode k) h

pub node-below : (layout : Layout) (mesh : Mesh) (k : ℕ) → IsLawful layout mesh
    → k < length mesh.ends → k < mesh.places
node-below layout mesh k lawful h = lawful.told.below (OnNode k) h
