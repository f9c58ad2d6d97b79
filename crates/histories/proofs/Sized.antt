-- The sizes of histories.
use Rattle.std.proofs.Common.{◌≡◌, ℕ, ◌*◌, ◌<◌, ◌≤◌, ◌∙◌, ap, sym, subst, arith, length}
use Rattle.std.proofs.lemmas.Nat.{mul-le}
use Rattle.case_model.specs.declared.meshes.Mesh.{Mesh}
use Rattle.endhistory.specs.Blocks.{AreWide, Blocks, IsSizes, sizes_of}
use Rattle.regions.specs.Cuts.{IsLimited}
use Rattle.regions.specs.Sides.{shape_at, sides_in, sides_of}
use Rattle.regions.specs.Touching.{IsStanding}
use Rattle.regions.specs.declared.shapes.Layout.{Layout}
use Rattle.regions.specs.declared.shapes.Shape.{Shape}
use Rattle.regions.specs.declared.shapes.Shape.TheVariants.{OfNode, OfSeam, OfSection}
use Rattle.regionrun.specs.Lawful.{IsLawful}
use Rattle.histories.specs.Blocks.{block_width, sizes_at}

-- a strand has 1 to 16 sides
sides-in : (mesh : Mesh) (w x : ℕ) (shape : Shape) → IsLimited mesh → IsStanding mesh w x shape
    → (0 < sides_in mesh shape) × (sides_in mesh shape ≤ 16)
sides-in mesh w x (OfNode node) limited stands =
    (limited.some_ends node stands.1, limited.few_ends node stands.1)
sides-in mesh w x (OfSeam pipe place left right) limited stands = (omega arith, omega arith)
sides-in mesh w x (OfSection pipe place count left right) limited stands = (omega arith, omega arith)

pub sides-few : (layout : Layout) (mesh : Mesh) (x : ℕ) → IsLawful layout mesh
    → x < length layout.shapes → (0 < sides_of layout mesh x) × (sides_of layout mesh x ≤ 16)
unfolding sides_of
sides-few layout mesh x lawful there =
    sides-in mesh layout.window x (shape_at layout x) lawful.limited
    (lawful.touching.stands x there)

product : (w s : ℕ) → 0 < w → w ≤ 256 → 0 < s → s ≤ 16 → (0 < 4 * w * s) × (4 * w * s ≤ 65536)
product w s some_w few_w some_s few_s =
    let low = mul-le 1 1 (4 * w) s (omega arith) (omega arith) in
    let high = mul-le (4 * w) s 1024 16 (omega arith) (omega arith) in
    (omega arith, omega arith)

pub sized : (layout : Layout) (mesh : Mesh) (slots x : ℕ) → IsLawful layout mesh
    → x < length layout.shapes → 1 ≤ slots → slots ≤ 8 → IsSizes (sizes_at layout mesh slots x)
sized layout mesh slots x lawful there some few =
    let sides = sides-few layout mesh x lawful there in
    let words = product layout.window (sides_of layout mesh x) lawful.whole.some lawful.whole.few
    sides.0 sides.1 in
    record {
      some_slots = omega arith;
      few_slots = few;
      some_width = words.0;
      few_words = words.1;
      some_readers = sides.0;
      few_readers = sides.1;
    }

-- the sizes that are handed to `make` are those of the strand's history
module _ (layout : Layout) (mesh own : Mesh) (slots x width sides : ℕ) (same : mesh ≡ own)
    (sides_are : sides ≡ sides_of layout mesh x) (width_is : width ≡ 4 * layout.window * sides)
  where
    pub sides-is : sides ≡ sides_of layout own x
    sides-is = sides_are ∙ ap (λ (m : Mesh). sides_of layout m x) same

    pub width-is : width ≡ block_width layout own x
    width-is = width_is ∙ ap (λ (k : ℕ). 4 * layout.window * k) sides-is

    pub sizes-is : sizes_of slots width sides ≡ sizes_at layout own slots x
    sizes-is =
        ap (λ (k : ℕ). sizes_of slots k sides) width-is
        ∙ ap (λ (k : ℕ). sizes_of slots (block_width layout own x) k) sides-is

    pub sized-so : IsSizes (sizes_at layout mesh slots x) → IsSizes (sizes_of slots width sides)
    sized-so is =
        let back : sizes_at layout mesh slots x ≡ sizes_of slots width sides =
        ap (λ (m : Mesh). sizes_at layout m slots x) same ∙ sym sizes-is in
        subst IsSizes back is

    pub wide-so : (blocks : Blocks) → AreWide (block_width layout own x) blocks
        → AreWide width blocks
    wide-so blocks wide = subst (λ (k : ℕ). AreWide k blocks) (sym width-is) wide
