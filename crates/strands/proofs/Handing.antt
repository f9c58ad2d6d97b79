-- What a section hands on: its points beside a station.
use Rattle.std.specs.Int.{from_bool}
use Rattle.std.specs.Prelude.{◌==◌}
use Rattle.std.proofs.Common.{◌≡◌, ℕ, ◌+◌, ◌-◌, ◌/◌, ◌<◌, ◌≤◌, ◌⊎◌}
use Rattle.std.proofs.Common.{◌∙◌, ap, arith, refl, Bool, true, false}
use Rattle.case_model.specs.Meaning.{Meaning}
use Rattle.fronts.specs.Fronts.{Holds, ever, spot, tent}
use Rattle.fronts.specs.Stretches.{count_of, kept}
use Rattle.fronts.specs.declared.stretches.Stretch.{Stretch}
use Rattle.strands.specs.Blocks.{HasPoints, from_end, section_side, section_tells}
use Rattle.strands.specs.declared.handed.SectionBlock.{SectionBlock}

pub before-or-at : (i j : ℕ) → i < j + 1 → (i < j) ⊎ (i ≡ j)
before-or-at i j h = grind arith

-- a flag as a number
pub flag-is : (b : Bool) → (from_bool b == 1) ≡ b
flag-is true = refl
flag-is false = refl

-- ---- what a section has computed

-- the section has computed the points that it hands on
handed : (law : Meaning) (stretch : Stretch) (left : Bool) (n w s j : ℕ)
    → count_of stretch ≡ n + 1 → w ≤ n → j < w
    → Holds law ever (tent s n) stretch
    → kept stretch (s + (j + 1) / 2) (from_end left n (j / 2 + 1))
    ≡ spot law stretch (s + (j + 1) / 2) (from_end left n (j / 2 + 1))
handed law stretch true n w s j size a b h =
    h.cell (s + (j + 1) / 2) (j / 2 + 1) (omega arith) (omega arith) (omega arith) (omega arith)
handed law stretch false n w s j size a b h =
    h.cell (s + (j + 1) / 2) (n - (j / 2 + 1)) (omega arith) (omega arith) (omega arith)
    (omega arith)

-- the block that a section lends
pub section-lent : (law : Meaning) (block : SectionBlock) (left : Bool) → (block.left == 1) ≡ left
    → block.window + 1 ≤ count_of block.stretch.now
    → Holds law ever (tent block.start (count_of block.stretch.now - 1)) block.stretch.now
    → HasPoints block.window (section_side law block.stretch.now left block.start)
    (section_tells block)
unfolding section_side section_tells
section-lent law block left flag long h =
    let n = count_of block.stretch.now - 1 in
    let size : count_of block.stretch.now ≡ n + 1 = omega arith in
    record {
      each = λ j b.
          ap (λ (z : Bool). kept block.stretch.now (block.start + (j + 1) / 2) (from_end z n (j / 2 + 1))) flag
          ∙ handed law block.stretch.now left n block.window block.start j size (omega arith) b h;
    }

pub end-within : (left : Bool) (n d : ℕ) → d ≤ n → from_end left n d ≤ n
end-within true n d a = a
end-within false n d a = omega arith
