use Rattle.std.specs.Prelude.{◌≡◌, ℕ, ◌-◌, ◌≤◌, ◌++◌, List, length, drop, take, replicate}
use Rattle.std.proofs.Common.{arith, length-append}
use Rattle.std.proofs.lemmas.List.{take-append-drop, length-take-le, drop-replicate}
use Rattle.std.proofs.lemmas.List.{length-replicate}
use Rattle.std.proofs.Math.Seq.{drop-append_seam}

-- 32 bytes of which those from `len` on are 0
pub record IsPadded (bytes : List ℕ) (len : ℕ) : Type 0 where
  pub whole : length bytes ≡ 32
  pub few : len ≤ 32
  pub rest : drop len bytes ≡ replicate (32 - len) 0

-- a list of at most 32 bytes, with zeros after it
abbrev pub padded : List ℕ → List ℕ
padded xs = xs ++ replicate (32 - length xs) 0

pub length_back : (bytes : List ℕ) (len : ℕ) → IsPadded bytes len → length (take len bytes) ≡ len
length_back bytes len h = length-take-le len bytes (omega (arith, h.whole, h.few))

pub padded_back : (bytes : List ℕ) (len : ℕ) → IsPadded bytes len → padded (take len bytes) ≡ bytes
padded_back bytes len h =
    rw (length_back bytes len h, ← h.rest) (take-append-drop len bytes)

-- zeros behind at most 32 bytes
pub padded_new : (bytes : List ℕ) → length bytes ≤ 32
    → IsPadded (bytes ++ drop (length bytes) (replicate 32 0)) (length bytes)
padded_new bytes h =
    let z : drop (length bytes) (replicate 32 0) ≡ replicate (32 - length bytes) 0 =
    drop-replicate {X = ℕ} (length bytes) 32 0 in
    record {
      whole =
          rw z (omega (
            arith,
            length-append bytes (replicate (32 - length bytes) 0),
            length-replicate {A = ℕ} (32 - length bytes) 0,
          ));
      few = h;
      rest = rw (drop-append_seam bytes (drop (length bytes) (replicate 32 0))) z;
    }
