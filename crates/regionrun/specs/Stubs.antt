-- The stubs that strands hold of a gate.
use Rattle.std.specs.Prelude.{◌≡◌, ℕ, Option, Some, None}

-- there is a stub, it names this strand, and it has so many entries
abbrev pub HasStub : {S : Type 0} → (S → ℕ) → (S → ℕ) → ℕ → ℕ → Option S → Type 0
HasStub strand_of entered_of x n (Some stub) = (strand_of stub ≡ x) × (entered_of stub ≡ n)
HasStub strand_of entered_of x n None = ⊥
