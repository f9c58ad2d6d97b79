-- Which block a region needs, by the counts that a runner keeps.
use Rattle.std.specs.Prelude.{◌≡◌, ℕ, zero, suc, ◌+◌, ◌<◌, Bool, true, false, is_some}
use Rattle.std.specs.Prelude.{Option, Some, None}
use Rattle.std.proofs.Common.{refl, arith}
use Rattle.regions.specs.Needs.{needs_of}
use Rattle.schedule.specs.Nets.{needed_of, regions_of}

pub none-of : (o : Option ℕ) → is_some o ≡ false → o ≡ None
none-of (Some b) e = cc
none-of None e = refl

pub needs-none : (kind : Bool) (m : ℕ) → needs_of kind m ≡ None
    → needed_of kind (m + 1) ≡ needed_of kind m
needs-none false m need = cc
needs-none true zero need = omega arith
needs-none true (suc m) need = cc

-- there is such a block
pub needs-below : (kind : Bool) (windows m b : ℕ) → m < regions_of kind windows
    → needs_of kind m ≡ Some b → b < windows
needs-below false windows m b below need = let e : m ≡ b = cc in omega arith
needs-below true windows zero b below need = cc
needs-below true windows (suc m) b below need = let e : m ≡ b = cc in omega arith

-- none was needed yet
pub none-needed : (kind : Bool) → needed_of kind 0 ≡ 0
none-needed false = refl
none-needed true = omega arith
