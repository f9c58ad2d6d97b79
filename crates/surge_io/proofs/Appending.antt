-- One more write of the bytes behind those that are written.
use Rattle.std.proofs.Common.{◌≡◌, ℕ, ◌+◌, ◌-◌, List, length, take, drop, Option, sym, subst, arith, length-drop}
use Rattle.std.proofs.Math.Seq.{take-add}
use Rattle.std.proofs.lemmas.List.{take_all}
use Rattle.surge_io.specs.Bytes.{Appends}
use Rattle.surge_io.proofs.ByteLaws.{Appends-append}

-- the bytes behind the first `done`, as the code borrows them
pub take-rest : (done : ℕ) (bytes : List ℕ) → take (length bytes - done) (drop done bytes) ≡ drop done bytes
take-rest done bytes = take_all _ _ (omega (arith, length-drop done bytes))

-- the first `done` bytes, and then the first `n` of those behind them, are the first `done + n`
pub Appends-more : (before mid now : Option (List ℕ)) (done n : ℕ) (bytes : List ℕ) → Appends before mid (take done bytes) → Appends mid now (take n (take (length bytes - done) (drop done bytes))) → Appends before now (take (done + n) bytes)
Appends-more before mid now done n bytes first next =
    let then : Appends mid now (take n (drop done bytes)) = rw (take-rest done bytes) at next in
    subst (λ written. Appends before now written) (sym (take-add done n bytes)) (Appends-append before mid now _ _ first then)
