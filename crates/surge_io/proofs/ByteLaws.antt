-- How writes one behind the other add up.
use Rattle.std.proofs.Common.{◌≡◌, ℕ, ◌+◌, List, ◌++◌, length, take, Option, None, Some, sym, ◌∙◌, ap, subst, append_assoc, arith, length-append}
use Rattle.std.proofs.Math.Seq.{take-append-add, take-length}
use Rattle.std.proofs.lemmas.List.{append-nil, take-append-le}
use Rattle.surge_io.specs.Bytes.{Appends, AppendsFront}

-- two writes append the one's bytes and then the other's
pub Appends-append : (before mid now : Option (List ℕ)) (xs ys : List ℕ) → Appends before mid xs → Appends mid now ys → Appends before now (xs ++ ys)
Appends-append None mid now xs ys first next = tt
Appends-append (Some held) mid now xs ys first next =
    let from_mid : Appends (Some (held ++ xs)) now ys = rw first at next in
    from_mid ∙ ap Some (append_assoc held xs ys)

-- nothing was written
pub AppendsFront-none : (before now : Option (List ℕ)) (xs : List ℕ) → now ≡ before → AppendsFront before now xs
AppendsFront-none None now xs same = (0, omega arith, tt)
AppendsFront-none (Some held) now xs same = (0, omega arith, same ∙ ap Some (sym (append-nil held)))

-- all was written
pub AppendsFront-all : (before now : Option (List ℕ)) (xs : List ℕ) → Appends before now xs → AppendsFront before now xs
AppendsFront-all before now xs all = (length xs, omega arith, subst (λ bytes. Appends before now bytes) (sym (take-length xs)) all)

-- a first part of the first bytes was written, and none of those behind them
pub AppendsFront-left : (before now : Option (List ℕ)) (xs ys : List ℕ) → AppendsFront before now xs → AppendsFront before now (xs ++ ys)
AppendsFront-left before now xs ys front =
    (front.0, omega (arith, front.1, length-append xs ys), subst (λ bytes. Appends before now bytes) (sym (take-append-le front.0 xs ys front.1)) front.2)

-- all of the first bytes were written, and a first part of those behind them
pub AppendsFront-right : (before mid now : Option (List ℕ)) (xs ys : List ℕ) → Appends before mid xs → AppendsFront mid now ys → AppendsFront before now (xs ++ ys)
AppendsFront-right before mid now xs ys first front = (
  length xs + front.0,
  omega (arith, front.1, length-append xs ys),
  subst (λ bytes. Appends before now bytes) (sym (take-append-add xs ys front.0)) (Appends-append before mid now xs (take front.0 ys) first front.2),
)
