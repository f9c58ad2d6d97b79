use Rattle.std.specs.Prelude.{◌≡◌, ℕ, List, length, take, refl}
use Rattle.case_model.specs.Padding.{IsPadded, padded, length_back, padded_back}
use Rattle.case_model.specs.declared.names.Name.TheInside.{Inside}

-- the fields of a name come back from its bytes
abbrev pub fields_of : List ℕ → Inside
fields_of xs = record { bytes = padded xs; len = length xs }

pub fields_back : (n : Inside) → IsPadded n.bytes n.len → fields_of (take n.len n.bytes) ≡ n
fields_back n h =
    let b = padded_back n.bytes n.len h in let l = length_back n.bytes n.len h in rw (b, l) refl
