use Rattle.std.proofs.Common.{arith, ℕ, ◌+◌, ◌<◌, ◌≡◌, sym, ap, subst}
use Rattle.atomic_table.specs.Table.{Splits}
use Rattle.endhistory.specs.declared.views.Sizes.{Sizes}
use Rattle.endhistory.specs.declared.views.Role.TheVariants.{Nobody, AsReader}
use Rattle.endhistory.specs.Blocks.{word_count}
use Rattle.endhistory.specs.Rule.{Bounded, start_reading}
use Rattle.endhistory.specs.Tells.{in_role, dealt_of}
use Rattle.endhistory.proofs.SeatsKept.{adds_reader}
use Rattle.endhistory.proofs.dealing.add_reader.Goals as goal

pub split_seat-requires : goal.split_seat-requires
split_seat-requires c =
    let top = c.args.top.now in
    let id = c.args.seat.now.id in
    let v = c.args.seat.now.me.0 in
    let words : top.table_id.words ≡ word_count top.key = c.requires.at.0.words in
    let room : c.args.number < v.sizes.readers = subst (λ (z : Sizes). c.args.number < z.readers) (sym c.requires.at.0.sizes) c.requires.inside in (
      c.requires.at.0.table,
      omega arith,
      subst (λ (n : ℕ). Splits (Bounded top.key) id v (in_role v (Nobody (n + 1))) (in_role v (AsReader n start_reading))) (sym (ap dealt_of c.requires.at.1)) (adds_reader top.key id v c.args.number c.requires.at.1 room),
    )
