use Rattle.std.proofs.Common.{List, Option, length, subst, sym}
use Rattle.std.specs.Global.{Vec}
use Rattle.endhistory.specs.declared.history.History.{History}
use Rattle.endhistory.specs.declared.history.Reader.{Reader}
use Rattle.histories.specs.Dealing.{AreTaken, AreWaiting}
use Rattle.histories.specs.declared.ends.Ends.{Ends}
use Rattle.histories.proofs.Dealt.{all-waiting, opened}
use Rattle.histories.proofs.opening.open_histories.Goals as goal

pub take_all-requires-clause-waiting : goal.take_all-requires-clause-waiting
take_all-requires-clause-waiting g c κs within =
    let law = g.L.Law.meaning c.args.law.now in
    let layout = c.args.layout.now in
    let made = c.in_ok-histories.field-0 in
    subst (λ (t : List History × List (Vec (Option Reader))). AreWaiting law layout t.0 0 0 t.1)
    (λ i. (sym c.deref.ensures.value i, sym c.deref_mut.ensures.value i))
    (all-waiting law layout c.args.slots made.histories.items made.writers.items made.dealt.items
    c.in_ok-histories.ensures)

pub returns : goal.returns
returns g c =
    let law = g.L.Law.meaning c.args.law.now in
    let layout = c.args.layout.now in
    let made = c.in_ok-histories.field-0 in
    let ends : Ends = record {
      histories = made.histories;
      writers = made.writers;
      readers = c.in_ok-readers.readers;
    } in
    opened law layout c.args.slots ends made.dealt.items c.in_ok-histories.ensures
    (subst (λ (xs : List History). AreTaken law layout xs (length layout.shapes)
    c.in_ok-readers.readers.items) c.deref.ensures.value c.in_ok-readers.ensures)
