use Rattle.std.proofs.Common.{◌≡◌, ◌∙◌, ◌-◌, ◌+◌, ◌*◌, ◌≤◌, ap, length, map, take, drop, subst, sym, arith}
use Rattle.case_model.specs.Runs.{calm_point}
use Rattle.envelope.specs.Notings.{line_noted, union}
use Rattle.fronts.specs.Noted.{run_noted}
use Rattle.fronts.specs.Stretches.{count_of, is_even}
use Rattle.fronts.proofs.Lining.{agrees-line, part-length, run-line, same-union, spots-kept, start-low}
use Rattle.fronts.proofs.stretches.Stretch.note_spots.Goals as goal

pub returns-clause-stands : goal.returns-clause-stands
unfolding count_of
returns-clause-stands c = λ told h a.
    let o = c.args.self.now in
    let low = c.args.low in
    let high = c.args.high in
    let xs = c.deref.result.now in
    let start = c.start-before.result in
    let from = start + low in
    let n = start + high - (start + low) in
    let inside : high ≤ o.count = c.requires.inside in
    let begin : start ≤ o.count = subst (λ z. z ≤ o.count) (sym c.start-before.ensures) (start-low o.count (is_even c.args.step)) in
    let long : length xs ≡ 2 * o.count = ap length c.deref.ensures.value ∙ o.spots_each in
    let order = c.requires.order in
    let part = map calm_point (take n (drop from xs)) in
    let line = line_noted c.args.step (o.number + low) part in
    let run = run_noted o c.args.step low high in
    let same = run-line o part c.args.step low high order (part-length xs from n (omega arith) ∙ omega arith)
    (λ j b. spots-kept o xs c.args.step low high from n j c.requires.calm c.deref.ensures.value (ap (λ z. z + low) c.start-before.ensures) (omega arith) inside b) in
    c.stands_for_equal_maps.ensures c.note_calm.new.self (union told line) (union told run) (λ s k l w. same-union told line run same s k)
    (c.note_calm.ensures.stands told h (agrees-line told run line same a))
