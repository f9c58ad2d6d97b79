use Rattle.std.proofs.Common.{sym, arith, ℕ, List, ◌≡◌, ◌+◌, ◌*◌, ◌/◌, subst}
use Rattle.std.proofs.lemmas.List.Folds.{flat_map-map}
use Rattle.std.specs.List.{range_with_len}
use Rattle.surge_io.proofs.Chains.{all_indexes, next_index, stopped_index}
use Rattle.surge_io.specs.Writings.{IsAdded}
use Rattle.envelope.specs.Kept.{sample_kept}
use Rattle.report.specs.Report.{probe_line, probe_lines}
use Rattle.report.proofs.writing.add_probe.Goals as goal

pub returns-in_err-add : goal.returns-in_err-add
unfolding probe_lines
returns-in_err-add g c =
    let case = c.args.run.now.case.now in
    let samples = sample_kept c.args.run.now.fold.now in
    let count = case.steps / case.every + 1 in
    let same = flat_map-map (probe_line case samples c.args.probe) (λ j. j * case.every) (range_with_len 0 count) in
    let e : c.as_bytes.result.now ≡ probe_line case samples c.args.probe (c.loop-j.j * case.every) = cc in
    subst (λ (text : List ℕ). IsAdded g.K.Sink.held g.K.Sink.faults c.from_residual.result c.args.out.now c.args.page.now c.add.new.out c.add.new.self text) (sym same)
    (stopped_index (λ j. probe_line case samples c.args.probe (j * case.every)) c.loop-j.j count (omega arith) e c.from_residual.ensures.0 c.loop-j.invariant c.in_err-add.ensures.added)

pub loop-j-preserved : goal.loop-j-preserved
loop-j-preserved g c =
    let e : c.as_bytes.result.now ≡ probe_line c.args.run.now.case.now (sample_kept c.args.run.now.fold.now) c.args.probe (c.loop-j.j * c.args.run.now.case.now.every) = cc in
    next_index (λ j. probe_line c.args.run.now.case.now (sample_kept c.args.run.now.fold.now) c.args.probe (j * c.args.run.now.case.now.every)) c.loop-j.j e c.loop-j.invariant c.in_ok-add.ensures.added

pub returns : goal.returns
unfolding probe_lines
returns g c =
    let case = c.args.run.now.case.now in
    let samples = sample_kept c.args.run.now.fold.now in
    let count = case.steps / case.every + 1 in
    let same = flat_map-map (probe_line case samples c.args.probe) (λ j. j * case.every) (range_with_len 0 count) in
    rw same (all_indexes (λ j. probe_line case samples c.args.probe (j * case.every)) c.loop-j.j count (omega arith) c.loop-j.invariant)
