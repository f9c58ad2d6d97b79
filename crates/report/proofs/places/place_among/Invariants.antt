use Rattle.std.proofs.Common.{◌≡◌, ◌≤◌, drop}
use Rattle.case_model.specs.PlaceNumbers.{place_among}
use Rattle.report.proofs.places.place_among.Given as goal

abbrev pub invariant-loop-p : goal.invariant-loop-p
invariant-loop-p l = record {
  place : place_among l.p (drop l.p l.pipes) l.rest ≡ place_among 0 l.pipes l.fn.number;
  less : l.rest ≤ l.fn.number;
}
