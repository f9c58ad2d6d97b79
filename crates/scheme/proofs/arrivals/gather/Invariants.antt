use Rattle.std.specs.List.{AllWithin}
use Rattle.charline.specs.Characteristics.{IsArrival}
use Rattle.scheme.proofs.Gathered.{ArrivedTo}
use Rattle.scheme.proofs.arrivals.gather.Given as goal

abbrev pub invariant-loop-i : goal.invariant-loop-i
invariant-loop-i l = record {
  arrived : ArrivedTo l.case.friction l.mesh l.ends l.near l.arrivals l.i;
  good : AllWithin IsArrival l.arrivals 0 l.i;
}
