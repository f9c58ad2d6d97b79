-- That all points of a list are in range is a proposition.
use Rattle.std.specs.Prelude.{List}
use Rattle.std.specs.List.{All}
use Rattle.std.proofs.Props.{props}
use Rattle.case_model.specs.declared.points.Point.{Point}
use Rattle.case_model.specs.declared.points.Point.TheVariants.{Good, Bad}
use Rattle.case_model.specs.Range.{IsPoint}

IsPoint-prop : (p : Point) → IsProp (IsPoint p)
IsPoint-prop (Good h qu qd v) = Prim.hlevel props
IsPoint-prop Bad = Prim.hlevel props

pub points-prop : (xs : List Point) → IsProp (All IsPoint xs)
points-prop xs = Prim.hlevel (props, IsPoint-prop)
