-- Sums over what arrives at a node. After Wylie and Streeter, Fluid Transients in Systems:
-- junctions of pipes, where each characteristic counts by the inverse of its impedance.
use Rattle.std.specs.Prelude.{ℕ, ℤ, pos, ◌+ℤ◌, ◌*ℤ◌, List, [], ◌∷◌}
use Rattle.fixed_num.specs.Rounding.{rnd}
use Rattle.case_model.specs.declared.meshes.Arrival.{Arrival}
use Rattle.case_model.specs.Refusals.{most_ends}
use Rattle.charline.specs.Characteristics.{flow_in}

-- the most arrivals at a node: its ends in version 2 of the case text
abbrev pub most_arrivals : ℕ
most_arrivals = most_ends 2

-- the weight of an arrival: the inverse of its impedance, in 1e-16 m2/s
unfoldable pub admittance : ℤ → ℤ
admittance b = rnd (pos 10_000_000_000_000_000_000_000) b

abbrev pub weight : Arrival → ℤ
weight a = admittance a.b

abbrev pub weighted_head : Arrival → ℤ
weighted_head a = a.c *ℤ weight a

-- the sum of a number of each arrival
abbrev pub sum_of : (Arrival → ℤ) → List Arrival → ℤ
sum_of f [] = pos 0
sum_of f (a ∷ arrivals) = f a +ℤ sum_of f arrivals

-- the flow into the node along all its arrivals, at a head of the node
abbrev pub inflow : ℤ → List Arrival → ℤ
inflow h arrivals = sum_of (flow_in h) arrivals
