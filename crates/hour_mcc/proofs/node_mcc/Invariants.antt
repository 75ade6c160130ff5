-- The invariant of `hour_mcc::node_mcc`.
use Rattle.std.proofs.Common.{◌≡◌, ◌*◌, ◌≤◌, take, nat_abs}
use Rattle.tariff.specs.Units.{max_factor, max_price}
use Rattle.grid_tables.specs.Hours.{factors_by, prices_by}
use Rattle.tariff.specs.Settlement.{congestion}
use Rattle.hour_mcc.proofs.node_mcc.Given as goal

abbrev pub invariant-loop-k : goal.invariant-loop-k
invariant-loop-k l = (l.sum.0 ≡ congestion (factors_by l.hour) (prices_by l.hour) l.node l.k) × (nat_abs l.sum.0 ≤ max_factor * max_price * l.k)
