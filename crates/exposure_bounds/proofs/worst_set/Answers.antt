-- `worst_set`: the largest of the sets' costs at one cent.
use Rattle.std.proofs.Common.{◌≡◌, arith, length, ℤ, pos}
use Rattle.std.proofs.Math.ListN.{get_or-replicate}
use Rattle.lists.specs.Sets.{count_of}
use Rattle.tariff.specs.Feasibility.{overloaded, overload_count}
use Rattle.grid_tables.specs.Grids.{grid_by}
use Rattle.exposure_bounds.specs.Inner.{contracts_by}
use Rattle.exposure_bounds.proofs.Units.{front_figures, front-best}
use Rattle.exposure_bounds.proofs.worst_set.Goals as goal

pub invariant_of-listing : goal.invariant_of-listing
unfolding overload_count
invariant_of-listing c =
    let t = c.args.tested in
    let few = c.requires.few in
    let counts : length c.args.over.now ≡ count_of t.grid.factors.constraints (overloaded (grid_by t.grid) t.process (contracts_by t)) = few.1 in record {
      chosen = record { few = few.0; narrow = t.grid.factors.good.few; long = omega arith; each = λ i h. c.requires.listed.below i (rw (← counts) h) };
    }

pub set_costs-requires : goal.set_costs-requires
set_costs-requires c m h = get_or-replicate {A = ℤ} 1024 m (pos 0) (pos 0) h

pub best_of-requires : goal.best_of-requires
best_of-requires c =
    let t = c.args.tested in
    let over = c.args.over.now in
    let n = c.set_count in
    front_figures (grid_by t.grid) t.process (contracts_by t) over c.requires.listed (length over) c.requires.few.1 c.set_costs.new.costs c.set_costs.ensures
    n.result n.ensures.0 n.ensures.2

pub returns : goal.returns
returns c =
    let t = c.args.tested in
    let over = c.args.over.now in
    let n = c.set_count in
    front-best (grid_by t.grid) t.process (contracts_by t) over c.requires.listed (length over) c.requires.few.1 c.set_costs.new.costs c.set_costs.ensures
    n.result n.ensures.0 n.ensures.2 c.best_of.result c.best_of.ensures.0 c.best_of.ensures.1
