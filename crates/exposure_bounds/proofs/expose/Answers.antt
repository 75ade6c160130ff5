-- `expose`: the excesses of the flows carried; where few are above 0, the worst set's prices, else what of them is above 0 and the better prices.
use Rattle.std.proofs.Common.{◌≡◌, refl, ap, ◌∙◌, subst, ◌^◌, arith, length, take, ℤ, pos, ◌*ℤ◌}
use Rattle.std.proofs.Math.Seq.{length-take-le}
use Rattle.lists.specs.Sets.{count_of}
use Rattle.lists.specs.Lent.{overwrite}
use Rattle.integers.specs.Sums.{max0, sum_to}
use Rattle.tariff.specs.Units.{max_price}
use Rattle.tariff.specs.Feasibility.{overloaded, overload_count}
use Rattle.grid_tables.specs.Grids.{grid_by}
use Rattle.test_rules.proofs.Flowing.{carried_judgeable}
use Rattle.test_excesses.specs.Inner.{cell_at}
use Rattle.exposure_rules.specs.Exposure.{highest_where}
use Rattle.exposure_figures.specs.Inner.{Exactly}
use Rattle.exposure_prices.specs.Inner.{above_in, set_in, Listed}
use Rattle.exposure_prices.proofs.Counting.{listed-front}
use Rattle.exposure_bounds.specs.Inner.{contracts_by, BestSet}
use Rattle.exposure_bounds.proofs.Meaning.{most-is, count-is, worst-drawn, few-exposed, many_exposed}
use Rattle.exposure_bounds.proofs.Units.{listed-over}
use Rattle.exposure_bounds.proofs.Entry.{filled}
use Rattle.exposure_bounds.proofs.expose.Goals as goal

pub of-loading-requires : goal.of-loading-requires
of-loading-requires c =
    let t = c.args.tested in
    let g = t.grid in
    carried_judgeable g.factors.nodes g.factors.constraints g.limits.now g.factors.cells.now t.period t.book.now g.good g.factors.good t.accepted _
    c.carry-carried.ensures

pub invariant_of-excesses : goal.invariant_of-excesses
invariant_of-excesses c =
    let t = c.args.tested in
    let of = c.of-loading.ensures in
    let found = filled t c.carry-carried.result c.carry-carried.ensures c.of-loading.result of.constraints_kept of.limits_kept of.flows_kept _ _ c.fill_excess.ensures in
    record { sized = found.sized }

-- where few are overloaded

pub worst_set-best-requires-clause-few : goal.worst_set-best-requires-clause-few
worst_set-best-requires-clause-few c =
    let t = c.args.tested in
    let g = grid_by t.grid in
    let k = t.grid.factors.constraints in
    let cs = contracts_by t in
    let of = c.of-loading.ensures in
    let found = filled t c.carry-carried.result c.carry-carried.ensures c.of-loading.result of.constraints_kept of.limits_kept of.flows_kept _ _ c.fill_excess.ensures in
    let e = c.fill_over-count.ensures in
    let cells = take k c.fill_excess.new.out in
    let count = c.fill_over-count.result in
    let counted : count ≡ count_of k (above_in cells) = rw found.long at e.0 in
    let counts : count ≡ overload_count g t.process cs = counted ∙ count-is g t.process cs cells found.are in
    let long : length (take count c.fill_over-count.new.over) ≡ count = length-take-le count _ (omega (arith, c.if-count-le-MOST_LISTED.true, e.2)) in
    (rw long c.if-count-le-MOST_LISTED.true, long ∙ counts)

pub worst_set-best-requires-clause-listed : goal.worst_set-best-requires-clause-listed
unfolding overload_count
worst_set-best-requires-clause-listed c =
    let t = c.args.tested in
    let g = grid_by t.grid in
    let k = t.grid.factors.constraints in
    let cs = contracts_by t in
    let of = c.of-loading.ensures in
    let found = filled t c.carry-carried.result c.carry-carried.ensures c.of-loading.result of.constraints_kept of.limits_kept of.flows_kept _ _ c.fill_excess.ensures in
    let e = c.fill_over-count.ensures in
    let cells = take k c.fill_excess.new.out in
    let count = c.fill_over-count.result in
    let counted : count ≡ count_of k (above_in cells) = rw found.long at e.0 in
    let counts : count ≡ overload_count g t.process cs = counted ∙ count-is g t.process cs cells found.are in
    let listed : Listed k (above_in cells) c.fill_over-count.new.over = rw found.long at e.1 in
    listed-front (overloaded g t.process cs) k count _ counts (listed-over g t.process cs cells found.are _ listed)

pub returns-then-count-le-MOST_LISTED : goal.returns-then-count-le-MOST_LISTED
returns-then-count-le-MOST_LISTED c =
    let t = c.args.tested in
    let g = grid_by t.grid in
    let k = t.grid.factors.constraints in
    let cs = contracts_by t in
    let of = c.of-loading.ensures in
    let found = filled t c.carry-carried.result c.carry-carried.ensures c.of-loading.result of.constraints_kept of.limits_kept of.flows_kept _ _ c.fill_excess.ensures in
    let e = c.fill_over-count.ensures in
    let cells = take k c.fill_excess.new.out in
    let count = c.fill_over-count.result in
    let counted : count ≡ count_of k (above_in cells) = rw found.long at e.0 in
    let counts : count ≡ overload_count g t.process cs = counted ∙ count-is g t.process cs cells found.are in
    let few = c.if-count-le-MOST_LISTED.true in
    let best = c.worst_set-best in
    let long : length (take count c.fill_over-count.new.over) ≡ count = length-take-le count _ (omega (arith, few, e.2)) in
    let own : BestSet g t.process cs (2 ^ count) best.result = rw long at best.ensures in
    let fills : c.fill_set.new.prices ≡ overwrite (highest_where k (set_in cells best.result.set)) c.args.prices.now = rw found.long at c.fill_set.ensures in
    few-exposed g t.process cs _ _ _ count counts few
    (worst-drawn t.grid.factors.nodes k t.grid.limits.now t.grid.factors.cells.now t.process cs cells found.are best.result.set _ _ fills count counted
    best.result refl own) refl

-- where many are

pub better_prices-least-requires-clause-are_excesses : goal.better_prices-least-requires-clause-are_excesses
better_prices-least-requires-clause-are_excesses c =
    let t = c.args.tested in
    let of = c.of-loading.ensures in
    let found = filled t c.carry-carried.result c.carry-carried.ensures c.of-loading.result of.constraints_kept of.limits_kept of.flows_kept _ _ c.fill_excess.ensures in
    (found.long, found.are)

pub returns-else-count-le-MOST_LISTED : goal.returns-else-count-le-MOST_LISTED
returns-else-count-le-MOST_LISTED c =
    let t = c.args.tested in
    let g = grid_by t.grid in
    let k = t.grid.factors.constraints in
    let cs = contracts_by t in
    let of = c.of-loading.ensures in
    let found = filled t c.carry-carried.result c.carry-carried.ensures c.of-loading.result of.constraints_kept of.limits_kept of.flows_kept _ _ c.fill_excess.ensures in
    let e = c.fill_over-count.ensures in
    let cells = take k c.fill_excess.new.out in
    let count = c.fill_over-count.result in
    let counted : count ≡ count_of k (above_in cells) = rw found.long at e.0 in
    let counts : count ≡ overload_count g t.process cs = counted ∙ count-is g t.process cs cells found.are in
    let above : pos c.total_above.result ≡ sum_to k (λ j. max0 (cell_at cells j)) = rw found.long at c.total_above.ensures.0 in
    let all = ap (λ (z : ℤ). z *ℤ pos max_price) above ∙ most-is g t.process cs cells found.are in
    many_exposed g t.process cs _ _ _ count counts (omega (arith, c.if-count-le-MOST_LISTED.false)) c.better_prices-least.ensures
    (subst (λ (z : ℤ). Exactly z c.at_highest-most.result) all c.at_highest-most.ensures)
