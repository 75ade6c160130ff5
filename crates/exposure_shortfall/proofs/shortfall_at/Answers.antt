-- `shortfall_at`: what is settled at the prices, less the rent.
use mathlib.Core.Path.{◌≡◌, ap, ◌∙◌}
use Prim.Native.Nat.{◌^◌, ◌≤◌, ◌<◌}
use native.Mathlib.Omega.{arith}
use lib.IntN.{ℤ, nat_abs}
use mir.Syntax.{w64}
use mir.Val.{to_z, of_z}
use Rattle.integers.proofs.Machine.{back}
use Rattle.layouts.specs.BookFile.{contract_count_in, book_in}
use Rattle.book_rules.proofs.Accepted.{book-accepted}
use Rattle.exposure_figures.proofs.Figures.{cents}
use Rattle.exposure_shortfall.proofs.Meaning.{costs}
use Rattle.exposure_shortfall.proofs.shortfall_at.Goals as goal

pub settle-totals-requires : goal.settle-totals-requires
settle-totals-requires c =
    let few : contract_count_in c.args.tested.book.now ≤ 1000 = (book-accepted c.args.tested.grid.factors.nodes c.args.tested.book.now c.args.tested.accepted).few in
    record { book_value = c.args.tested.accepted; book_in_bounds = (few, few) }

pub sub-requires : goal.sub-requires
sub-requires c =
    let few : contract_count_in c.args.tested.book.now ≤ 1000 = (book-accepted c.args.tested.grid.factors.nodes c.args.tested.book.now c.args.tested.accepted).few in
    let whole = c.settle-totals.result.whole in
    let sized : nat_abs whole < 2 ^ 60 = omega (arith, c.settle-totals.ensures.bounded.whole-sized, few) in
    let same : to_z w64 (of_z w64 whole) ≡ whole = back whole (omega (arith, sized)) in
    (record { parts-small = c.settle-totals.ensures.bounded.parts-small; whole-sized = rw same sized }, c.rent-owed.ensures.1)

pub returns : goal.returns
returns c =
    let a = c.args in
    let few : contract_count_in c.args.tested.book.now ≤ 1000 = (book-accepted c.args.tested.grid.factors.nodes c.args.tested.book.now c.args.tested.accepted).few in
    let whole = c.settle-totals.result.whole in
    let sized : nat_abs whole < 2 ^ 60 = omega (arith, c.settle-totals.ensures.bounded.whole-sized, few) in
    let same : to_z w64 (of_z w64 whole) ≡ whole = back whole (omega (arith, sized)) in
    let g = a.tested.grid in
    let e = c.settle-totals.ensures in
    let owed = c.rent-owed in
    let paid = ap (λ (z : ℤ). cents z c.settle-totals.result.parts) same ∙ e.exact in
    costs g.factors.nodes g.factors.constraints g.limits.now g.factors.cells.now a.tested.process a.tested.period a.prices.now
    (book_in a.tested.book.now) _ owed.result
    (record { is = paid; parts-small = e.bounded.parts-small; whole-sized = rw same (omega (arith, sized)) })
    owed.ensures.0 c.exact.ensures c.sub.ensures
