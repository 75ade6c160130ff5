-- `amount_of`: sink minus source, times quantity, as it counts; and what priced it.
use mathlib.Core.Path.{◌≡◌}
use Prim.Native.Nat.{◌≤◌}
use native.Mathlib.Omega.{arith}
use lib.IntN.{ℤ, nat_abs, ◌-ℤ◌}
use Rattle.integers.proofs.Sizes.{nat_abs_sub}
use Rattle.tariff.specs.declared.units.Mcc.{Mcc}
use Rattle.tariff.specs.declared.contracts.Contract.{Contract}
use Rattle.tariff.specs.ContractRules.{InRange}
use Rattle.tariff.specs.Inner.{max_mcc, max_spread}
use Rattle.grid_tables.specs.declared.table.HourTable.{HourTable}
use Rattle.hour_mcc.proofs.Products.{mcc_sized}
use Rattle.hour_rules.specs.Inner.{EndMccs}
use Rattle.hour_rules.proofs.Amounts.{product_fits, counted-fits, amount-end}
use Rattle.hour_amounts.proofs.amount_of.Goals as goal

module _ (t : HourTable) (c : Contract) (sink source : Mcc) (r : InRange t.factors.nodes c) (e : EndMccs t c sink source) where
  -- both MCCs are small
  sink-small : nat_abs sink.0 ≤ max_mcc
  sink-small = rw e.sink-is (mcc_sized t c.sink r.sink-below)

  source-small : nat_abs source.0 ≤ max_mcc
  source-small = rw e.source_is (mcc_sized t c.source r.source-below)

  -- the size does not hang on which is taken from which
  small : (m : ℤ) → m ≡ sink.0 -ℤ source.0 → nat_abs m ≤ max_spread
  small m is = rw is (omega (arith, nat_abs_sub sink.0 source.0, nat_abs_sub source.0 sink.0, sink-small, source-small))

pub sub-requires : goal.sub-requires
sub-requires c =
    let a = c.args in
    let r = c.requires in
    omega (
      arith,
      sink-small a.hour.tables a.c a.sink a.source r.0 r.1,
      source-small a.hour.tables a.c a.sink a.source r.0 r.1,
    )

pub times-requires : goal.times-requires
times-requires c =
    let a = c.args in
    let r = c.requires in
    (small a.hour.tables a.c a.sink a.source r.0 r.1 c.sub.result.0 c.sub.ensures, r.0.quantity-sized)

pub counted-amount-requires : goal.counted-amount-requires
counted-amount-requires c =
    let a = c.args in
    let r = c.requires in
    let s = small a.hour.tables a.c a.sink a.source r.0 r.1 c.sub.result.0 c.sub.ensures in
    omega (arith, product_fits a.c r.0.quantity-sized c.sub.result.0 s c.times.result.0 c.times.ensures)

pub invariant_of-result : goal.invariant_of-result
invariant_of-result c =
    let a = c.args in
    let r = c.requires in
    let s = small a.hour.tables a.c a.sink a.source r.0 r.1 c.sub.result.0 c.sub.ensures in
    record { sized = counted-fits a.c r.0.quantity-sized c.sub.result.0 s c.times.result.0 c.counted-amount.result.0 c.times.ensures c.counted-amount.ensures }

pub returns : goal.returns
returns c =
    let a = c.args in
    let r = c.requires in
    let s = small a.hour.tables a.c a.sink a.source r.0 r.1 c.sub.result.0 c.sub.ensures in
    let x = c.times in
    let v = c.counted-amount in
    record {
      amount-is =
          amount-end a.hour.tables a.c a.sink a.source r.1.sink-is r.1.source_is
          c.sub.result.0 x.result.0 v.result.0 c.sub.ensures x.ensures v.ensures;
      amount-sized = counted-fits a.c r.0.quantity-sized c.sub.result.0 s x.result.0 v.result.0 x.ensures v.ensures;
      priced-is = c.priced_set-priced.ensures;
    }
