-- The invariant of `hour_contracts::settle_contracts`.
use mathlib.Core.Path.{◌≡◌}
use Prim.Native.Nat.{ℕ}
use lib.ListN.{take, drop}
use lib.IntN.{ℤ}
use Rattle.lists.specs.Lists.{list_to}
use mathlib.Core.List.{List}
use Rattle.integers.specs.Sums.{sum_to}
use Rattle.tariff.specs.Settlement.{cents as cents_of}
use Rattle.layouts.specs.BookFile.{contract_in}
use Rattle.book_bits.specs.declared.contracts.Contracts.{Contracts}
use Rattle.grid_tables.specs.Hours.{factors_by, prices_by}
use Rattle.hour_rules.specs.SettleHour.{priced_of}
use Rattle.hour_rules.specs.declared.PricedHour.{PricedHour}
use Rattle.hour_rules.specs.Inner.{hour_amount, exact_of, Bounded}
use Rattle.hour_contracts.proofs.settle_contracts.Given as goal

abbrev pub amountAt : PricedHour → Contracts → ℕ → ℤ
amountAt hour cs i = hour_amount (factors_by hour.tables) (prices_by hour.tables) hour.period (contract_in cs.form cs.file.now i)

abbrev pub centsAt : PricedHour → Contracts → ℕ → ℤ
centsAt hour cs i = cents_of (amountAt hour cs i)

abbrev pub set_at : PricedHour → Contracts → ℕ → ℕ
set_at hour cs i = priced_of (factors_by hour.tables) (prices_by hour.tables) hour.period (contract_in cs.form cs.file.now i)

abbrev pub invariant-loop-i : goal.invariant-loop-i
invariant-loop-i l = (take l.i l.cents ≡ take l.i (list_to l.contracts.count (centsAt l.hour l.contracts))) × (drop l.i l.cents ≡ drop l.i l.initial.cents)
    × (take l.i l.sets ≡ take l.i (list_to l.contracts.count (set_at l.hour l.contracts))) × (drop l.i l.sets ≡ drop l.i l.initial.sets)
    × (l.totals.sum ≡ sum_to l.i (centsAt l.hour l.contracts)) × (exact_of l.totals ≡ sum_to l.i (amountAt l.hour l.contracts)) × Bounded l.i l.totals
