-- What the inner functions say: the cut of a contract of either period.
use Rattle.std.specs.Prelude.{cond, List, ℕ, ℤ}
use Rattle.tariff.specs.declared.contracts.Contract.{Contract}
use Rattle.tariff.specs.declared.contracts.Period.{Period}
use Rattle.tariff.specs.ContractRules.{same_period}
use Rattle.cut_needs.specs.Inner.{cut_in}
use Rattle.cut_needs.specs.declared.ExcessTable.{ExcessTable}

-- the least cut of contract c where it is of the period; 0 for none
unfoldable pub period_cut : ℕ → List ℤ → List ℤ → Period → Contract → ℕ
period_cut k table excesses period c = cond (same_period c.period period) (cut_in k table excesses c) 0

-- the same by a table of excesses
abbrev pub own_cut_by : ExcessTable → Contract → ℕ
own_cut_by t = period_cut t.test.grid.factors.constraints t.test.grid.factors.cells.now t.cells.now t.test.period
