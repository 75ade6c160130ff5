-- What the theorem of finding the flows speaks of.
use Rattle.std.specs.Prelude.{ℕ, ℤ, pos}
use Rattle.tariff.specs.Feasibility.{released}
use Rattle.test_rules.specs.TestBook.{TestCall, test_call, tested_grid, tested_process}
use Rattle.test_loading.specs.FindFlows.{FlowsCall}

-- the test of the same tables and book in a process
abbrev pub test_as : ℕ → FlowsCall → TestCall
test_as process q = test_call q.nodes q.constraints process q.period q.limits q.factors q.book

-- the released limit of constraint k in the test's process, in flow units
abbrev pub released_at : TestCall → ℕ → ℤ
released_at test k = pos (released (tested_grid test).limits (tested_process test) k)
