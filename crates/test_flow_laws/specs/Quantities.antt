-- A contract at another quantity.
use Rattle.std.specs.Prelude.{ℕ}
use Rattle.tariff.specs.declared.contracts.Contract.{Contract}

-- contract c with quantity q, all else as it is
abbrev pub with_quantity : ℕ → Contract → Contract
with_quantity q c = record { kind = c.kind; period = c.period; holder = c.holder; source = c.source; sink = c.sink; quantity = record { 0 = q } }
