-- What is asked of a base contract and of a net transfer from its holder, where 22 and 23 do not turn them down.
use Rattle.std.specs.Prelude.{Bool, ◌&&◌, List, ℕ, ◌≤◌, ◌<◌, leb, ltb, length, ℤ, nat_abs}
use Rattle.integers.specs.Sums.{max0}
use Rattle.tariff.specs.declared.contracts.Contract.{Contract}
use Rattle.tariff.specs.Units.{max_load, max_quantity}
use Rattle.migration_rules.specs.Transfers.{load}
use Rattle.migration_transfers.specs.Inner.{max_net}

-- a holder that is one of n LSEs
abbrev pub entity_number : ℕ → ℕ → Bool
entity_number n holder = ltb 0 holder && leb holder n

-- the loser's net to a gainer
pub record NetReady (net : ℤ) (loads : List ℕ) (c : Contract) : Type 0 where
  pub size : nat_abs net ≤ max_net
  pub most : load loads c.holder ≤ max_load
  pub losses : nat_abs (max0 net) ≤ load loads c.holder

-- a base contract's holder and quantity
pub record Held (loads : List ℕ) (c : Contract) : Type 0 where
  pub numbered : 0 < c.holder
  pub listed : c.holder ≤ length loads
  pub quantity-most : c.quantity.0 ≤ max_quantity
