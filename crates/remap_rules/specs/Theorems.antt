-- What the theorems of remapping (document 02, paper 6) speak of.
use Rattle.std.specs.Prelude.{◌≡◌}
use Rattle.tariff.specs.declared.contracts.Contract.{Contract}

-- what stays of a contract: all but its ends
pub record RemapKept (c d : Contract) : Type 0 where
  pub kind : d.kind ≡ c.kind
  pub period : d.period ≡ c.period
  pub holder : d.holder ≡ c.holder
  pub quantity : d.quantity ≡ c.quantity
