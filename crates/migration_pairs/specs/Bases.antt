-- The contracts that follow a base contract.
use Rattle.std.specs.Prelude.{List, length}
use Rattle.tariff.specs.declared.contracts.Contract.{Contract}
use Rattle.tariff.specs.declared.contracts.Period.{Period}
use Rattle.migration_rules.specs.ContractRules.{pairs_to, new_from}
use Rattle.migration_transfers.specs.Squares.{row_losses}
use Rattle.migration_pairs.specs.declared.base.Base.{Base}

-- for each gainer its own and the loser's
abbrev pub pairs_by : Base → List Contract
pairs_by base = pairs_to (row_losses base.row.now) base.loads.now base.contract (length base.loads.now)

-- the same, or none where the contract is no base contract
abbrev pub new_by : Base → Period → List Contract
new_by base period = new_from (row_losses base.row.now) base.loads.now period base.contract
