-- What a migration by a square makes of its book: the old contracts, the new ones, and both.
use Rattle.std.specs.Prelude.{List}
use Rattle.tariff.specs.declared.contracts.Contract.{Contract}
use Rattle.tariff.specs.declared.units.Transfer.{Transfer}
use Rattle.migration_book.specs.declared.migration.Migration.{Migration}
use Rattle.migration_book.specs.Inner.{contracts_to, new_to, grown_to}

abbrev pub old_of : Migration → List Contract
old_of m = contracts_to m.contracts.form m.contracts.file.now m.contracts.count

abbrev pub new_of : Migration → List (List Transfer) → List Contract
new_of m square = new_to m.contracts.form m.contracts.file.now m.period square m.loads.now m.contracts.count

abbrev pub grown_of : Migration → List (List Transfer) → List Contract
grown_of m square = grown_to m.contracts.form m.contracts.file.now m.period square m.loads.now m.contracts.count
