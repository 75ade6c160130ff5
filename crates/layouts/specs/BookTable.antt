-- A book as a table: six cells a contract, in the file's order of fields.
use Rattle.std.specs.Prelude.{List, [], ◌∷◌, ℕ, ◌+◌, ◌*◌, ◌^◌, ◌<◌, get_or}
use Rattle.lists.specs.Lists.{list_to}
use Rattle.tariff.specs.declared.contracts.Contract.{Contract}
use Rattle.layouts.specs.BookFile.{kind_bit_of, period_bit_of, contract}

abbrev pub contract_cells : ℕ
contract_cells = 6

unfoldable pub cells_of : Contract → List ℕ
cells_of c = kind_bit_of c.kind ∷ period_bit_of c.period ∷ c.holder ∷ c.source ∷ c.sink ∷ c.quantity.0 ∷ []

-- the contract whose cells begin at a
unfoldable pub row_from : List ℕ → ℕ → Contract
row_from cells a =
    contract (get_or cells a 0) (get_or cells (a + 1) 0) (get_or cells (a + 2) 0) (get_or cells (a + 3) 0) (get_or cells (a + 4) 0) (get_or cells (a + 5) 0)

abbrev pub row_at : List ℕ → ℕ → Contract
row_at cells i = row_from cells (contract_cells * i)

-- the first m rows of a table
abbrev pub rows_in : ℕ → List ℕ → List Contract
rows_in m cells = list_to m (row_at cells)

-- what the fields of a contract can hold, with ends of w bits
pub record ContractFits (w : ℕ) (c : Contract) : Type 0 where
  pub holder-fits : c.holder < 2 ^ 10
  pub source_fits : c.source < 2 ^ w
  pub sink-fits : c.sink < 2 ^ w
  pub quantity-fits : c.quantity.0 < 2 ^ 20
