-- A book's table, row by row, in a place that held `entry`; and a row's bits from its cells.
use mathlib.Core.Path.{◌≡◌, refl, sym, ap, ◌∙◌}
use mathlib.Core.List.{List, ◌++◌, flat_map}
use Prim.Native.Nat.{ℕ, ◌+◌, ◌*◌, ◌^◌, ◌<◌}
use native.Mathlib.Omega.{arith}
use lib.ListN.{length, get_or, take, drop}
use Rattle.lists.specs.Lists.{list_to}
use Rattle.lists.specs.Lent.{overwrite}
use Rattle.lists.proofs.Lists.{length-list_to}
use Rattle.tariff.specs.declared.contracts.Contract.{Contract}
use Rattle.layouts.specs.declared.forms.Form.{Form}
use Rattle.layouts.specs.Forms.{end_width}
use Rattle.layouts.specs.BookTable.{contract_cells, cells_of, row_from}
use Rattle.layouts.proofs.BookTable.{length-cells, cells-more}
use Rattle.layouts.proofs.ContractBits.{kind-bit, period-bit}
use Rattle.lists.proofs.Blocks.{block-stored}
use Rattle.book_rules.specs.Inner.{contract_bytes, contract_number_of, bits_bytes}
use Rattle.book_rules.proofs.Bytes.{contract-number}
use Rattle.book_rules.specs.Inner.{RowFits}

length-row : (c : Contract) → length (cells_of c) ≡ contract_cells
unfolding cells_of
length-row c = refl

pub rows_more : (f : ℕ → Contract) (i : ℕ) (entry out next : List ℕ) → out ≡ overwrite (flat_map cells_of (list_to i f)) entry
    → next ≡ take (contract_cells * i) out ++ cells_of (f i) ++ drop (contract_cells * i + contract_cells) out → next ≡ overwrite (flat_map cells_of (list_to (i + 1) f)) entry
rows_more f i entry out next is stored =
    let cs = list_to i f in
    let at = contract_cells * i in
    block-stored (flat_map cells_of cs) (cells_of (f i)) entry out next at (at + contract_cells) (omega (arith, length-cells cs, length-list_to i f)) (omega (arith, length-row (f i))) is stored
    ∙ ap (λ (l : List ℕ). overwrite l entry) (sym (cells-more i f))

module _ (f : Form) (cells : List ℕ) (a : ℕ) (row : RowFits f cells a) where
  pub holder-small : get_or cells (a + 2) 0 < 2 ^ 10
  unfolding row_from
  holder-small = row.fits.holder-fits

  pub source-small : get_or cells (a + 3) 0 < 2 ^ end_width f
  unfolding row_from
  source-small = row.fits.source_fits

  pub sink-small : get_or cells (a + 4) 0 < 2 ^ end_width f
  unfolding row_from
  sink-small = row.fits.sink-fits

  pub quantity-small : get_or cells (a + 5) 0 < 2 ^ 20
  unfolding row_from
  quantity-small = row.fits.quantity-fits

  pub row-bytes : (v : ℕ)
      → v ≡ contract_number_of f ((get_or cells a 0 * 2 + get_or cells (a + 1) 0) * 1024 + get_or cells (a + 2) 0) (get_or cells (a + 3) 0) (get_or cells (a + 4) 0) (get_or cells (a + 5) 0)
      → contract_bytes f (row_from cells a) ≡ bits_bytes f v
  unfolding row_from
  row-bytes v e =
      let kind = kind-bit (get_or cells a 0) (omega (arith, row.kind-is_bit)) in
      let period = period-bit (get_or cells (a + 1) 0) (omega (arith, row.period-is_bit)) in
      contract-number f (row_from cells a) _ _ v (sym (λ i. (kind i * 2 + period i) * 1024 + get_or cells (a + 2) 0)) refl e
