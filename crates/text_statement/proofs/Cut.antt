-- THE THEOREM of the statement program's reading: three files that are each cut one byte past the largest length give the whole files' statement.
use mathlib.Core.Path.{◌≡◌, ◌∙◌}
use mathlib.Core.List.{List}
use Prim.Native.Nat.{ℕ}
use native.Mathlib.Omega.{arith}
use lib.ListN.{take}
use Rattle.bits.specs.Bits.{Bytes}
use Rattle.tariff.specs.declared.contracts.Contract.{Contract}
use Rattle.tariff.specs.declared.contracts.Period.{Period}
use Rattle.tariff.specs.Units.{Grid}
use Rattle.text_files.specs.WithFiles.{with_grid, with_book, with_prices}
use Rattle.text_files.proofs.Cut.{grid_cut, book_cut, price_cut, cut-grid, cut-book, cut-prices}
use Rattle.text_statement_lines.specs.Lines.{lines}
use Rattle.text_statement.specs.WriteStatement.{statement}

pub statement-cut : (g b p : List ℕ) → Bytes g → Bytes b → Bytes p → statement (take grid_cut g) (take book_cut b) (take price_cut p) ≡ statement g b p
unfolding statement
statement-cut g b p gs bs ps =
    cut-grid g grid_cut gs (omega arith) _
    ∙ (λ i. with_grid g (λ x. cut-book b book_cut bs (omega arith) x.factors.nodes (λ book. with_prices x.factors.constraints (take price_cut p) (priced x book)) i))
    ∙ (λ i. with_grid g (λ x. with_book x.factors.nodes b (λ book. cut-prices p price_cut ps (omega arith) x.factors.constraints (priced x book) i)))
  where
    priced : Grid → List Contract → Period → List ℕ → List ℕ
    priced x book t q = lines x.factors q t book
