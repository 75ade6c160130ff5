-- The invariant of `exposure_sets::add_book`.
use Prim.Native.Nat.{ℕ, ◌*◌, ◌^◌}
use mathlib.Core.List.{List}
use lib.ListN.{length}
use lib.IntN.{ℤ}
use Rattle.tariff.specs.declared.contracts.Period.{Period}
use Rattle.tariff.specs.Inner.{max_released}
use Rattle.layouts.specs.BookFile.{contract_at}
use Rattle.exposure_sets.specs.Inner.{fixed_in, option_in}
use Rattle.exposure_sets.proofs.Laws.{Upto}
use Rattle.exposure_sets.proofs.add_book.Given as goal

abbrev pub options : ℕ → List ℤ → List ℕ → ℕ → Period → List ℕ → ℕ → ℕ → ℤ
options k fs over count t book i m = option_in k fs over count t (contract_at book i) m

abbrev pub fixed : ℕ → List ℤ → List ℕ → Period → List ℕ → ℕ → ℕ → ℤ
fixed k fs over t book i s = fixed_in k fs over t (contract_at book i) s

abbrev pub invariant-loop-i : goal.invariant-loop-i
invariant-loop-i l = Upto max_released (length l.listing.over.now) (fixed l.listing.tested.grid.factors.constraints l.listing.tested.grid.factors.cells.now l.listing.over.now l.listing.tested.period l.listing.tested.book.now) l.initial.row l.row l.i
    × Upto (max_released * 10) (2 ^ length l.listing.over.now) (options l.listing.tested.grid.factors.constraints l.listing.tested.grid.factors.cells.now l.listing.over.now (length l.listing.over.now) l.listing.tested.period l.listing.tested.book.now) l.initial.costs l.costs l.i
