-- What is paid at one cent at the places of a list, and on its sets.
use Rattle.std.specs.Prelude.{ℕ, length, get_or, ℤ}
use Rattle.tariff.specs.declared.contracts.Contract.{Contract}
use Rattle.exposure_sets.specs.declared.listing.Listing.{Listing}
use Rattle.exposure_sets.specs.Inner.{raw_in, due_in, fixed_in, option_in, book_fixed, book_options}

module _ (l : Listing) where
  abbrev pub count_by : ℕ
  count_by = length l.over.now

  abbrev pub raw_by : Contract → ℕ → ℤ
  raw_by c s = raw_in l.tested.grid.factors.constraints l.tested.grid.factors.cells.now c (get_or l.over.now s 0)

  abbrev pub due_by : ℕ → ℤ
  due_by s = due_in l.tested.grid.limits.now l.tested.process (get_or l.over.now s 0)

  abbrev pub fixed_by : Contract → ℕ → ℤ
  fixed_by = fixed_in l.tested.grid.factors.constraints l.tested.grid.factors.cells.now l.over.now l.tested.period

  abbrev pub option_by : Contract → ℕ → ℤ
  option_by = option_in l.tested.grid.factors.constraints l.tested.grid.factors.cells.now l.over.now (length l.over.now) l.tested.period

  abbrev pub book_fixed_by : ℕ → ℤ
  book_fixed_by = book_fixed l.tested.grid.factors.constraints l.tested.grid.factors.cells.now l.over.now l.tested.period l.tested.book.now

  abbrev pub book_options_by : ℕ → ℤ
  book_options_by = book_options l.tested.grid.factors.constraints l.tested.grid.factors.cells.now l.over.now (length l.over.now) l.tested.period l.tested.book.now
