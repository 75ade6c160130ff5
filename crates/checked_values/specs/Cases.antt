-- Document 01, "Case L" and the books of P4 to P8.
use Rattle.std.specs.Prelude.{List, [], ◌∷◌, ℕ, ℤ, pos, neg_ℤ}
use Rattle.tariff.specs.declared.contracts.Contract.{Contract}
use Rattle.tariff.specs.Units.{Factors, factors_of, Grid, grid_of}
use Rattle.layouts.specs.BookFile.{contract}

abbrev pub minus : ℕ → ℤ
minus n = neg_ℤ (pos n)

-- case L's factors: two constraints, three nodes
abbrev cells_l : List ℤ
cells_l = pos 60000 ∷ minus 20000 ∷ pos 0 ∷ pos 0 ∷ minus 10000 ∷ pos 40000 ∷ []

abbrev pub factors_l : Factors
factors_l = factors_of 3 2 cells_l

abbrev pub grid_l : Grid
grid_l = grid_of 3 2 (100000 ∷ 50000 ∷ []) cells_l

-- case L's on-peak prices
abbrev pub prices_l : List ℕ
prices_l = 1000 ∷ 2550 ∷ []

-- case L's book: kind, period, holder, source, sink, quantity
abbrev pub book_l : List Contract
book_l = contract 0 1 7 0 1 10000 ∷ contract 1 1 8 0 2 500 ∷ contract 0 1 7 0 2 1 ∷ contract 0 0 9 0 1 5 ∷ []

-- P4 to P7: L's grid with another first limit, and one on-peak obligation 0 to 1, holder 7
abbrev pub grid_p : ℕ → Grid
grid_p first = grid_of 3 2 (first ∷ 50000 ∷ []) cells_l

abbrev pub book_p : ℕ → List Contract
book_p quantity = contract 0 1 7 0 1 quantity ∷ []
