-- Document 01, "When input is turned down": the checks of a book's bytes, which every operation on a book has.
use Rattle.std.specs.Prelude.{List, [], ◌∷◌, ◌++◌, ℕ, zero, suc}
use Rattle.tariff.specs.declared.contracts.Contract.{Contract}
use Rattle.tariff.specs.Refusals.{Check}
use Rattle.tariff.specs.Checks.{node_count, contract_count, node_number, quantity_range}
use Rattle.layouts.specs.Files.{short_file, spare_other, file_length}
use Rattle.layouts.specs.Forms.{spare_pattern_of}
use Rattle.layouts.specs.BookFile.{book_bytes_of, contract_count_in, book_spare_in, book_form_in, contract_at}

-- "contract by contract": the checks of 0, then of 1, and so on below m
unfoldable pub checks_to : {A : Type 0} → ℕ → (ℕ → List A) → List A
checks_to zero f = []
checks_to (suc m) f = checks_to m f ++ f m

-- "11, source or sink not below the node count; 13, quantity 0 or above 1,000,000"; ends that coincide are accepted (document 02, paper 6)
unfoldable pub contract_checks : ℕ → Contract → List Check
contract_checks n c = node_number n c.source c.sink ∷ quantity_range c.quantity.0 ∷ []

-- "the book's own from 1 to 13", for a grid of n nodes: 1, 10, 4 ("spare bits other than the two patterns"), 5, then contract by contract
unfoldable pub book_checks : ℕ → List ℕ → List Check
book_checks n s =
    short_file s 2
    ∷ contract_count (contract_count_in s)
    ∷ spare_other (spare_pattern_of (book_form_in s)) (book_spare_in s)
    ∷ file_length s (book_bytes_of (book_form_in s) (contract_count_in s))
    ∷ checks_to (contract_count_in s) (λ i. contract_checks n (contract_at s i))

-- "the book's own checks" where a book is handed in with a node count: 2, then the book's
unfoldable pub own_checks : ℕ → List ℕ → List Check
own_checks n s = node_count n ∷ book_checks n s
