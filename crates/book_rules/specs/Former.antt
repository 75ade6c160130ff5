-- Document 01's checks of a book's bytes, as they were before document 02, papers 6 and 9, with the paper's own numbers: 12 among them, and ends of 8 bits.
use Rattle.std.specs.Prelude.{not, ◌||◌, List, [], ◌∷◌, ℕ, ◌+◌, ◌*◌, leb, ltb, eqb, length}
use Rattle.lists.specs.Lists.{list_to}
use Rattle.bits.specs.Bits.{field}
use Rattle.tariff.specs.declared.contracts.Contract.{Contract}
use Rattle.tariff.specs.Former.{FormerCheck, formerly}
use Rattle.layouts.specs.BookFile.{contract_from}
use Rattle.book_rules.specs.BookChecks.{checks_to}

-- "11, source or sink not below the node count; 12, source equals sink; 13, quantity 0 or above 1,000,000"
unfoldable pub former_contract_checks : ℕ → Contract → List FormerCheck
former_contract_checks n c =
    formerly (leb n c.source || leb n c.sink) 11
    ∷ formerly (eqb c.source c.sink) 12
    ∷ formerly (eqb c.quantity.0 0 || ltb 1000000 c.quantity.0) 13
    ∷ []

-- "the book's own from 1 to 13", for a grid of n nodes: 1, 10, 4, 5, then contract by contract
unfoldable pub former_book_checks : ℕ → List ℕ → List FormerCheck
former_book_checks n s =
    formerly (ltb (length s) 2) 1
    ∷ formerly (ltb 1000 (field s 0 10)) 10
    ∷ formerly (not (eqb (field s 10 6) 0)) 4
    ∷ formerly (not (eqb (length s) (2 + 6 * field s 0 10))) 5
    ∷ checks_to (field s 0 10) (λ i. former_contract_checks n (contract_from 8 s (16 + 48 * i)))

-- and before them "2 for that count", which was 1 to 200
unfoldable pub former_reading_checks : ℕ → List ℕ → List FormerCheck
former_reading_checks n s = formerly (eqb n 0 || ltb 200 n) 2 ∷ former_book_checks n s

-- the contracts that were read
abbrev pub former_book_in : List ℕ → List Contract
former_book_in s = list_to (field s 0 10) (λ i. contract_from 8 s (16 + 48 * i))
