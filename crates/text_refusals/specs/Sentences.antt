-- What each refusal means, in a sentence (document 01, "When input is turned down", and the requests of
-- document 02 that add numbers). The papers ask for no such text: it is here so that C, Rust and Python
-- say one thing for a number.
use Rattle.std.specs.Prelude.{List, [], ◌∷◌, ℕ, get_or}
use Rattle.text_format.specs.Ascii.{ascii}

-- by number, from 0; 12 is no longer given (document 02, paper 6)
unfoldable pub sentences : List (List ℕ)
sentences =
    ascii "no refusal"
    ∷ ascii "a file of fewer bytes than its header: two (grid, book), four (wide grid) or one (prices)"
    ∷ ascii "nodes 0 or above 4,000; reading or writing a narrow grid, above 200"
    ∷ ascii "constraints above 64"
    ∷ ascii "the spare bits of a file's header have neither form's pattern"
    ∷ ascii "a file's length differs from what its form and counts fix; a text's grid, also above 32,768 bytes"
    ∷ ascii "a limit above 100,000,000"
    ∷ ascii "a factor below -100,000 or above 100,000"
    ∷ ascii "a padding bit at a file's end is set"
    ∷ ascii "a lent table, or a place for an answer, of too few cells; remapping, unequal lists"
    ∷ ascii "more than 1,000 contracts, a book that would grow past 1,000, or a 1,001st award"
    ∷ ascii "a source, sink or listed node not below the node count; written to a narrow book, above 255"
    ∷ []
    ∷ ascii "quantity 0 or above 1,000,000"
    ∷ ascii "the price file's constraint count differs from the one stated"
    ∷ ascii "a price above 500,000"
    ∷ ascii "process not 0 to 2"
    ∷ ascii "a period not 0 or 1; writing a book, adding to one or adding an award, a kind or period not 0 or 1"
    ∷ ascii "holder above 1,023"
    ∷ ascii "a date or month that does not exist or is outside 2010 to 2037"
    ∷ ascii "running test: a tier not 1 to 4, or returning to one that is not marked"
    ∷ ascii "running test: with the award some flow would exceed its released limit"
    ∷ ascii "load migration: a figure, count or LSE number outside its range, unequal lists, or a row whose old and new LSE are one"
    ∷ ascii "load migration: an LSE that loses load has none, or less than its losses to all gainers"
    ∷ ascii "a hub not of 1 to 32 nodes, unequal lists, or weights outside 1 to 100,000 or not together 100,000"
    ∷ ascii "a node listed twice in a hub"
    ∷ ascii "sharing a balance: no demands or more than 256, or a balance or demand outside its range"
    ∷ ascii "sharing a balance: the demands total 0"
    ∷ []

-- that of a number; a number that no refusal has is without a sentence
unfoldable pub meaning : ℕ → List ℕ
meaning n = get_or sentences n []
