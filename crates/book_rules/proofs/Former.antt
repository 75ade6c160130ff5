-- Today's checks of a book that isn't wide beside those of before: the same without 12. And those of before on a wide book.
use mathlib.Core.Path.{◌≡◌, refl, sym, ap, ap₂, ◌∙◌}
use mathlib.Core.Bool.{cond, ◌||◌}
use mathlib.Core.List.{List, ◌∷◌, ◌++◌, map, map-append}
use Prim.Native.Nat.{ℕ, zero, suc}
use lib.Dec.{ltb, eqb}
use lib.ListN.{length}
use Rattle.lists.specs.Lists.{list_to}
use Rattle.tariff.specs.declared.contracts.Contract.{Contract}
use Rattle.tariff.specs.Refusals.{Check}
use Rattle.tariff.specs.Former.{FormerCheck, by_number, without, former_first}
use Rattle.tariff.proofs.Former.{without-append}
use Rattle.tariff.specs.Checks.{contract_count}
use Rattle.layouts.specs.declared.forms.Form.{Form}
use Rattle.layouts.specs.declared.forms.Form.TheVariants.{Narrow}
use Rattle.layouts.specs.Forms.{spare_pattern_of}
use Rattle.layouts.specs.Files.{short_file, spare_other, file_length}
use Rattle.layouts.specs.BookFile.{book_bytes_of, contract_count_in, book_spare_in, book_form_in, contract_in, book_in}
use Rattle.book_rules.specs.BookChecks.{checks_to, contract_checks, book_checks}
use Rattle.book_rules.specs.Former.{former_contract_checks, former_book_checks, former_reading_checks, former_book_in}

-- one contract after another
pub former_to : (r m : ℕ) (f : ℕ → List Check) (g : ℕ → List FormerCheck) → ((i : ℕ) → map by_number (f i) ≡ without r (g i))
    → map by_number (checks_to m f) ≡ without r (checks_to m g)
unfolding checks_to without
former_to r zero f g each = refl
former_to r (suc m) f g each =
    map-append by_number (checks_to m f) (f m) ∙ ap₂ (λ (xs ys : List FormerCheck). xs ++ ys) (former_to r m f g each) (each m) ∙ sym (without-append r (checks_to m g) (g m))

pub contract-as_before : (n : ℕ) (c : Contract) → map by_number (contract_checks n c) ≡ without 12 (former_contract_checks n c)
unfolding contract_checks former_contract_checks without
contract-as_before n c = refl

-- the book's own checks with the form left open
abbrev checks_in : Form → ℕ → List ℕ → List Check
checks_in f n s =
    short_file s 2
    ∷ contract_count (contract_count_in s)
    ∷ spare_other (spare_pattern_of f) (book_spare_in s)
    ∷ file_length s (book_bytes_of f (contract_count_in s))
    ∷ checks_to (contract_count_in s) (λ i. contract_checks n (contract_in f s i))

pub book-as_before : (n : ℕ) (s : List ℕ) → book_form_in s ≡ Narrow → map by_number (book_checks n s) ≡ without 12 (former_book_checks n s)
unfolding book_checks former_book_checks without contract_in
book-as_before n s narrow =
    ap (λ (f : Form). map by_number (checks_in f n s)) narrow
    ∙ ap (λ (l : List FormerCheck). by_number (short_file s 2) ∷ by_number (contract_count (contract_count_in s)) ∷ by_number (spare_other 0 (book_spare_in s))
    ∷ by_number (file_length s (book_bytes_of Narrow (contract_count_in s))) ∷ l)
    (former_to 12 (contract_count_in s) (λ i. contract_checks n (contract_in Narrow s i)) _ (λ i. contract-as_before n (contract_in Narrow s i)))

pub values-as_before : (s : List ℕ) → book_form_in s ≡ Narrow → book_in s ≡ former_book_in s
unfolding contract_in
values-as_before s narrow = ap (λ (f : Form). list_to (contract_count_in s) (contract_in f s)) narrow

-- what the old reader draws on bytes whose spare bits are all set: no check behind 4 is reached
pub old-number : (n : ℕ) (s : List ℕ) → book_spare_in s ≡ 63
    → former_first (former_reading_checks n s) ≡ cond (eqb n 0 || ltb 200 n) 2 (cond (ltb (length s) 2) 1 (cond (ltb 1000 (contract_count_in s)) 10 4))
unfolding former_first former_reading_checks former_book_checks
old-number n s wide = rw wide
