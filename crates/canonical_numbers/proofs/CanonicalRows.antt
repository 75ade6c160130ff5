-- The cells filled, sorted and walked hold the canonical rows of the contracts.
use mathlib.Core.Path.{◌≡◌, sym, ap, ◌∙◌}
use mathlib.Core.List.{List, [], ◌∷◌, map}
use Prim.Native.Nat.{ℕ}
use Rattle.lists.specs.Lists.{Each, list_to}
use Rattle.lists.proofs.Lists.{each-list_to, map-list_to}
use Rattle.sorting.specs.Sorted.{sorted}
use Rattle.sorting.proofs.Callers.{each-sorted}
use Rattle.tariff.specs.declared.contracts.Contract.{Contract}
use Rattle.layouts.specs.declared.forms.Form.{Form}
use Rattle.layouts.specs.BookFile.{contract_in}
use Rattle.canonical_rules.specs.Canonical.{Filled, canonical}
use Rattle.canonical_rules.specs.Theorems.{FiveFits}
use Rattle.canonical_rules.specs.Inner.{row_number, walk_numbers}
use Rattle.canonical_rules.proofs.Numbers.{quantity-in, canonical-numbers}
use Rattle.canonical_numbers.specs.Inner.{SizedQuantity, Countable}

each-sized : (cs : List Contract) → Each Filled cs → Each SizedQuantity (map row_number cs)
each-sized [] h = tt
each-sized (c ∷ cs) h = (rw (quantity-in c h.0) h.0.1, each-sized cs h.1)

module _ (form : Form) (book : List ℕ) (count : ℕ) (ok : Countable form book count) (cells rising : List ℕ)
    (put : cells ≡ list_to count (λ i. row_number (contract_in form book i))) (sort : rising ≡ sorted cells) where
  abbrev contracts : List Contract
  contracts = list_to count (contract_in form book)

  filled : Each Filled contracts
  filled = each-list_to Filled count (contract_in form book) ok.filled

  numbers : cells ≡ map row_number contracts
  numbers = put ∙ sym (map-list_to count (contract_in form book) row_number)

  rises : rising ≡ sorted (map row_number contracts)
  rises = sort ∙ ap sorted numbers

  pub rising_sized : Each SizedQuantity rising
  rising_sized = rw rises (each-sorted SizedQuantity (map row_number contracts) (each-sized contracts filled))

  pub walked_canonical : (rows : List ℕ) → rows ≡ walk_numbers rising → rows ≡ map row_number (canonical contracts)
  walked_canonical rows e = e ∙ ap walk_numbers rises ∙ sym (canonical-numbers contracts filled (each-list_to FiveFits count (contract_in form book) ok.fits))
