-- For all that make books from contracts: a header and contracts stored one after the other are the book's file, and the file of contracts that fit and pass
-- their own checks is accepted and reads back as those contracts.
use mathlib.Core.Path.{◌≡◌, sym, ap, ◌∙◌}
use mathlib.Core.List.{List, [], ◌∷◌, ◌++◌, flat_map, append_assoc, append-nil}
use Prim.Native.Nat.{ℕ, ◌+◌, ◌≤◌, ◌<◌}
use native.Mathlib.Omega.{arith}
use borrow.Author.Tests.{le-ltb}
use lib.ListN.{length, take, drop, get_or}
use Rattle.lists.specs.Lists.{Each}
use Rattle.lists.specs.Lent.{overwrite}
use Rattle.lists.proofs.Lists.{get_d_list_to, each_at, flat_map_last}
use Rattle.tariff.specs.declared.contracts.Contract.{Contract}
use Rattle.std.specs.Prelude.{Ok}
use Rattle.tariff.specs.Refusals.{passed}
use Rattle.tariff.specs.ContractRules.{InRange}
use Rattle.tariff.specs.Refusals.{first}
use Rattle.tariff.specs.Units.{max_nodes, max_contracts, max_holder}
use Rattle.tariff.proofs.Checks.{first_passes, same}
use Rattle.layouts.specs.declared.forms.Form.{Form}
use Rattle.layouts.specs.Forms.{end_width, record_bytes, spare_pattern_of, ends_below_of}
use Rattle.layouts.specs.BookFile.{contract, book_bytes_of, book_file, contract_count_in, book_spare_in, book_form_in, contract_at, book_in}
use Rattle.layouts.specs.BookTable.{ContractFits}
use Rattle.layouts.proofs.BookFile.{Filed, book-written, book-bytes_least, end_fits}
use Rattle.book_rules.specs.BookChecks.{checks_to, contract_checks, book_checks}
use Rattle.book_rules.specs.Inner.{header_bytes, contract_bytes, book_front}
use Rattle.book_rules.proofs.Checking.{checks_all, checks_same}
use Rattle.lists.proofs.Blocks.{block-stored}
use Rattle.book_rules.proofs.Bytes.{length-contract, length_front, book-bytes}

-- past a book's end
abbrev none : Contract
none = contract 0 0 0 0 0 0

-- ---- stored one after the other, in a place that held file

module _ (f : Form) (m : ℕ) (file : List ℕ) where
  pub front-begins : (out : List ℕ) → out ≡ overwrite (header_bytes f m) file → out ≡ overwrite (book_front f m []) file
  unfolding flat_map
  front-begins out e = rw append-nil e

  pub front-more : (cs : List Contract) (c : Contract) (i : ℕ) (out next : List ℕ) → length cs ≡ i → out ≡ overwrite (book_front f m cs) file
      → next ≡ take (book_bytes_of f i) out ++ contract_bytes f c ++ drop (book_bytes_of f i + record_bytes f) out → next ≡ overwrite (book_front f m (cs ++ c ∷ [])) file
  front-more cs c i out next long is stored =
      let at = book_bytes_of f i in
      block-stored (book_front f m cs) (contract_bytes f c) file out next at (at + record_bytes f) (length_front f m cs ∙ ap (book_bytes_of f) long) (rw (length-contract f c)) is stored
      ∙ ap (λ (l : List ℕ). overwrite l file)
      (append_assoc (header_bytes f m) (flat_map (contract_bytes f) cs) (contract_bytes f c) ∙ ap (λ (l : List ℕ). header_bytes f m ++ l) (sym (flat_map_last (contract_bytes f) cs c)))

  pub front_ends : (cs : List Contract) (out : List ℕ) → length cs ≡ m → Each (ContractFits (end_width f)) cs → out ≡ overwrite (book_front f m cs) file → out ≡ overwrite (book_file f cs) file
  front_ends cs out many fits is = rw (← book-bytes f cs fits, many) is

-- ---- what the file of contracts says

-- a contract in range of what a form's ends are below fits its fields
pub in_range_fits : (f : Form) (n : ℕ) (c : Contract) → n ≤ max_nodes → InRange (ends_below_of f n) c → c.holder ≤ max_holder → ContractFits (end_width f) c
in_range_fits f n c few r held =
    record {
      holder-fits = omega arith;
      source_fits = end_fits f n c.source few r.source-below;
      sink-fits = end_fits f n c.sink few r.sink-below;
      quantity-fits = omega (arith, r.quantity-sized);
    }

pub record Made (f : Form) (n : ℕ) (cs : List Contract) : Type 0 where
  pub accepted : first (book_checks n (book_file f cs)) ≡ passed
  pub size : length (book_file f cs) ≡ book_bytes_of f (length cs)
  pub count : contract_count_in (book_file f cs) ≡ length cs
  pub form : book_form_in (book_file f cs) ≡ f
  pub contracts : book_in (book_file f cs) ≡ cs

module _ (f : Form) (n : ℕ) (cs : List Contract) (few : length cs ≤ max_contracts) (fits : Each (ContractFits (end_width f)) cs) where
  found : Filed f cs (book_file f cs)
  found = book-written f cs (omega arith) fits

  -- the checks of a book that is written come down to those of its contracts, in whatever form
  pub checks_of_file : first (book_checks n (book_file f cs)) ≡ first (checks_to (length cs) (λ i. contract_checks n (get_or cs i none)))
  unfolding book_checks
  checks_of_file =
      let s = book_file f cs in
      first_passes _ _ (le-ltb (length s) 2 (book-bytes_least f (length cs) (length s) (omega (arith, found.size))))
      ∙ first_passes _ _ (le-ltb max_contracts (contract_count_in s) (omega (arith, found.count)))
      ∙ first_passes _ _ (same (book_spare_in s) (spare_pattern_of (book_form_in s)) (rw found.form found.spare))
      ∙ first_passes _ _ (same (length s) (book_bytes_of (book_form_in s) (contract_count_in s)) (rw (found.form, found.count) found.size))
      ∙ rw found.count (ap first (checks_same (length cs) _ _ (λ i h. ap (contract_checks n) (contract-is i h))))
    where
      contract-is : (i : ℕ) → i < length cs → contract_at (book_file f cs) i ≡ get_or cs i none
      contract-is i h =
          let s = book_file f cs in
          sym (get_d_list_to (contract_count_in s) (contract_at s) i none (rw found.count h)) ∙ ap (λ (l : List Contract). get_or l i none) found.contracts

  pub book-made : Each (λ c. first (contract_checks n c) ≡ passed) cs → Made f n cs
  book-made pass =
      record {
        accepted = checks_of_file ∙ checks_all (λ i. contract_checks n (get_or cs i none)) (length cs) (λ i h. each_at (λ c. first (contract_checks n c) ≡ passed) cs i none pass h);
        size = found.size;
        count = found.count;
        form = found.form;
        contracts = found.contracts;
      }
