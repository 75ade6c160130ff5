-- The market's view does not depend on holders; and of an accepted book it is a book, with the same contracts but for their holders.
use mathlib.Core.Path.{◌≡◌, refl, ap, sym, ◌∙◌}
use mathlib.Core.List.{List, [], ◌∷◌, map}
use Prim.Native.Nat.{ℕ, ◌<◌}
use native.Mathlib.Omega.{arith}
use lib.ListN.{length, get_or}
use Rattle.lists.specs.Lists.{list_to}
use Rattle.lists.proofs.Lists.{length-list_to, list_to-cong, map-list_to, get_d_list_to, each-list_to}
use Rattle.tariff.specs.declared.contracts.Contract.{Contract}
use Rattle.std.specs.Prelude.{Err}
use Rattle.tariff.specs.Refusals.{passed}
use Rattle.tariff.specs.Refusals.{first, decided}
use Rattle.tariff.specs.Checks.{short_table}
use Rattle.tariff.proofs.Checks.{first-append, passed_append}
use Rattle.layouts.specs.declared.forms.Form.{Form}
use Rattle.layouts.specs.Forms.{end_width}
use Rattle.layouts.specs.BookFile.{contract, book_bytes_of, book_file, contract_count_in, book_form_in, contract_in, contract_at, book_in}
use Rattle.layouts.specs.BookTable.{ContractFits}
use Rattle.layouts.proofs.BookFile.{Filed, book-written, contract-in_fits}
use Rattle.book_rules.specs.BookChecks.{own_checks}
use Rattle.book_rules.proofs.Accepted.{Accepted, own_accepted}
use Rattle.view_rules.specs.Views.{anonymous, market_file}
use Rattle.view_rules.specs.MarketView.{market_view_call, market_view_checks, market_view_checked}
use Rattle.view_rules.specs.Theorems.{SameButHolder, OnlyHoldersDiffer, MarketBook}
use Rattle.view_rules.proofs.Holders.{same_form, same_contract, own_alike}

-- the contracts without their holders, by index
anonymous-list : (s : List ℕ) → map anonymous (book_in s) ≡ list_to (contract_count_in s) (λ i. anonymous (contract_at s i))
anonymous-list s = map-list_to (contract_count_in s) (contract_at s) anonymous

pub market_rows : (s : List ℕ) → market_file s ≡ book_file (book_form_in s) (list_to (contract_count_in s) (λ i. anonymous (contract_at s i)))
unfolding market_file
market_rows s = ap (book_file (book_form_in s)) (anonymous-list s)

-- ---- two files

module _ (s t : List ℕ) (d : OnlyHoldersDiffer s t) where
  same_market : length s ≡ book_bytes_of (book_form_in s) (contract_count_in s) → market_file s ≡ market_file t
  same_market e =
      market_rows s
      ∙ ap (book_file (book_form_in s)) (list_to-cong (contract_count_in s) (λ i. anonymous (contract_at s i)) (λ i. anonymous (contract_in (book_form_in s) t i)) (λ i h. same_contract s t d i h e))
      ∙ (λ k. book_file (same_form s t d k) (list_to (d.same_count k) (λ i. anonymous (contract_in (same_form s t d k) t i))))
      ∙ sym (market_rows t)

  pub same_market_checks : (n : ℕ) (e f : List ℕ) → length e ≡ length f → market_view_checked (market_view_call n s e) ≡ market_view_checked (market_view_call n t f)
  unfolding market_view_checks
  same_market_checks n e f l =
      first-append (own_checks n s) (short_table (length e) (book_bytes_of (book_form_in s) (contract_count_in s)) ∷ [])
      ∙ (λ k. decided (own_alike s t d n k) Err (first (short_table (l k) (book_bytes_of (same_form s t d k) (d.same_count k)) ∷ [])))
      ∙ sym (first-append (own_checks n t) (short_table (length f) (book_bytes_of (book_form_in t) (contract_count_in t)) ∷ []))

  pub passed_market : (n : ℕ) (e : List ℕ) → market_view_checked (market_view_call n s e) ≡ passed → market_file s ≡ market_file t
  unfolding market_view_checks
  passed_market n e p =
      same_market (own_accepted n s (passed_append (own_checks n s) (short_table (length e) (book_bytes_of (book_form_in s) (contract_count_in s)) ∷ []) p).0).size

-- ---- one accepted book

-- holder 0, all else kept
pub anonymous-fits : (w : ℕ) (c : Contract) → ContractFits w c → ContractFits w (anonymous c)
unfolding anonymous
anonymous-fits w c t = record { holder-fits = omega arith; source_fits = t.source_fits; sink-fits = t.sink-fits; quantity-fits = t.quantity-fits }

anonymous-holder : (c : Contract) → (anonymous c).holder ≡ 0
unfolding anonymous
anonymous-holder c = refl

anonymous-same : (c d : Contract) → d ≡ anonymous c → SameButHolder c d
unfolding anonymous
anonymous-same c d e =
    record {
      same_kind = sym (ap (λ (x : Contract). x.kind) e);
      same_period_lem = sym (ap (λ (x : Contract). x.period) e);
      same_source = sym (ap (λ (x : Contract). x.source) e);
      same_sink = sym (ap (λ (x : Contract). x.sink) e);
      same_quantity = sym (ap (λ (x : Contract). x.quantity) e);
    }

module _ (n : ℕ) (s : List ℕ) (ok : first (own_checks n s) ≡ passed) where
  own : Accepted n s
  own = own_accepted n s ok

  abbrev rows : List Contract
  rows = list_to (contract_count_in s) (λ i. anonymous (contract_at s i))

  many : length rows ≡ contract_count_in s
  many = length-list_to (contract_count_in s) (λ i. anonymous (contract_at s i))

  -- what is found in the file of those rows
  filed : Filed (book_form_in s) rows (book_file (book_form_in s) rows)
  filed =
      book-written (book_form_in s) rows (omega (arith, many, own.few))
      (each-list_to (ContractFits (end_width (book_form_in s))) (contract_count_in s) (λ i. anonymous (contract_at s i)) (λ i h. anonymous-fits _ _ (contract-in_fits (book_form_in s) s i)))

  market_filed : Filed (book_form_in s) rows (market_file s)
  market_filed = rw (market_rows s) filed

  pub market_length : length (market_file s) ≡ length s
  market_length = market_filed.size ∙ ap (book_bytes_of (book_form_in s)) many ∙ sym own.size

  market_count : contract_count_in (market_file s) ≡ contract_count_in s
  market_count = market_filed.count ∙ many

  -- contract i of the view
  market_at : (i : ℕ) → i < contract_count_in s → contract_in (book_form_in s) (market_file s) i ≡ anonymous (contract_at s i)
  market_at i h =
      let m = market_file s in
      let none = contract 0 0 0 0 0 0 in
      ap (λ (f : Form). contract_in f m i) (sym market_filed.form)
      ∙ sym (get_d_list_to (contract_count_in m) (contract_at m) i none (rw market_count h))
      ∙ ap (λ (cs : List Contract). get_or cs i none) market_filed.contracts
      ∙ get_d_list_to (contract_count_in s) (λ j. anonymous (contract_at s j)) i none h

  market_differs : OnlyHoldersDiffer s (market_file s)
  market_differs =
      record {
        same_length = sym market_length;
        same_count = sym market_count;
        same_spare = own.spare ∙ sym market_filed.spare;
        same_else = λ i h l. anonymous-same _ _ (market_at i h);
      }

  pub market_is_a_book : MarketBook n s
  market_is_a_book =
      record {
        accepted = sym (own_alike s (market_file s) market_differs n) ∙ ok;
        same_form = market_filed.form;
        same_size = market_length;
        contracts = market_filed.contracts ∙ sym (anonymous-list s);
        holders_0 = rw market_filed.contracts (each-list_to (λ (c : Contract). c.holder ≡ 0) (contract_count_in s) (λ i. anonymous (contract_at s i)) (λ i h. anonymous-holder _));
        differs = market_differs;
        again = sym (same_market s (market_file s) market_differs own.size);
      }
