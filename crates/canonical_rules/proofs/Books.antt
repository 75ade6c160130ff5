-- The canonical form of an accepted book: it is a book, and it is the same exactly where the totals are.
use mathlib.Core.Path.{◌≡◌, sym, ap, ap₂, ◌∙◌}
use mathlib.Core.Logic.{◌↔◌}
use mathlib.Core.Bool.{false}
use mathlib.Core.List.{List, [], ◌∷◌}
use Prim.Native.Nat.{ℕ, ◌^◌, ◌≤◌, ◌<◌}
use native.Mathlib.Nat.{mul-le-mul_left}
use native.Mathlib.Omega.{arith}
use borrow.Author.Tests.{ltb-false, eqb-false, lt-leb, le-ltb, ne_eqb}
use lib.Dec.{eqb, ltb}
use lib.ListN.{length}
use Rattle.lists.specs.Lists.{Each}
use Rattle.lists.proofs.Lists.{each-list_to}
use Rattle.lists.proofs.Search.{neither}
use Rattle.tariff.specs.declared.contracts.Contract.{Contract}
use Rattle.tariff.specs.declared.contracts.Kind.{Kind}
use Rattle.tariff.specs.declared.contracts.Period.{Period}
use Rattle.std.specs.Prelude.{Ok}
use Rattle.tariff.specs.Refusals.{passed}
use Rattle.tariff.specs.Refusals.{first}
use Rattle.tariff.specs.Checks.{node_number, quantity_range}
use Rattle.tariff.specs.Units.{max_quantity}
use Rattle.tariff.proofs.Checks.{first_passes, last-passes, passed_cons}
use Rattle.layouts.specs.declared.forms.Form.{Form}
use Rattle.layouts.specs.declared.forms.Form.TheVariants.{Narrow, Wide}
use Rattle.layouts.specs.Forms.{end_width, record_bytes}
use Rattle.layouts.specs.BookFile.{book_file, contract_count_in, book_form_in, contract_at, book_in}
use Rattle.layouts.specs.BookTable.{ContractFits}
use Rattle.layouts.proofs.BookFile.{contract-in_fits, book-fits, length-book_in}
use Rattle.book_rules.specs.BookChecks.{contract_checks}
use Rattle.book_rules.proofs.Accepted.{contract-in_range, contracts-pass, own_parts, own_accepted, own_passes}
use Rattle.book_rules.proofs.Making.{Made, book-made}
use Rattle.test_flow_laws.specs.Quantities.{with_quantity}
use Rattle.canonical_rules.specs.Canonical.{quantity, total_of, Filled, CanonicalOf, canonical, canonical_file}
use Rattle.canonical_rules.specs.Theorems.{FiveFits, AcceptedFor, CanonicalBook}
use Rattle.canonical_rules.proofs.Unique.{canonical-unique, canonical-fits}
use Rattle.canonical_rules.proofs.Merging.{canonical-is, each-canonical}
use Rattle.canonical_rules.proofs.Numbers.{not_longer}

-- ---- a contract that passes its checks

abbrev Passes : ℕ → Contract → Type 0
Passes n c = first (contract_checks n c) ≡ passed

pub passing-filled : (n : ℕ) (c : Contract) → Passes n c → Filled c
unfolding contract_checks
passing-filled n c e =
    let q = (passed_cons _ _ (passed_cons _ _ e).1).0 in
    let t = neither (eqb (quantity c) 0) (ltb max_quantity (quantity c)) q in
    (omega (arith, eqb-false (quantity c) 0 t.0), ltb-false max_quantity (quantity c) t.1)

filled-passes : (n : ℕ) (c : Contract) → Filled c → c.source < n → c.sink < n → Passes n c
unfolding contract_checks
filled-passes n c h hs ht =
    let ends : (node_number n c.source c.sink).fails ≡ false = rw (lt-leb n c.source hs, lt-leb n c.sink ht) in
    let sized : (quantity_range (quantity c)).fails ≡ false = rw (ne_eqb (quantity c) 0 (λ z. omega (arith, h.0)), le-ltb max_quantity (quantity c) h.1) in
    first_passes _ _ ends ∙ last-passes _ sized

-- what a canonical row keeps of its contracts: ranges, whatever the quantity
record Ends (w n : ℕ) (c : Contract) : Type 0 where
  holder-fits : c.holder < 1024
  source_fits : c.source < 2 ^ w
  sink-fits : c.sink < 2 ^ w
  source-below : c.source < n
  sink-below : c.sink < n

ends-kept : (w n : ℕ) (c : Contract) (q : ℕ) → Ends w n c → Ends w n (with_quantity q c)
ends-kept w n c q e =
    record { holder-fits = e.holder-fits; source_fits = e.source_fits; sink-fits = e.sink-fits; source-below = e.source-below; sink-below = e.sink-below }

five_of_form : (f : Form) (c : Contract) → ContractFits (end_width f) c → FiveFits c
five_of_form Narrow c h = record { holder-fits = h.holder-fits; source_fits = omega (arith, h.source_fits); sink-fits = omega (arith, h.sink-fits) }
five_of_form Wide c h = record { holder-fits = h.holder-fits; source_fits = h.source_fits; sink-fits = h.sink-fits }

each_both : {P Q R : Contract → Type 0} → ((c : Contract) → P c → Q c → R c) → (cs : List Contract) → Each P cs → Each Q cs → Each R cs
each_both f [] p q = tt
each_both f (c ∷ cs) p q = (f c p.0 q.0, each_both f cs p.1 q.1)

module _ (n : ℕ) (s : List ℕ) (ok : AcceptedFor n s) where
  abbrev form : Form
  form = book_form_in s

  passing : Each (Passes n) (book_in s)
  passing = each-list_to (Passes n) (contract_count_in s) (contract_at s) (contracts-pass n s (own_parts n s ok).1)

  pub book-filled_at : (i : ℕ) → i < contract_count_in s → Filled (contract_at s i)
  book-filled_at i h = passing-filled n (contract_at s i) (contracts-pass n s (own_parts n s ok).1 i h)

  pub book-five_at : (i : ℕ) → i < contract_count_in s → FiveFits (contract_at s i)
  book-five_at i h = five_of_form form (contract_at s i) (contract-in_fits form s i)

  book-filled : Each Filled (book_in s)
  book-filled = each-list_to Filled (contract_count_in s) (contract_at s) book-filled_at

  pub book-five : Each FiveFits (book_in s)
  book-five = each-list_to FiveFits (contract_count_in s) (contract_at s) book-five_at

  ends : Each (Ends (end_width form) n) (canonical (book_in s))
  ends =
      each-canonical (Ends (end_width form) n) (ends-kept (end_width form) n) (book_in s)
      (each_both
      (λ c f p. record {
        holder-fits = f.holder-fits;
        source_fits = f.source_fits;
        sink-fits = f.sink-fits;
        source-below = (contract-in_range n c p).source-below;
        sink-below = (contract-in_range n c p).sink-below;
      })
      (book_in s) (book-fits s) passing)

  pub rows-canonical : CanonicalOf (book_in s) (canonical (book_in s))
  rows-canonical = canonical-is (book_in s) book-five

  pub rows_few : length (canonical (book_in s)) ≤ contract_count_in s
  rows_few = omega (arith, not_longer (book_in s) book-filled book-five, length-book_in s)

  pub rows_fit : Each (ContractFits (end_width form)) (canonical (book_in s))
  rows_fit =
      each_both
      (λ c e h. record { holder-fits = e.holder-fits; source_fits = e.source_fits; sink-fits = e.sink-fits; quantity-fits = omega (arith, h.1) })
      (canonical (book_in s)) ends rows-canonical.filled

  pub book-canonical : Made form n (canonical (book_in s))
  book-canonical =
      book-made form n (canonical (book_in s)) (omega (arith, rows_few, (own_accepted n s ok).few)) rows_fit
      (each_both (λ c e h. filled-passes n c h e.source-below e.sink-below) (canonical (book_in s)) ends rows-canonical.filled)

  no_longer : length (book_file form (canonical (book_in s))) ≤ length s
  no_longer =
      omega (arith, book-canonical.size, (own_accepted n s ok).size, mul-le-mul_left (record_bytes form) rows_few)

  pub canonical-is_a_book : CanonicalBook n s
  unfolding canonical_file
  canonical-is_a_book =
      record {
        accepted = own_passes n (book_file form (canonical (book_in s))) (own_parts n s ok).0 book-canonical.accepted;
        same_form = book-canonical.form;
        rows = book-canonical.contracts;
        no_longer = no_longer;
      }

  pub canonical-again : canonical_file (canonical_file s) ≡ canonical_file s
  unfolding canonical_file
  canonical-again =
      ap₂ (λ (f : Form) (cs : List Contract). book_file f (canonical cs)) book-canonical.form book-canonical.contracts
      ∙ ap (book_file form)
      (canonical-unique (canonical (book_in s)) (book_in s) (canonical (canonical (book_in s))) (canonical (book_in s)) fits book-five
      (canonical-is (canonical (book_in s)) fits) rows-canonical rows-canonical.totals)
    where
      fits : Each FiveFits (canonical (book_in s))
      fits = canonical-fits (book_in s) book-five (canonical (book_in s)) rows-canonical

module _ (n m : ℕ) (s t : List ℕ) (os : AcceptedFor n s) (ot : AcceptedFor m t) (form : book_form_in s ≡ book_form_in t) where
  abbrev EqualTotals : Type 0
  EqualTotals = (kind : Kind) (period : Period) (holder source sink : ℕ) → total_of kind period holder source sink (book_in s) ≡ total_of kind period holder source sink (book_in t)

  pub same_canonical : (canonical_file s ≡ canonical_file t) ↔ EqualTotals
  unfolding canonical_file
  same_canonical = (
    λ e kind period holder source sink.
        let rows : canonical (book_in s) ≡ canonical (book_in t) = sym (book-canonical n s os).contracts ∙ ap book_in e ∙ (book-canonical m t ot).contracts in
        sym ((rows-canonical n s os).totals kind period holder source sink) ∙ ap (total_of kind period holder source sink) rows ∙ (rows-canonical m t ot).totals kind period holder source sink,
    λ e. ap₂ book_file form
        (canonical-unique (book_in s) (book_in t) (canonical (book_in s)) (canonical (book_in t)) (book-five n s os) (book-five m t ot) (rows-canonical n s os) (rows-canonical m t ot) e),
  )
