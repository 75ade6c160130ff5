-- A book's packing over the width w of its ends, B bytes a contract, and the spare bits p: total, fit, written then read, read then written; and the book's
-- file in either form.
use mathlib.Core.Path.{◌≡◌, refl, sym, ap, ◌∙◌}
use mathlib.Core.Bool.{cond}
use mathlib.Core.List.{List, [], ◌∷◌, flat_map}
use Prim.Native.Nat.{ℕ, ◌+◌, ◌*◌, ◌^◌, ◌≤◌, ◌<◌}
use native.Mathlib.Omega.{arith}
use borrow.Author.Tests.{ne_eqb}
use lib.Dec.{eqb}
use lib.ListN.{length, get_or}
use Rattle.lists.specs.Lists.{Each, list_to}
use Rattle.lists.proofs.Lists.{length-list_to, list_to-is, each-list_to}
use Rattle.bits.specs.Fields.{Field, bits, total_width, file_of}
use Rattle.bits.specs.Inner.{Fit, HoldsFields}
use Rattle.bits.proofs.Numbers.{Below}
use Rattle.bits.proofs.Fields.{field_lt}
use Rattle.bits.proofs.Files.{total-append, fit_append, length-file, below-file, written-holds, holds-written, holds-append}
use Rattle.tariff.specs.declared.contracts.Contract.{Contract}
use Rattle.tariff.specs.Units.{max_nodes, max_contracts}
use Rattle.layouts.specs.declared.forms.Form.{Form}
use Rattle.layouts.specs.declared.forms.Form.TheVariants.{Narrow, Wide}
use Rattle.layouts.specs.Forms.{end_width, record_bytes, spare_pattern_of, ends_below_of}
use Rattle.layouts.specs.BookFile.{contract, contract_bits, contract_fields, packed_book, contract_from}
use Rattle.layouts.specs.BookFile.{book_bytes_of, book_file, contract_count_in, book_spare_in, book_form_in, contract_in, contract_at, book_in}
use Rattle.layouts.specs.BookTable.{ContractFits}
use Rattle.layouts.proofs.ContractBits.{kind-bit, period-bit, kind-lt, period-lt, contract-is}
use Rattle.layouts.proofs.Records.{fit_records, total-records, record_stands, records_stand}

-- the contracts of a file whose ends have w bits
abbrev pub contracts_in : ℕ → List ℕ → List Contract
contracts_in w s = list_to (contract_count_in s) (λ i. contract_from w s (16 + contract_bits w * i))

-- the bytes s are the file of a book, with the spare bits p: what each reader finds in them
pub record Packed (w B p : ℕ) (cs : List Contract) (s : List ℕ) : Type 0 where
  pub size : length s ≡ 2 + B * length cs
  pub bytes : Below 8 s
  pub count : contract_count_in s ≡ length cs
  pub spare : book_spare_in s ≡ p
  pub contracts : contracts_in w s ≡ cs

-- ---- one contract

module _ (w : ℕ) where
  pub total-contract : (c : Contract) → total_width (contract_fields w c) ≡ contract_bits w
  unfolding contract_fields
  total-contract c = omega arith

  pub fit_contract : (c : Contract) → ContractFits w c → Fit (contract_fields w c)
  unfolding contract_fields
  fit_contract c h = (kind-lt c.kind, (period-lt c.period, (h.holder-fits, (h.source_fits, (h.sink-fits, (h.quantity-fits, tt))))))

  -- where a contract's fields stand, that contract is read
  pub contract-read : (s : List ℕ) (a : ℕ) (c : Contract) → HoldsFields s a (contract_fields w c) → contract_from w s a ≡ c
  unfolding contract_fields contract_from
  contract-read s a c h = contract-is c h.0 h.1.0 h.1.1.0 h.1.1.1.0 h.1.1.1.1.0 h.1.1.1.1.1.0

  -- and the fields of the contract read stand there
  pub contract-holds : (s : List ℕ) (a : ℕ) → HoldsFields s a (contract_fields w (contract_from w s a))
  unfolding contract_fields contract_from
  contract-holds s a = (sym (kind-bit _ (field_lt s a 1)), (sym (period-bit _ (field_lt s (a + 1) 1)), (refl, (refl, (refl, (refl, tt))))))

  pub contract-fits : (s : List ℕ) (a : ℕ) → ContractFits w (contract_from w s a)
  unfolding contract_from
  contract-fits s a =
      record {
        holder-fits = field_lt s (a + 1 + 1) 10;
        source_fits = field_lt s (a + 1 + 1 + 10) w;
        sink-fits = field_lt s (a + 1 + 1 + 10 + w) w;
        quantity-fits = field_lt s (a + 1 + 1 + 10 + w + w) 20;
      }

  pub length-contracts_in : (s : List ℕ) → length (contracts_in w s) ≡ contract_count_in s
  length-contracts_in s = length-list_to (contract_count_in s) (λ i. contract_from w s (16 + contract_bits w * i))

-- ---- a book

-- past a book's end
abbrev none : Contract
none = contract 0 0 0 0 0 0

abbrev header : ℕ → ℕ → List Field
header m p = bits 10 m ∷ bits 6 p ∷ []

module _ (w B p : ℕ) (whole : 8 * B ≡ contract_bits w) where
  pub total-book : (cs : List Contract) → total_width (packed_book w p cs) ≡ 8 * (2 + B * length cs)
  unfolding packed_book
  total-book cs =
      rw (total-append (header (length cs) p) (flat_map (contract_fields w) cs), total-records (contract_fields w) (contract_bits w) (total-contract w) cs, ← whole) (omega arith)

  module _ (cs : List Contract) (few : length cs < 2 ^ 10) (pattern : p < 2 ^ 6) (each : Each (ContractFits w) cs) where
    pub fit_book : Fit (packed_book w p cs)
    unfolding packed_book
    fit_book = fit_append (header (length cs) p) (flat_map (contract_fields w) cs) (few, (pattern, tt)) (fit_records (contract_fields w) (ContractFits w) (fit_contract w) cs each)

    found : (s : List ℕ) → length s ≡ 2 + B * length cs → Below 8 s → HoldsFields s 0 (packed_book w p cs) → Packed w B p cs s
    unfolding packed_book
    found s size b h = record { size = size; bytes = b; count = parts.0.0; spare = parts.0.1.0; contracts = rw parts.0.0 (list_to-is cs read none at) }
      where
        read : ℕ → Contract
        read i = contract_from w s (16 + contract_bits w * i)

        parts : HoldsFields s 0 (header (length cs) p) × HoldsFields s 16 (flat_map (contract_fields w) cs)
        parts = (holds-append s 0 (header (length cs) p) (flat_map (contract_fields w) cs)).0 h

        at : (i : ℕ) → i < length cs → read i ≡ get_or cs i none
        at i l =
            contract-read w s (16 + contract_bits w * i) (get_or cs i none)
            (record_stands (contract_fields w) (contract_bits w) (total-contract w) cs i none s 16 (16 + contract_bits w * i) l refl parts.1)

    -- written, then read
    pub packed-written : Packed w B p cs (file_of (packed_book w p cs))
    packed-written =
        found (file_of (packed_book w p cs)) (length-file (packed_book w p cs) (2 + B * length cs) (total-book cs)) (below-file (packed_book w p cs))
        (written-holds (packed_book w p cs) (2 + B * length cs) fit_book (total-book cs))

  -- read, then written
  pub packed-read : (s : List ℕ) → Below 8 s → length s ≡ 2 + B * contract_count_in s → book_spare_in s ≡ p → file_of (packed_book w p (contracts_in w s)) ≡ s
  unfolding packed_book
  packed-read s b size spare =
      holds-written s (packed_book w p (contracts_in w s)) b (total-book (contracts_in w s) ∙ rw (length-contracts_in w s, size))
      ((holds-append s 0 (header (length (contracts_in w s)) p) (flat_map (contract_fields w) (contracts_in w s))).1 (
        (sym (length-contracts_in w s), (spare, tt)),
        records_stand (contract_fields w) (contract_bits w) (total-contract w) (contract_count_in s) (λ i. contract_from w s (16 + contract_bits w * i)) s 16
            (λ i l. contract-holds w s (16 + contract_bits w * i)),
      ))

-- ---- by the form: w = 8, B = 6 and w = 12, B = 7

pub whole-bytes : (f : Form) → 8 * record_bytes f ≡ contract_bits (end_width f)
whole-bytes Narrow = refl
whole-bytes Wide = refl

pattern_fits : (f : Form) → spare_pattern_of f < 2 ^ 6
pattern_fits Narrow = omega arith
pattern_fits Wide = omega arith

-- the form by its spare bits
pub form-is : (f : Form) (s : List ℕ) → book_spare_in s ≡ spare_pattern_of f → book_form_in s ≡ f
unfolding book_form_in
form-is f s e = ap (λ (p : ℕ). cond (eqb p 63) Wide Narrow) e ∙ back f
  where
    back : (g : Form) → cond (eqb (spare_pattern_of g) 63) Wide Narrow ≡ g
    back Narrow = refl
    back Wide = refl

pub form-narrow : (s : List ℕ) → (book_spare_in s ≡ 63 → ⊥) → book_form_in s ≡ Narrow
unfolding book_form_in
form-narrow s h = rw (ne_eqb (book_spare_in s) 63 h)

-- the bytes s are the file of a book in the form f: what each reader finds in them
pub record Filed (f : Form) (cs : List Contract) (s : List ℕ) : Type 0 where
  pub size : length s ≡ book_bytes_of f (length cs)
  pub bytes : Below 8 s
  pub count : contract_count_in s ≡ length cs
  pub spare : book_spare_in s ≡ spare_pattern_of f
  pub form : book_form_in s ≡ f
  pub contracts : book_in s ≡ cs

filed : (f : Form) (cs : List Contract) (s : List ℕ) → Packed (end_width f) (record_bytes f) (spare_pattern_of f) cs s → Filed f cs s
unfolding contract_in
filed f cs s p =
    record { size = p.size; bytes = p.bytes; count = p.count; spare = p.spare; form = form; contracts = ap (λ (g : Form). contracts_in (end_width g) s) form ∙ p.contracts }
  where
    form : book_form_in s ≡ f
    form = form-is f s p.spare

-- WRITTEN, THEN READ, in either form: the form and the contracts come back
pub book-written : (f : Form) (cs : List Contract) → length cs < 2 ^ 10 → Each (ContractFits (end_width f)) cs → Filed f cs (book_file f cs)
unfolding book_file
book-written f cs few each = filed f cs (book_file f cs) (packed-written (end_width f) (record_bytes f) (spare_pattern_of f) (whole-bytes f) cs few (pattern_fits f) each)

-- READ, THEN WRITTEN, in the form that the bytes say: the same bytes
pub book-read : (s : List ℕ) → Below 8 s → length s ≡ book_bytes_of (book_form_in s) (contract_count_in s) → book_spare_in s ≡ spare_pattern_of (book_form_in s)
    → book_file (book_form_in s) (book_in s) ≡ s
unfolding book_file contract_in
book-read s = let f = book_form_in s in packed-read (end_width f) (record_bytes f) (spare_pattern_of f) (whole-bytes f) s

-- ---- what is read, in whatever form

pub length-book_in : (s : List ℕ) → length (book_in s) ≡ contract_count_in s
length-book_in s = length-list_to (contract_count_in s) (contract_at s)

pub contract-in_fits : (f : Form) (s : List ℕ) (i : ℕ) → ContractFits (end_width f) (contract_in f s i)
unfolding contract_in
contract-in_fits f s i = contract-fits (end_width f) s (16 + contract_bits (end_width f) * i)

pub book-fits : (s : List ℕ) → Each (ContractFits (end_width (book_form_in s))) (book_in s)
book-fits s = each-list_to (ContractFits (end_width (book_form_in s))) (contract_count_in s) (contract_at s) (λ i b. contract-in_fits (book_form_in s) s i)

-- what fits the narrow form fits the wide one
pub fits_wider : (cs : List Contract) → Each (ContractFits 8) cs → Each (ContractFits 12) cs
fits_wider [] h = tt
fits_wider (c ∷ cs) h =
    let t = h.0 in
    (record { holder-fits = t.holder-fits; source_fits = omega (arith, t.source_fits); sink-fits = omega (arith, t.sink-fits); quantity-fits = t.quantity-fits }, fits_wider cs h.1)

-- contract i has its bytes where all m have theirs
pub record_room : (f : Form) (i m size : ℕ) → i < m → book_bytes_of f m ≤ size → book_bytes_of f i + record_bytes f ≤ size
record_room Narrow i m size h room = omega arith
record_room Wide i m size h room = omega arith

pub book-bytes_least : (f : Form) (m size : ℕ) → book_bytes_of f m ≤ size → 2 ≤ size
book-bytes_least Narrow m size h = omega arith
book-bytes_least Wide m size h = omega arith

-- the longest book has 7,002 bytes
pub book-bytes_most : (f : Form) (m : ℕ) → m ≤ max_contracts → book_bytes_of f m ≤ 7002
book-bytes_most Narrow m h = omega arith
book-bytes_most Wide m h = omega arith

-- ---- ends: "a narrow book's writer refuses an end above 255"

pub ends-fewer : (f : Form) (n : ℕ) → ends_below_of f n ≤ n
ends-fewer Narrow n = omega arith
ends-fewer Wide n = omega arith

-- an end that its field holds
pub end_below : (f : Form) (n x : ℕ) → x < n → x < 2 ^ end_width f → x < ends_below_of f n
end_below Narrow n x h fit = omega arith
end_below Wide n x h fit = h

pub end_fits : (f : Form) (n x : ℕ) → n ≤ max_nodes → x < ends_below_of f n → x < 2 ^ end_width f
end_fits Narrow n x few h = omega arith
end_fits Wide n x few h = omega arith

pub ends_some : (f : Form) (n : ℕ) → 0 < n → 0 < ends_below_of f n
ends_some Narrow n h = omega arith
ends_some Wide n h = h
