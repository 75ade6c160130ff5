-- A holder's rows: their bytes, their length, and that they are that holder's.
use mathlib.Core.Path.{◌≡◌, refl, ap, ap₂, sym, subst, ◌∙◌}
use mathlib.Core.Bool.{Bool, true, false, cond}
use mathlib.Core.List.{List, [], ◌∷◌, ◌++◌, flat_map}
use Prim.Native.Nat.{ℕ, zero, suc, ◌+◌, ◌-◌, ◌*◌, ◌/◌, ◌%◌, ◌^◌, ◌≤◌, ◌<◌}
use native.Mathlib.Nat.{mul-zero, mul-suc, add_assoc}
use native.Mathlib.Omega.{arith}
use borrow.Author.Tests.{eqb-true, eq-eqb, ne_eqb}
use lib.Dec.{eqb}
use lib.Pow.{high}
use lib.ListN.{length, take, drop, length-append, length-drop}
use lib.Seq.{length-take-le}
use Rattle.lists.specs.Lists.{Each}
use Rattle.lists.proofs.Lists.{each_append}
use Rattle.bits.specs.Bits.{number, digits, field}
use Rattle.bits.specs.Fields.{Field, bits, total_width, packed, file_of}
use Rattle.bits.specs.Inner.{Fit, HoldsFields}
use Rattle.bits.proofs.Numbers.{Below, digits_append, digits-high, below-take, below-drop}
use Rattle.bits.proofs.Fields.{field-window}
use Rattle.bits.proofs.Files.{packed_lt, length-file, holds-written}
use Rattle.tariff.specs.declared.contracts.Contract.{Contract}
use Rattle.tariff.specs.Refusals.{passed}
use Rattle.tariff.specs.Refusals.{first}
use Rattle.layouts.specs.declared.forms.Form.{Form}
use Rattle.layouts.specs.Forms.{end_width, record_bytes}
use Rattle.layouts.specs.BookFile.{contract_bits, contract_fields, contract_from, book_bytes_of, contract_count_in, book_form_in, contract_in, contract_at}
use Rattle.layouts.specs.BookTable.{ContractFits}
use Rattle.layouts.proofs.BookFile.{total-contract, fit_contract, whole-bytes, contract-holds, contract-in_fits}
use Rattle.book_rules.specs.BookChecks.{own_checks}
use Rattle.book_rules.specs.Inner.{contract_bytes}
use Rattle.book_rules.proofs.Accepted.{own_accepted, accepted-room}
use Rattle.view_rules.specs.Views.{Numbered, numbered, held_at, held_to, view_row}

-- ---- a row's bytes

-- a field of whole bytes before fields of whole bytes
file-cons : (v a b : ℕ) (fs : List Field) → Fit fs → total_width fs ≡ 8 * b → file_of (bits (8 * a) v ∷ fs) ≡ digits 8 a v ++ file_of fs
unfolding file_of
file-cons v a b fs fit end =
    let n : (8 * a + total_width fs) / 8 ≡ a + b = omega arith in
    let m : total_width fs / 8 ≡ b = omega arith in
    let lt : packed fs < 2 ^ (8 * b) = rw end at (packed_lt fs fit) in
    rw (n, m, end)
    (digits_append 8 a b (v * 2 ^ (8 * b) + packed fs)
    ∙ ap₂ (λ (l r : List ℕ). l ++ r) (ap (digits 8 a) (high v (8 * b) lt)) (digits-high 8 b b v (packed fs) (omega arith)))

pub row-bytes : (f : Form) (i : ℕ) (c : Contract) → ContractFits (end_width f) c → view_row f (numbered i c) ≡ digits 8 2 i ++ contract_bytes f c
unfolding view_row
row-bytes f i c fits = file-cons i 2 (record_bytes f) (contract_fields (end_width f) c) (fit_contract (end_width f) c fits) (total-contract (end_width f) c ∙ sym (whole-bytes f))

-- what stands in whole bytes of s stands in those bytes alone
module _ (s : List ℕ) (f c : ℕ) (b : Below 8 s) (le : f + c ≤ length s) where
  length-window : length (take c (drop f s)) ≡ c
  length-window = length-take-le c (drop f s) (omega (arith, length-drop f s))

  holds-window : (a : ℕ) (fs : List Field) → a + total_width fs ≤ 8 * c → HoldsFields s (8 * f + a) fs → HoldsFields (take c (drop f s)) a fs
  unfolding field
  holds-window a [] l h = tt
  holds-window a (x ∷ fs) l h = (
    ap (λ (m : ℕ). number 8 (take c (drop f s)) / 2 ^ (8 * m - (a + x.width)) % 2 ^ x.width) length-window
        ∙ ap (λ (m : ℕ). number 8 (take c (drop f s)) / 2 ^ m % 2 ^ x.width) {x = 8 * c - (a + x.width)} {y = 8 * (f + c) - (8 * f + a + x.width)} (omega arith)
        ∙ sym (field-window s (8 * f + a) x.width f c b (omega arith) (omega arith) le) ∙ h.0,
    holds-window (a + x.width) fs (omega arith) (rw (add_assoc (8 * f) a x.width) at h.1),
  )

-- over the width w of the ends, B bytes a contract
record_bytes_lem : (w B : ℕ) → 8 * B ≡ contract_bits w → (s : List ℕ) (i : ℕ) → Below 8 s → 2 + B * i + B ≤ length s
    → file_of (contract_fields w (contract_from w s (16 + contract_bits w * i))) ≡ take B (drop (2 + B * i) s)
record_bytes_lem w B whole s i below le =
    holds-written (take B (drop (2 + B * i) s)) fs (below-take 8 B _ (below-drop 8 (2 + B * i) s below))
    (size ∙ ap (λ (k : ℕ). 8 * k) (sym (length-window s (2 + B * i) B below le)))
    (holds-window s (2 + B * i) B below le 0 fs (omega (arith, size)) (subst (λ (o : ℕ). HoldsFields s o fs) begins (contract-holds w s (16 + contract_bits w * i))))
  where
    fs : List Field
    fs = contract_fields w (contract_from w s (16 + contract_bits w * i))

    size : total_width fs ≡ 8 * B
    size = total-contract w (contract_from w s (16 + contract_bits w * i)) ∙ sym whole

    begins : 16 + contract_bits w * i ≡ 8 * (2 + B * i) + 0
    begins = rw (← whole) (omega arith)

own_record : (f : Form) (s : List ℕ) (i : ℕ) → Below 8 s → book_bytes_of f i + record_bytes f ≤ length s → contract_bytes f (contract_in f s i) ≡ take (record_bytes f) (drop (book_bytes_of f i) s)
unfolding contract_in
own_record f s i = record_bytes_lem (end_width f) (record_bytes f) (whole-bytes f) s i

-- the row of contract i: its number's two bytes, then the bytes that it has in the file
pub own_row : (f : Form) (s : List ℕ) (i : ℕ) → Below 8 s → book_bytes_of f i + record_bytes f ≤ length s
    → view_row f (numbered i (contract_in f s i)) ≡ digits 8 2 i ++ take (record_bytes f) (drop (book_bytes_of f i) s)
own_row f s i below le = row-bytes f i (contract_in f s i) (contract-in_fits f s i) ∙ ap (λ (l : List ℕ). digits 8 2 i ++ l) (own_record f s i below le)

-- ---- how long

pub length-row : (f : Form) (r : Numbered) → length (view_row f r) ≡ 2 + record_bytes f
unfolding view_row
length-row f r = length-file (bits 16 r.number ∷ contract_fields (end_width f) r.contract) (2 + record_bytes f) (omega (arith, total-contract (end_width f) r.contract, whole-bytes f))

pub length-rows : (f : Form) (rs : List Numbered) → length (flat_map (view_row f) rs) ≡ (2 + record_bytes f) * length rs
unfolding flat_map
length-rows f [] = sym (mul-zero (2 + record_bytes f))
length-rows f (r ∷ rs) = length-append (view_row f r) (flat_map (view_row f) rs) ∙ omega (arith, length-row f r, length-rows f rs, mul-suc (2 + record_bytes f) (length rs))

-- ---- one contract

pub held_there : (h i : ℕ) (c : Contract) → c.holder ≡ h → held_at h i c ≡ numbered i c ∷ []
unfolding held_at
held_there h i c e = rw (eq-eqb c.holder h e)

pub not_held : (h i : ℕ) (c : Contract) → (c.holder ≡ h → ⊥) → held_at h i c ≡ []
unfolding held_at
not_held h i c ne = rw (ne_eqb c.holder h ne)

-- ---- a holder's contracts are that holder's alone

of-holder : (h i : ℕ) (c : Contract) → Each (λ (r : Numbered). r.contract.holder ≡ h) (held_at h i c)
unfolding held_at
of-holder h i c = by (eqb c.holder h) refl
  where
    by : (b : Bool) → eqb c.holder h ≡ b → Each (λ (r : Numbered). r.contract.holder ≡ h) (cond b (numbered i c ∷ []) [])
    by true q = (eqb-true c.holder h q, tt)
    by false q = tt

pub held_own : (h : ℕ) (g : ℕ → Contract) (m : ℕ) → Each (λ (r : Numbered). r.contract.holder ≡ h) (held_to h g m)
unfolding held_to
held_own h g zero = tt
held_own h g (suc m) = each_append (λ (r : Numbered). r.contract.holder ≡ h) (held_to h g m) _ (held_own h g m) (of-holder h m (g m))

-- ---- of an accepted book

pub own_row_accepted : (n : ℕ) (s : List ℕ) → Below 8 s → first (own_checks n s) ≡ passed → (i : ℕ) → i < contract_count_in s
    → view_row (book_form_in s) (numbered i (contract_at s i)) ≡ digits 8 2 i ++ take (record_bytes (book_form_in s)) (drop (book_bytes_of (book_form_in s) i) s)
own_row_accepted n s below ok i h = own_row (book_form_in s) s i below (accepted-room n s (own_accepted n s ok) (book_form_in s) refl i h).1
