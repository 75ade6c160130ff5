-- A holder never refuses: the own checks of two files that differ in holders alone.
use mathlib.Core.Path.{◌≡◌, refl, ap, sym, ◌∙◌}
use mathlib.Core.Bool.{Bool, true, false, cond, not}
use mathlib.Core.List.{List, ◌∷◌}
use Prim.Native.Nat.{ℕ, ◌<◌}
use native.Mathlib.Omega.{arith}
use lib.Dec.{ltb, eqb}
use lib.ListN.{length}
use Rattle.std.specs.Prelude.{Err}
use Rattle.tariff.specs.declared.refusals.Refusal.TheVariants.{ShortFile, FileLength}
use Rattle.tariff.specs.declared.contracts.Contract.{Contract}
use Rattle.tariff.specs.Refusals.{Check, first}
use Rattle.tariff.specs.Checks.{node_count, contract_count}
use Rattle.tariff.proofs.Checks.{same_of}
use Rattle.layouts.specs.declared.forms.Form.{Form}
use Rattle.layouts.specs.declared.forms.Form.TheVariants.{Narrow, Wide}
use Rattle.layouts.specs.Files.{spare_other}
use Rattle.layouts.specs.Forms.{spare_pattern_of}
use Rattle.layouts.specs.BookFile.{book_bytes_of, contract_count_in, book_spare_in, book_form_in, contract_in, contract_at}
use Rattle.layouts.proofs.BookFile.{record_room}
use Rattle.book_rules.specs.BookChecks.{checks_to, contract_checks, book_checks, own_checks}
use Rattle.book_rules.proofs.Checking.{checks_same}
use Rattle.view_rules.specs.Views.{anonymous}
use Rattle.view_rules.specs.Theorems.{SameButHolder, OnlyHoldersDiffer}

-- after a check that fails the rest is free
first_rest : (c : Check) (xs ys : List Check) → (c.fails ≡ false → first xs ≡ first ys) → first (c ∷ xs) ≡ first (c ∷ ys)
unfolding first
first_rest c xs ys h = by c.fails h
  where
    by : (b : Bool) → (b ≡ false → first xs ≡ first ys) → cond b (Err c.refusal) (first xs) ≡ cond b (Err c.refusal) (first ys)
    by true h = refl
    by false h = h refl

-- ---- the header's checks, by the numbers that they look at: the length l, the count m, the spare bits p

form_by : ℕ → Form
form_by p = cond (eqb p 63) Wide Narrow

front : ℕ → ℕ → ℕ → ℕ → List Check → List Check
front n l m p rest =
    node_count n ∷ record { fails = ltb l 2; refusal = ShortFile } ∷ contract_count m ∷ spare_other (spare_pattern_of (form_by p)) p
    ∷ record { fails = not (eqb l (book_bytes_of (form_by p) m)); refusal = FileLength } ∷ rest

front_rest : (n l m p : ℕ) (xs ys : List Check) → (l ≡ book_bytes_of (form_by p) m → first xs ≡ first ys) → first (front n l m p xs) ≡ first (front n l m p ys)
unfolding front
front_rest n l m p xs ys h =
    first_rest _ _ _ (λ a. first_rest _ _ _ (λ b. first_rest _ _ _ (λ c. first_rest _ _ _ (λ d. first_rest _ _ _ (λ e. h (same_of l (book_bytes_of (form_by p) m) e))))))

-- the checks of the contracts, read in the form f
contracts_checks : ℕ → ℕ → Form → List ℕ → List Check
contracts_checks n m f s = checks_to m (λ i. contract_checks n (contract_in f s i))

own_front : (n : ℕ) (s : List ℕ) → own_checks n s ≡ front n (length s) (contract_count_in s) (book_spare_in s) (contracts_checks n (contract_count_in s) (form_by (book_spare_in s)) s)
unfolding own_checks book_checks front form_by book_form_in contracts_checks
own_front n s = refl

form-by : (s : List ℕ) → book_form_in s ≡ form_by (book_spare_in s)
unfolding form_by book_form_in
form-by s = refl

-- contracts that are the same but for the holder are the same without it
pub anonymous-alike : (c d : Contract) → SameButHolder c d → anonymous c ≡ anonymous d
unfolding anonymous
anonymous-alike c d e =
    λ k. record { kind = e.same_kind k; period = e.same_period_lem k; holder = 0; source = e.same_source k; sink = e.same_sink k; quantity = e.same_quantity k }

checks_anonymous : (n : ℕ) (c : Contract) → contract_checks n c ≡ contract_checks n (anonymous c)
unfolding contract_checks anonymous
checks_anonymous n c = refl

-- ---- two files

module _ (s t : List ℕ) (d : OnlyHoldersDiffer s t) where
  pub same_form : book_form_in s ≡ book_form_in t
  same_form = form-by s ∙ ap form_by d.same_spare ∙ sym (form-by t)

  -- a contract below the count of a file as long as its form says lies whole in it
  pub same_contract : (i : ℕ) → i < contract_count_in s → length s ≡ book_bytes_of (book_form_in s) (contract_count_in s) → anonymous (contract_at s i) ≡ anonymous (contract_in (book_form_in s) t i)
  same_contract i h e = anonymous-alike _ _ (d.same_else i h (record_room (book_form_in s) i (contract_count_in s) (length s) h (omega (arith, e))))

  checks_alike : (n i : ℕ) → i < contract_count_in s → length s ≡ book_bytes_of (book_form_in s) (contract_count_in s) → contract_checks n (contract_at s i) ≡ contract_checks n (contract_in (book_form_in s) t i)
  checks_alike n i h e = checks_anonymous n _ ∙ ap (contract_checks n) (same_contract i h e) ∙ sym (checks_anonymous n _)

  contracts-alike : (n : ℕ) → length s ≡ book_bytes_of (form_by (book_spare_in s)) (contract_count_in s)
      → contracts_checks n (contract_count_in s) (form_by (book_spare_in s)) s ≡ contracts_checks n (contract_count_in s) (form_by (book_spare_in s)) t
  unfolding contracts_checks form_by book_form_in
  contracts-alike n e = checks_same (contract_count_in s) _ _ (λ i h. checks_alike n i h e)

  pub own_alike : (n : ℕ) → first (own_checks n s) ≡ first (own_checks n t)
  own_alike n =
      ap first (own_front n s)
      ∙ front_rest n (length s) (contract_count_in s) (book_spare_in s) _ _ (λ e. ap first (contracts-alike n e))
      ∙ (λ k. first (front n (d.same_length k) (d.same_count k) (d.same_spare k) (contracts_checks n (d.same_count k) (form_by (d.same_spare k)) t)))
      ∙ ap first (sym (own_front n t))
