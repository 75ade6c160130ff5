-- The checks of adding a hub contract, one part after the other.
use mathlib.Core.Path.{◌≡◌, sym, ◌∙◌}
use mathlib.Core.Bool.{true, false}
use mathlib.Core.List.{List, [], ◌∷◌}
use Prim.Native.Nat.{ℕ, ◌≤◌, ◌<◌}
use borrow.Author.Tests.{lt-ltb, le-ltb, le-leb, lt-leb}
use Rattle.lists.specs.Lists.{any_of}
use Rattle.tariff.specs.declared.refusals.Refusal.{Refusal}
use Rattle.tariff.specs.declared.refusals.Refusal.TheVariants.{PeriodOrKind, HolderRange, NodeNumber}
use Rattle.std.specs.Prelude.{Err}
use Rattle.tariff.specs.Refusals.{passed}
use Rattle.tariff.specs.Refusals.{Check, first}
use Rattle.tariff.specs.Checks.{kind_and_period, quantity_range, listed_nodes}
use Rattle.tariff.specs.Units.{max_holder}
use Rattle.tariff.proofs.Checks.{first_passes, first-refuses, append_refuses, append_passes}
use Rattle.layouts.specs.Forms.{ends_below_of}
use Rattle.layouts.specs.BookFile.{book_form_in}
use Rattle.book_rules.specs.BookChecks.{own_checks}
use Rattle.hub_rules.specs.Hubs.{hub_shape, hub_twice}
use Rattle.hub_book.specs.declared.Terms.{Terms}
use Rattle.hub_book.specs.Inner.{term_checks, given_checks}

-- ---- the terms

module _ (below : ℕ) (t : Terms) (ns : List ℕ) (q : ℕ) where
  pub kind-refused : 1 < t.kind → Err PeriodOrKind ≡ first (term_checks below t ns q)
  unfolding term_checks
  kind-refused h = sym (first-refuses _ _ (rw (lt-ltb 1 t.kind h)))

  module _ (k : t.kind ≤ 1) where
    pub period-refused : 1 < t.period → Err PeriodOrKind ≡ first (term_checks below t ns q)
    unfolding term_checks
    period-refused h = sym (first-refuses _ _ (rw (le-ltb 1 t.kind k) (lt-ltb 1 t.period h)))

    module _ (p : t.period ≤ 1) where
      both : (kind_and_period t.kind t.period).fails ≡ false
      both = rw (le-ltb 1 t.kind k) (le-ltb 1 t.period p)

      pub holder-refused : max_holder < t.holder → Err HolderRange ≡ first (term_checks below t ns q)
      unfolding term_checks
      holder-refused h = sym (first_passes _ _ both ∙ first-refuses _ _ (lt-ltb max_holder t.holder h))

      module _ (held : t.holder ≤ max_holder) where
        pub nodes-refused : (listed_nodes below ns).fails ≡ true → Err NodeNumber ≡ first (term_checks below t ns q)
        unfolding term_checks
        nodes-refused h = sym (first_passes _ _ both ∙ first_passes _ _ (le-ltb max_holder t.holder held) ∙ first-refuses _ _ h)

        module _ (listed : (listed_nodes below ns).fails ≡ false) where
          pub sink-refused : below ≤ t.sink → Err NodeNumber ≡ first (term_checks below t ns q)
          unfolding term_checks any_of
          sink-refused h =
              sym (first_passes _ _ both ∙ first_passes _ _ (le-ltb max_holder t.holder held) ∙ first_passes _ _ listed ∙ first-refuses _ _ (rw (le-leb below t.sink h)))

          module _ (sunk : t.sink < below) where
            pub ends-good : first (term_checks below t ns q) ≡ first (quantity_range q ∷ [])
            unfolding term_checks any_of
            ends-good = first_passes _ _ both ∙ first_passes _ _ (le-ltb max_holder t.holder held) ∙ first_passes _ _ listed ∙ first_passes _ _ (rw (lt-leb below t.sink sunk))

-- ---- all that does not ask how many contracts are made

module _ (n : ℕ) (s : List ℕ) (t : Terms) (ns ws : List ℕ) (q : ℕ) where
  abbrev ends : ℕ
  ends = ends_below_of (book_form_in s) n

  abbrev shape : List Check
  shape = hub_shape ns ws ∷ hub_twice ns ∷ []

  pub own_refuses : (r : Refusal) → first (own_checks n s) ≡ Err r → first (given_checks n s t ns ws q) ≡ Err r
  unfolding given_checks
  own_refuses r e = append_refuses (own_checks n s) _ r e

  module _ (own : first (own_checks n s) ≡ passed) where
    pub terms_refuse : (r : Refusal) → first (term_checks ends t ns q) ≡ Err r → first (given_checks n s t ns ws q) ≡ Err r
    unfolding given_checks
    terms_refuse r e = append_passes (own_checks n s) _ own ∙ append_refuses (term_checks ends t ns q) shape r e

    pub shape-next : first (term_checks ends t ns q) ≡ passed → first (given_checks n s t ns ws q) ≡ first shape
    unfolding given_checks
    shape-next e = append_passes (own_checks n s) _ own ∙ append_passes (term_checks ends t ns q) shape e
