-- THE THEOREM of paper 12: the rows that the definition gives are what the paper says, for every grid, process, period and book.
use mathlib.Core.Path.{◌≡◌, refl, sym, ap, ◌∙◌}
use mathlib.Core.Logic.{◌↔◌}
use mathlib.Core.Bool.{Bool, true, false, ◌&&◌, true≢false}
use mathlib.Core.List.{List, []}
use Prim.Native.Nat.{ℕ, ◌<◌, ◌≤◌}
use native.Mathlib.Omega.{arith}
use borrow.Author.Tests.{leb-true, le-leb}
use lib.Dec.{leb}
use lib.ListN.{length}
use lib.IntN.{ℤ, pos, ◌*ℤ◌, zero-*ℤ}
use Rattle.lists.specs.Lists.{any_of, Each}
use Rattle.lists.proofs.Search.{both}
use Rattle.tariff.specs.declared.contracts.Contract.{Contract}
use Rattle.tariff.specs.declared.contracts.Period.{Period}
use Rattle.tariff.specs.declared.processes.Process.{Process}
use Rattle.tariff.specs.Units.{Grid}
use Rattle.tariff.specs.ContractRules.{same_period}
use Rattle.tariff.proofs.Periods.{same_is}
use Rattle.cut_rules.specs.Cuts.{nth_contract, quantity_of, CutRow, precedes, in_order_of, passing, least_cut, has_cut, row_of, cut_rows_to, least_cuts}
use Rattle.cut_rules.specs.Theorems.{Absent, cut_row_at, BookPasses, CutPasses, IsLeastCut, LeastCuts}
use Rattle.cut_rules.proofs.Needs.{is_false}
use Rattle.cut_rules.proofs.Flows.{cut_out}
use Rattle.cut_rules.proofs.Cuts.{passing-is, least-clears, smaller_fails, least-most, idle, least-positive}
use Rattle.cut_rules.proofs.Rows.{is, each-in_order, any_of_in_order, in_order-at, each_row, numbers-rise, row-there}

module _ (g : Grid) (process : Process) (period : Period) (cs : List Contract) where
  abbrev listed : List CutRow
  listed = least_cuts g process period cs

  abbrev own : List CutRow
  own = cut_rows_to g process period cs (length cs)

  -- a book that fails, and one that passes
  fails-false : (BookPasses g process period cs → ⊥) → passing g process period cs ≡ false
  fails-false out = is_false (passing g process period cs) (λ h. out ((passing-is g process period cs).0 h))

  pub failing-rows : passing g process period cs ≡ false → listed ≡ in_order_of own
  unfolding least_cuts
  failing-rows e = rw e

  pub passing-rows : passing g process period cs ≡ true → listed ≡ []
  unfolding least_cuts
  passing-rows e = rw e

  module _ (out : BookPasses g process period cs → ⊥) where
    row-least : (i : ℕ) → i < length cs → has_cut g process period cs i ≡ true → IsLeastCut g process period cs (row_of g process period cs i)
    unfolding has_cut
    row-least i b h =
        let r = both (same_period (nth_contract cs i).period period) (leb (least_cut g process period cs i) (quantity_of cs i)) h in
        let most = leb-true (least_cut g process period cs i) (quantity_of cs i) r.1 in
        record {
          in_book = b;
          of-period = same_is (nth_contract cs i).period period r.0;
          some_cut = least-positive g process period cs i out;
          at-most_all = most;
          clears-book = least-clears g process period cs i most;
          none-smaller = smaller_fails g process period cs i;
        }

    -- a contract that a cut of it clears has a row
    found : (i t : ℕ) → t ≤ quantity_of cs i → CutPasses g process period cs i t → has_cut g process period cs i ≡ true
    unfolding has_cut
    found i t b p = by (same_period (nth_contract cs i).period period) refl
      where
        least : leb (least_cut g process period cs i) (quantity_of cs i) ≡ true
        least = le-leb (least_cut g process period cs i) (quantity_of cs i) (omega (arith, least-most g process period cs i t p))

        by : (s : Bool) → same_period (nth_contract cs i).period period ≡ s → (s && leb (least_cut g process period cs i) (quantity_of cs i)) ≡ true
        by true e = least
        by false e = absurd (out (idle g process period cs i t b (λ k. ap (λ (z : ℤ). z *ℤ pos t) (cut_out g.factors period (nth_contract cs i) 1 k e) ∙ zero-*ℤ (pos t)) p))

    absent_is : (i : ℕ) → i < length cs → any_of (is i) listed ≡ has_cut g process period cs i
    absent_is i b = ap (any_of (is i)) (failing-rows (fails-false out)) ∙ any_of_in_order (is i) own ∙ row-there g process period cs i (length cs) b

    absent : (i : ℕ) → i < length cs → Absent i listed ↔ ((t : ℕ) → t ≤ quantity_of cs i → CutPasses g process period cs i t → ⊥)
    absent i b = (
      λ a t q p. true≢false (sym (found i t q p) ∙ sym (absent_is i b) ∙ a),
      λ none. absent_is i b ∙ is_false (has_cut g process period cs i) (λ h. let r = row-least i b h in none (least_cut g process period cs i) r.at-most_all r.clears-book),
    )

    each : Each (IsLeastCut g process period cs) listed
    each = rw (failing-rows (fails-false out)) (each-in_order (IsLeastCut g process period cs) own (each_row g process period cs (IsLeastCut g process period cs) (length cs) row-least))

  in_order : (j k : ℕ) → j < k → k < length listed → precedes (cut_row_at listed j) (cut_row_at listed k) ≡ true
  in_order = by (passing g process period cs) refl
    where
      by : (b : Bool) → passing g process period cs ≡ b → (j k : ℕ) → j < k → k < length listed → precedes (cut_row_at listed j) (cut_row_at listed k) ≡ true
      by true e = rw (passing-rows e) (λ j k l h. absurd (omega arith))
      by false e = rw (failing-rows e) (in_order-at own (numbers-rise g process period cs (length cs)))

  pub least-cuts : LeastCuts g process period cs listed
  least-cuts = record {
    each-least = each;
    absent_exactly = absent;
    ordered = in_order;
    none-of_passing = λ p. passing-rows ((passing-is g process period cs).1 p);
  }
