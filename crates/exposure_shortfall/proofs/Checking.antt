-- The checks of finding the shortfall: in parts, against the test's, and what holds where none refuses.
use mathlib.Core.Path.{◌≡◌, refl, sym, ◌∙◌}
use mathlib.Core.Bool.{false}
use mathlib.Core.List.{List, [], ◌∷◌}
use Prim.Native.Nat.{ℕ, ◌≤◌}
use borrow.Author.Tests.{ltb-false, le-ltb}
use lib.ListN.{length, take}
use Rattle.lists.specs.Lists.{Each, any_of}
use Rattle.tariff.specs.declared.refusals.Refusal.{Refusal}
use Rattle.tariff.specs.Refusals.{Checked, passed}
use Rattle.std.specs.Prelude.{Err}
use Rattle.tariff.specs.Units.{max_price}
use Rattle.tariff.specs.Refusals.{Check, first}
use Rattle.tariff.specs.Checks.{node_count, constraint_count, process_number, period_number, price_bad}
use Rattle.tariff.proofs.Checks.{first_passes, append_refuses, append_passes}
use Rattle.grid_tables.specs.TableChecks.{grid_table_checks}
use Rattle.grid_tables.specs.Inner.{GoodCells}
use Rattle.grid_tables.proofs.Passing.{passed_all}
use Rattle.grid_tables.proofs.Cells.{good-cells}
use Rattle.book_rules.specs.BookChecks.{book_checks}
use Rattle.test_rules.specs.TestBook.{TestCall, test_checks, test_checked}
use Rattle.test_rules.proofs.Checking.{Tested, tested}
use Rattle.exposure_shortfall.specs.FindShortfall.{shortfall_checks, shortfall_checked}
use Rattle.exposure_shortfall.specs.Inner.{table_checks}

-- no condition holds: none refuses
all_pass : (cs : List Check) → Each (λ (c : Check). c.fails ≡ false) cs → first cs ≡ passed
unfolding first
all_pass [] h = refl
all_pass (c ∷ cs) h = first_passes c cs h.0 ∙ all_pass cs h.1

-- the counts and numbers pass
pub record Counted (n k process period : ℕ) : Type 0 where
  pub two : (node_count n).fails ≡ false
  pub three : (constraint_count k).fails ≡ false
  pub sixteen : (process_number process).fails ≡ false
  pub seventeen : (period_number period).fails ≡ false

pub then_cells : (n k process period : ℕ) → Counted n k process period → (rest : List Check)
    → first (node_count n ∷ constraint_count k ∷ process_number process ∷ period_number period ∷ rest) ≡ first rest
then_cells n k process period c rest = first_passes _ _ c.two ∙ first_passes _ _ c.three ∙ first_passes _ _ c.sixteen ∙ first_passes _ _ c.seventeen

module _ (q : TestCall) (prices : List ℕ) where
  abbrev tables : List Check
  tables = table_checks q.nodes q.constraints q.process q.period q.limits q.factors prices

  -- x is what the tables' checks found
  module _ (x : Checked) (found : x ≡ first tables) where
    pub tables-refuse : (r : Refusal) → x ≡ Err r → Err r ≡ shortfall_checked q prices
    unfolding shortfall_checks
    tables-refuse r told = sym (append_refuses tables (book_checks q.nodes q.book) r (sym found ∙ told))

    pub then_book : x ≡ passed → first (book_checks q.nodes q.book) ≡ shortfall_checked q prices
    unfolding shortfall_checks
    then_book told = sym (append_passes tables (book_checks q.nodes q.book) (sym found ∙ told))

    -- y is what the book's own did
    pub both_pass : x ≡ passed → (y : Checked) → y ≡ first (book_checks q.nodes q.book) → y ≡ passed → passed ≡ shortfall_checked q prices
    both_pass told y own pass = sym pass ∙ own ∙ then_book told

  -- what holds where none refuses
  pub record Asked : Type 0 where
    pub test-passes : test_checked q ≡ passed
    pub as_tested : Tested q
    pub good-prices : GoodCells max_price q.constraints prices

  pub asked : shortfall_checked q prices ≡ passed → Asked
  unfolding shortfall_checks test_checks grid_table_checks
  asked e =
      let two = passed_all _ e in
      let sixteen = two.1.1 in
      let limits = sixteen.1.1 in
      let short = limits.1.1 in
      let six = short.1 in
      let fifteen = six.1.1 in
      let t : test_checked q ≡ passed = all_pass (test_checks q)
      (two.0, (two.1.0, (sixteen.0, (sixteen.1.0, (limits.0, (limits.1.0, (six.0, (six.1.0, fifteen.1)))))))) in
      record {
        test-passes = t;
        as_tested = tested q t;
        good-prices = good-cells max_price q.constraints prices
            (ltb-false (length prices) q.constraints short.0) fifteen.0;
      }

  -- the test's checks and good prices
  pub passes-with : test_checked q ≡ passed → q.constraints ≤ length prices → any_of price_bad (take q.constraints prices) ≡ false
      → shortfall_checked q prices ≡ passed
  unfolding shortfall_checks test_checks grid_table_checks
  passes-with e room sized =
      let two = passed_all (test_checks q) e in
      let sixteen = two.1.1 in
      let limits = sixteen.1.1 in
      let six = limits.1.1 in
      all_pass (shortfall_checks q prices) (
        two.0,
        (
          two.1.0,
          (
            sixteen.0,
            (
              sixteen.1.0,
              (limits.0, (limits.1.0, (le-ltb (length prices) q.constraints room, (six.0, (six.1.0, (sized, six.1.1)))))),
            ),
          ),
        ),
      )
