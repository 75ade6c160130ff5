-- What is known of tables and a book that the test's checks accept.
use mathlib.Core.Path.{◌≡◌, sym, ◌∙◌, subst}
use mathlib.Core.List.{List}
use Prim.Native.Nat.{ℕ}
use native.Mathlib.Omega.{arith}
use Rattle.tariff.specs.declared.refusals.Refusal.{Refusal}
use Rattle.tariff.specs.Refusals.{Checked, passed}
use Rattle.std.specs.Prelude.{Err}
use Rattle.tariff.specs.declared.processes.Process.{Process}
use Rattle.tariff.specs.Refusals.{Check, first}
use Rattle.tariff.proofs.Checks.{first-append, passed_append}
use Rattle.tariff.proofs.Answers.{answer-refused, answer-passed}
use Rattle.grid_tables.specs.TableChecks.{grid_table_checks}
use Rattle.grid_tables.proofs.Passing.{GridTables, grid-tables}
use Rattle.book_rules.specs.BookChecks.{book_checks}
use Rattle.test_rules.specs.TestBook.{TestAnswer}
use Rattle.test_rules.specs.TestBook.{TestCall, test_checks, test_checked, tested_grid, tested_process, tested_contracts, TestsBook}
use Rattle.test_rules.specs.Inner.{Judges}

abbrev table_checks : TestCall → List Check
table_checks q = grid_table_checks q.nodes q.constraints q.process q.period q.limits q.factors

-- the tables', then the book's own: x is what the tables' checks found
module _ (q : TestCall) where
  module _ (x : Checked) (found : x ≡ first (table_checks q)) where
    pub table-refuses : (r : Refusal) → x ≡ Err r → Err r ≡ test_checked q
    unfolding test_checks
    table-refuses r told = sym (first-append (table_checks q) (book_checks q.nodes q.book) ∙ rw (← found, told))

    pub then_book : x ≡ passed → first (book_checks q.nodes q.book) ≡ test_checked q
    unfolding test_checks
    then_book told = sym (first-append (table_checks q) (book_checks q.nodes q.book) ∙ rw (← found, told))

  -- what none of the test's checks refuses
  pub record Tested : Type 0 where
    pub tables : GridTables q.nodes q.constraints q.process q.period q.limits q.factors
    pub book : first (book_checks q.nodes q.book) ≡ passed

  pub tested : test_checked q ≡ passed → Tested
  unfolding test_checks
  tested e =
      let both = passed_append (table_checks q) (book_checks q.nodes q.book) e in
      record { tables = grid-tables q.nodes q.constraints q.process q.period q.limits q.factors both.0; book = both.1 }

-- what refuses does not pass
refused_passed : (x checked : Checked) (r : Refusal) → x ≡ checked → x ≡ Err r → checked ≡ passed → ⊥
refused_passed x checked r found told passed = let z : ◌≡◌ {A = ℕ} 0 1 = cc in omega arith

-- the test's answer, by what its checks found
module _ (q : TestCall) (x : Checked) (found : x ≡ test_checked q) where
  pub refusal-answers : (r : Refusal) → x ≡ Err r → TestsBook q (Err r)
  refusal-answers r told = record { figures = answer-refused x _ found r told _; demand3 = λ p. absurd (refused_passed x _ r found told p) }

  pub verdict_answers : x ≡ passed → (process : Process) → process ≡ tested_process q → (a : TestAnswer) → Judges (tested_grid q) process (tested_contracts q) a → TestsBook q a
  verdict_answers told process is a judged =
      let by = subst (λ (p : Process). Judges (tested_grid q) p (tested_contracts q) a) is judged in
      record { figures = by.figures ∙ answer-passed x _ found told _; demand3 = λ p. by.demand3 }
