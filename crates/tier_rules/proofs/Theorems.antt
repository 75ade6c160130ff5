-- THE THEOREMS of the running test over the definitions (document 02, paper 4), each for every grid, period and process. Statements only: the proofs are in
-- States.antt, Runs.antt and Books.antt.
use mathlib.Core.Path.{◌≡◌}
use mathlib.Core.Logic.{◌≢◌}
use mathlib.Core.Bool.{false}
use mathlib.Core.List.{List, []}
use mathlib.Core.Option.{none, some}
use Prim.Native.Nat.{ℕ, ◌≤◌, ◌<◌}
use lib.ListN.{length}
use lib.IntN.{ℤ, pos}
use Rattle.lists.specs.Lists.{Each}
use Rattle.tariff.specs.declared.contracts.Contract.{Contract}
use Rattle.tariff.specs.declared.contracts.Period.{Period}
use Rattle.tariff.specs.declared.processes.Process.{Process}
use Rattle.std.specs.Prelude.{Ok}
use Rattle.tariff.specs.Refusals.{passed}
use Rattle.tariff.specs.Units.{Grid, grid_of}
use Rattle.tariff.specs.ContractRules.{same_period, period_of, of_period}
use Rattle.tariff.specs.Processes.{process_of}
use Rattle.tariff.specs.Refusals.{first}
use Rattle.tariff.specs.Shortfall.{IsWorst}
use Rattle.layouts.specs.declared.forms.Form.TheVariants.{Narrow, Wide}
use Rattle.layouts.specs.BookFile.{book_file}
use Rattle.layouts.specs.BookTable.{row_at}
use Rattle.grid_tables.specs.TableChecks.{grid_table_checks}
use Rattle.test_rules.specs.TestBook.{test_call, test_values}
use Rattle.tier_rules.specs.Tiers.{Tiers, opened, with_award, marked, returned, Reached}
use Rattle.tier_rules.specs.Checks.{tier_number, award_over, add_checks}
use Rattle.tier_rules.specs.Runs.{Operation, marking, returning, step, states}
use Rattle.tier_rules.specs.Theorems.{EndsFit, HeldBook}
use Rattle.tier_rules.proofs.States as S
use Rattle.tier_rules.proofs.Runs as R
use Rattle.tier_rules.proofs.Books as B

-- ---- marks

-- "Marking again moves the mark", and no other
pub marking-sets : (s : Tiers) (i : ℕ) → (marked i s).mark i ≡ some (length s.awards)
marking-sets s i = S.marking-sets i s

pub marking-leaves : (s : Tiers) (i j : ℕ) → j ≢ i → (marked i s).mark j ≡ s.mark j
marking-leaves s i j ne = S.marking-leaves i j s ne

-- "Returning drops .. marks made when more awards were held", and no other: one made at the same number stays
pub returning-keeps : (s : Tiers) (m j x : ℕ) → s.mark j ≡ some x → x ≤ m → (returned m s).mark j ≡ some x
returning-keeps s m j x e h = rw e (S.kept-stays m x h)

pub returning-drops : (s : Tiers) (m j x : ℕ) → s.mark j ≡ some x → m < x → (returned m s).mark j ≡ none
returning-drops s m j x e h = rw e (S.kept-drops m x h)

module _ (g : Grid) (process : Process) (t : Period) where
  -- ---- each state reached

  pub opened-reached : Reached g process t opened
  opened-reached = S.opened-reached g process t

  pub added-reached : (s : Tiers) → Reached g process t s → (award : List ℕ) → first (add_checks g process t s award) ≡ passed
      → Reached g process t (with_award (row_at award 0) s)
  added-reached = R.added-reached g process t

  pub marked-reached : (s : Tiers) → Reached g process t s → (i : ℕ) → Reached g process t (marked i s)
  marked-reached = S.marked-reached g process t

  -- for every m, so for the number of a mark
  pub returned-reached : (s : Tiers) → Reached g process t s → (m : ℕ) → Reached g process t (returned m s)
  returned-reached = S.returned-reached g process t

  -- a run of operations from the opening, refused ones among them, has only states that are reached
  pub any-run : (ops : List Operation) → Each (Reached g process t) (states g process t opened ops)
  any-run ops = R.run_reached g process t opened ops (S.opened-reached g process t)

  -- ---- what holds of each

  -- "the verdict is always pass and the shortfall guarantee covers each state reached"
  pub reached-guarantee : (s : Tiers) → Reached g process t s → IsWorst g process (of_period t s.awards) (pos 0) × (test_values g process (of_period t s.awards) ≡ [])
  reached-guarantee s r = (S.reached-worst g process t s r, S.reached-values g process t s r)

  -- "An award of the other period .. adds no flow"
  pub other_period_never_21 : (s : Tiers) → Reached g process t s → (c : Contract) → same_period c.period t ≡ false
      → (award_over g process t s.awards c).fails ≡ false
  other_period_never_21 = S.other_period_never_21 g process t

  -- marking a tier and returning to it at once leaves the awards and every other mark
  pub mark-then_return : (s : Tiers) → Reached g process t s → (i : ℕ) → (tier_number i).fails ≡ false
      → step g process t (step g process t s (marking i)) (returning i) ≡ marked i s
  mark-then_return = R.mark-then_return g process t

-- ---- the awards held are a book: written in either form it is accepted, reads back, and passes

module _ (n k process period : ℕ) (limits : List ℕ) (factors : List ℤ) (tables : first (grid_table_checks n k process period limits factors) ≡ passed) (s : Tiers)
    (r : Reached (grid_of n k limits factors) (process_of process) (period_of period) s) where
  pub held_is_a_wide_book : HeldBook (test_call n k process period limits factors (book_file Wide s.awards)) s.awards
  held_is_a_wide_book = B.held_book n k process period limits factors tables s r Wide (B.wide-ends n s.awards r.each)

  -- where no end is above 255
  pub held_is_a_narrow_book : Each (EndsFit Narrow n) s.awards → HeldBook (test_call n k process period limits factors (book_file Narrow s.awards)) s.awards
  held_is_a_narrow_book = B.held_book n k process period limits factors tables s r Narrow
