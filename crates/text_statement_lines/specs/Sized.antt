-- Figures that fit their places in the lines: of one contract, and of a book's contracts, by a table of cents and one of sets.
use Rattle.std.specs.Prelude.{List, ℕ, ◌≤◌, ◌<◌, length, get_or, ℤ, pos, nat_abs}
use Rattle.std.specs.Int.Count.{ones}
use Rattle.tariff.specs.Units.{max_constraints, max_contracts, max_holder}
use Rattle.tariff.specs.Inner.{max_cents}

pub record SizedLine (number holder : ℕ) (cents : ℤ) (priced : ℕ) : Type 0 where
  pub number-few : number < max_contracts
  pub holder-fits : holder ≤ max_holder
  pub cents-sized : nat_abs cents ≤ max_cents
  pub priced-few : priced ≤ max_constraints

pub record SizedCells (m : ℕ) (cells : List ℤ) (sets : List ℕ) : Type 0 where
  pub few : m ≤ max_contracts
  pub cells-long : m ≤ length cells
  pub sets-long : m ≤ length sets
  pub cells-sized : (i : ℕ) → i < m → nat_abs (get_or cells i (pos 0)) ≤ max_cents
  pub sets-sized : (i : ℕ) → i < m → ones (get_or sets i 0) ≤ max_constraints
