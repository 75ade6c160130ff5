-- Netting transfers: the square of document 02, paper 5, cell by cell, for those who want to see what a migration follows. It goes beyond the papers, which ask
-- for the square and for no operation that gives it.
use Rattle.std.specs.Prelude.{◌≡◌, ℕ, suc, ◌*◌, length, ℤ, Ok, Err, Result, ⊤}
use mathlib.Core.List.{List, [], ◌∷◌, ◌++◌, map, flat_map}
use Rattle.lists.specs.Lists.{list_to}
use Rattle.tariff.specs.Refusals.{Checked}
use Rattle.tariff.specs.Refusals.{Check, first, Outcome, given, refused_by, answered, cells_after, ForC}
use Rattle.tariff.specs.Checks.{short_table}
use Rattle.migration_rules.specs.Transfers.{MigrationRow, RowLists, migration_rows_in, net, migration_row_checks}
use Rattle.tariff.specs.declared.refusals.Refusal.{Refusal}

-- how many LSEs there are, the rows' lists, and the place for the square as it is at entry
pub record NetTransfersCall : Type 0 where
  pub entities : ℕ
  pub lists : RowLists
  pub place : List ℤ

abbrev pub net_transfers_call : ℕ → RowLists → List ℤ → NetTransfersCall
net_transfers_call n lists place = record { entities = n; lists = lists; place = place }

-- what netting answers beside the cells: nothing, or the refusal
abbrev pub NetsAnswer : Type 0
NetsAnswer = Result ⊤ Refusal

-- cells alone are given
abbrev pub nets_outcome : NetsAnswer → Outcome
nets_outcome (Ok _) = given []
nets_outcome (Err r) = refused_by r

-- "a square of up to 16 by 16 net amounts", row by row: what LSE 1 loses to each of the n LSEs, then what LSE 2 does, and so on; losses are above 0
abbrev pub square_cells : ℕ → List MigrationRow → List ℤ
square_cells n rows = flat_map (λ i. map (net rows i) (list_to n suc)) (list_to n suc)

module _ (q : NetTransfersCall) where
  -- 22 as migrating load has it, where there are no loads; then 9 for a place of fewer cells than the square
  unfoldable pub net_transfers_checks : List Check
  net_transfers_checks = migration_row_checks q.entities q.lists ++ short_table (length q.place) (q.entities * q.entities) ∷ []

  abbrev pub net_transfers_checked : Checked
  net_transfers_checked = first net_transfers_checks

  abbrev pub nets_given : List ℤ
  nets_given = square_cells q.entities (migration_rows_in q.lists)

-- the promise: the answer, and the place at exit
pub record NetsTransfers (q : NetTransfersCall) (answer : NetsAnswer) (exit : List ℤ) : Type 0 where
  pub nothing_else : nets_outcome answer ≡ answered (net_transfers_checked q) []
  pub nets-given : exit ≡ cells_after (net_transfers_checked q) (nets_given q) q.place

-- the same for C
abbrev pub NetsTransfersForC : NetTransfersCall → ℕ → List ℤ → Type 0
NetsTransfersForC q number exit = ForC NetsAnswer nets_outcome (λ answer. NetsTransfers q answer exit) number
