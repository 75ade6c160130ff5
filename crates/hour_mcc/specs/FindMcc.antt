-- Finding the MCC of all nodes (document 01, "The rules" and "When input is turned down").
use Rattle.std.specs.Prelude.{◌≡◌, List, [], ◌∷◌, ℕ, length, take, ℤ, Ok, Err, Result, ⊤}
use Rattle.grid_tables.specs.TableChecks.{hour_tables_with}
use Rattle.lists.specs.Lists.{list_to}
use Rattle.tariff.specs.Refusals.{Checked}
use Rattle.tariff.specs.Units.{factors_of}
use Rattle.tariff.specs.Refusals.{Check, first, Outcome, given, refused_by, answered, cells_after, ForC}
use Rattle.tariff.specs.Checks.{short_table}
use Rattle.tariff.specs.Settlement.{mcc}
use Rattle.tariff.specs.declared.refusals.Refusal.{Refusal}

-- the counts, the tables, and the place for the answer as it is at entry
pub record FindMccCall : Type 0 where
  pub nodes : ℕ
  pub constraints : ℕ
  pub factors : List ℤ
  pub prices : List ℕ
  pub place : List ℤ

abbrev pub find_mcc_call : ℕ → ℕ → List ℤ → List ℕ → List ℤ → FindMccCall
find_mcc_call n k factors prices place = record { nodes = n; constraints = k; factors = factors; prices = prices; place = place }

-- what finding MCCs answers beside the cells: nothing, or the refusal
abbrev pub MccAnswer : Type 0
MccAnswer = Result ⊤ Refusal

-- cells alone are given
abbrev pub mcc_outcome : MccAnswer → Outcome
mcc_outcome (Ok _) = given []
mcc_outcome (Err r) = refused_by r

module _ (q : FindMccCall) where
  -- "2, 3, 9 (tables or the place for the answer), 7, 15"
  unfoldable pub find_mcc_checks : List Check
  find_mcc_checks = hour_tables_with [] (short_table (length q.place) q.nodes ∷ []) q.nodes q.constraints q.factors q.prices

  abbrev pub find_mcc_checked : Checked
  find_mcc_checked = first find_mcc_checks

  -- one cell for each node
  abbrev pub mcc_cells : List ℤ
  mcc_cells = list_to q.nodes (mcc (factors_of q.nodes q.constraints q.factors) (take q.constraints q.prices))

-- the promise: the answer, and the place at exit
pub record FindsMcc (q : FindMccCall) (answer : MccAnswer) (exit : List ℤ) : Type 0 where
  pub nothing_else : mcc_outcome answer ≡ answered (find_mcc_checked q) []
  pub mccs_found : exit ≡ cells_after (find_mcc_checked q) (mcc_cells q) q.place

-- the same for C
abbrev pub FindsMccForC : FindMccCall → ℕ → List ℤ → Type 0
FindsMccForC q number exit = ForC MccAnswer mcc_outcome (λ answer. FindsMcc q answer exit) number
