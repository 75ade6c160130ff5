-- Finding the MCC of a hub (document 02, paper 7).
use Rattle.std.specs.Prelude.{◌≡◌, List, [], ◌∷◌, ◌++◌, ℕ, ◌<◌, take, ℤ, pos, ◌+ℤ◌, ◌*ℤ◌, Ok, Err, Result}
use Rattle.grid_tables.specs.TableChecks.{hour_tables_with}
use Rattle.lists.specs.Lent.{Lent, before, after}
use Rattle.tariff.specs.Refusals.{Checked, passed}
use Rattle.tariff.specs.declared.units.Mcc.{Mcc}
use Rattle.tariff.specs.Units.{Factors, factors_of, hub_weight}
use Rattle.tariff.specs.Refusals.{Check, first, Outcome, given, refused_by, answered, cell_after, number_after}
use Rattle.tariff.specs.Checks.{listed_nodes}
use Rattle.hub_rules.specs.Hubs.{hub_shape, hub_twice, hub_sum, hub_quotient, hub_remainder}
use Rattle.tariff.specs.declared.refusals.Refusal.{Refusal}
use Rattle.hub_mcc.specs.declared.HubMcc.{HubMcc}

-- the counts, the tables, and the hub: its nodes and the weights beside them
pub record FindHubMccCall : Type 0 where
  pub nodes : ℕ
  pub constraints : ℕ
  pub factors : List ℤ
  pub prices : List ℕ
  pub hub-nodes : List ℕ
  pub hub-weights : List ℕ

abbrev pub find_hub_mcc_call : ℕ → ℕ → List ℤ → List ℕ → List ℕ → List ℕ → FindHubMccCall
find_hub_mcc_call n k factors prices ns ws =
    record { nodes = n; constraints = k; factors = factors; prices = prices; hub-nodes = ns; hub-weights = ws }

-- a hub's MCC, or the refusal
abbrev pub HubMccAnswer : Type 0
HubMccAnswer = Result HubMcc Refusal

abbrev pub hub_mcc_found : Mcc → ℕ → HubMccAnswer
hub_mcc_found quotient remainder = Ok (record { quotient = quotient; remainder = remainder })

-- "quotient rounded down and remainder"
abbrev pub hub_mcc_outcome : HubMccAnswer → Outcome
hub_mcc_outcome (Ok found) = given (found.quotient.0 ∷ pos found.remainder ∷ [])
hub_mcc_outcome (Err r) = refused_by r

module _ (q : FindHubMccCall) where
  -- "it checks as for all nodes, then 11, 24, 25": 2, 3, 9 (tables; the two figures need no place), 7, 15 and these
  unfoldable pub find_hub_mcc_checks : List Check
  find_hub_mcc_checks =
      hour_tables_with [] [] q.nodes q.constraints q.factors q.prices
      ++ listed_nodes q.nodes q.hub-nodes
      ∷ hub_shape q.hub-nodes q.hub-weights
      ∷ hub_twice q.hub-nodes
      ∷ []

  abbrev pub find_hub_mcc_checked : Checked
  find_hub_mcc_checked = first find_hub_mcc_checks

  abbrev pub hub_factors : Factors
  hub_factors = factors_of q.nodes q.constraints q.factors

  abbrev pub hub_prices : List ℕ
  hub_prices = take q.constraints q.prices

  -- the figures given
  abbrev pub quotient_given : ℤ
  quotient_given = hub_quotient hub_factors hub_prices q.hub-nodes q.hub-weights

  abbrev pub remainder_given : ℕ
  remainder_given = hub_remainder hub_factors hub_prices q.hub-nodes q.hub-weights

  -- nothing is lost: quotient × 100,000 + remainder is the weighted sum, and the remainder is 0 to 99,999
  abbrev pub IsExact : ℤ → ℕ → Type 0
  IsExact quotient remainder =
      (quotient *ℤ pos hub_weight +ℤ pos remainder ≡ hub_sum hub_factors hub_prices q.hub-nodes q.hub-weights) × (remainder < hub_weight)

-- the promise: the answer, and that its figures are exact
pub record FindsHubMcc (q : FindHubMccCall) (answer : HubMccAnswer) : Type 0 where
  pub mcc-found : hub_mcc_outcome answer ≡ answered (find_hub_mcc_checked q) (quotient_given q ∷ pos (remainder_given q) ∷ [])
  pub exact : find_hub_mcc_checked q ≡ passed → (quotient : Mcc) (remainder : ℕ) → answer ≡ hub_mcc_found quotient remainder → IsExact q quotient.0 remainder

-- the same for C: the refusal's number, and the two figures in lent cells
pub record FindsHubMccForC (q : FindHubMccCall) (number : ℕ) (quotient : Lent ℤ) (remainder : Lent ℕ) : Type 0 where
  pub refusal-number : number ≡ number_after (find_hub_mcc_checked q)
  pub quotient_given_lem : after quotient ≡ cell_after (find_hub_mcc_checked q) (quotient_given q) (before quotient)
  pub remainder_given_lem : after remainder ≡ cell_after (find_hub_mcc_checked q) (remainder_given q) (before remainder)
  pub exact : find_hub_mcc_checked q ≡ passed → IsExact q (after quotient) (after remainder)
