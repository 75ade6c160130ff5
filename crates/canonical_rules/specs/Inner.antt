-- What code and proofs go by, and nobody must believe: a contract as one number that has the canonical order, and the walk over sorted rows.
use Rattle.std.specs.Prelude.{Bool, true, cond, not, List, [], ◌∷◌, ◌++◌, ℕ, ◌+◌, ◌-◌, ◌*◌, ◌/◌, ◌%◌, eqb, leb}
use Rattle.tariff.specs.declared.contracts.Contract.{Contract}
use Rattle.tariff.specs.Units.{max_quantity}
use Rattle.test_flow_laws.specs.Quantities.{with_quantity}
use Rattle.canonical_rules.specs.Canonical.{five_of, quantity}

-- ---- over rows of any kind that have a five and a quantity; `at q r` is the row r with quantity q

module _ {A : Type 0} (five size : A → ℕ) (at : ℕ → A → A) where
  abbrev pub same_five_of : A → A → Bool
  same_five_of p r = eqb (five p) (five r)

  abbrev pub both : A → A → ℕ
  both p r = size p + size r

  -- of the pending row p and the next one r: whether a row goes out, which, and what is pending then
  abbrev pub goes : A → A → Bool
  goes p r = cond (same_five_of p r) (not (leb (both p r) max_quantity)) true

  abbrev pub out : A → A → A
  out p r = cond (same_five_of p r) (at max_quantity p) p

  abbrev pub pending : A → A → A
  pending p r = cond (same_five_of p r) (at (cond (leb (both p r) max_quantity) (both p r) (both p r - max_quantity)) p) r

  unfoldable pub walk_from : A → List A → List A
  walk_from p [] = p ∷ []
  walk_from p (r ∷ rows) = cond (goes p r) (out p r ∷ []) [] ++ walk_from (pending p r) rows

  unfoldable pub walk : List A → List A
  walk [] = []
  walk (r ∷ rows) = walk_from r rows

-- ---- a contract as one number of 56 bits: its five, then 20 bits of its quantity

abbrev pub row_number : Contract → ℕ
row_number c = five_of c * 1048576 + quantity c

abbrev pub five_in_of : ℕ → ℕ
five_in_of v = v / 1048576

abbrev pub quantity_in : ℕ → ℕ
quantity_in v = v % 1048576

abbrev pub number_at : ℕ → ℕ → ℕ
number_at q v = v / 1048576 * 1048576 + q

abbrev pub walk_contracts : List Contract → List Contract
walk_contracts = walk five_of quantity with_quantity

abbrev pub walk_numbers : List ℕ → List ℕ
walk_numbers = walk five_in_of quantity_in number_at
