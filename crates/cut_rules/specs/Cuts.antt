-- Document 02, paper 12: "The least cut that clears a book", as the search that the paper describes.
use Rattle.std.specs.Prelude.{Bool, cond, ◌&&◌, ◌||◌, List, [], ◌∷◌, ◌++◌, ℕ, zero, suc, ◌-◌, ltb, leb, eqb, length, get_or}
use Rattle.lists.specs.Sets.{lowest_of}
use Rattle.tariff.specs.declared.contracts.Contract.{Contract}
use Rattle.tariff.specs.declared.contracts.Kind.TheVariants.{Obligation}
use Rattle.tariff.specs.declared.contracts.Period.{Period}
use Rattle.tariff.specs.declared.contracts.Period.TheVariants.{OffPeak}
use Rattle.tariff.specs.declared.processes.Process.{Process}
use Rattle.tariff.specs.Units.{Grid}
use Rattle.tariff.specs.ContractRules.{same_period, of_period}
use Rattle.tariff.specs.Feasibility.{overload_set}
use Rattle.test_flow_laws.specs.Quantities.{with_quantity}

-- contract i of a book, numbered from 0, both periods counted; what stands past its end is of quantity 0
abbrev pub no_contract : Contract
no_contract = record { kind = Obligation; period = OffPeak; holder = 0; source = 0; sink = 0; quantity = record { 0 = 0 } }

abbrev pub nth_contract : List Contract → ℕ → Contract
nth_contract cs i = get_or cs i no_contract

abbrev pub quantity_of : List Contract → ℕ → ℕ
quantity_of cs i = (nth_contract cs i).quantity.0

-- "whose quantity, lowered alone": contract i's lowered by t, all else as it is; "0 meaning removal": where t is its quantity or more, without contract i
unfoldable pub lowered : ℕ → ℕ → List Contract → List Contract
lowered i t [] = []
lowered zero t (c ∷ cs) = cond (ltb t c.quantity.0) (with_quantity (c.quantity.0 - t) c ∷ cs) cs
lowered (suc i) t (c ∷ cs) = c ∷ lowered i t cs

-- a row of the list: a contract's number and by how much its quantity is lowered
pub record CutRow : Type 0 where
  pub number : ℕ
  pub cut : ℕ

-- "Order by cut, then contract number"
abbrev pub precedes : CutRow → CutRow → Bool
precedes r s = ltb r.cut s.cut || (eqb r.cut s.cut && ltb r.number s.number)

-- r before the first row that it precedes
unfoldable pub put_row : CutRow → List CutRow → List CutRow
put_row r [] = r ∷ []
put_row r (s ∷ rows) = cond (precedes r s) (r ∷ s ∷ rows) (s ∷ put_row r rows)

unfoldable pub in_order_of : List CutRow → List CutRow
in_order_of [] = []
in_order_of (r ∷ rows) = put_row r (in_order_of rows)

module _ (g : Grid) (process : Process) (period : Period) where
  -- whether a book's contracts of the period pass the test
  unfoldable pub passing : List Contract → Bool
  passing cs = eqb (overload_set g process (of_period period cs)) 0

  module _ (cs : List Contract) where
    -- whether the cut t of contract i "would make it pass"
    unfoldable pub clears : ℕ → ℕ → Bool
    clears i t = passing (lowered i t cs)

    -- "the smallest such cut" of contract i, and one more than its quantity where there is none
    unfoldable pub least_cut : ℕ → ℕ
    least_cut i = lowest_of (suc (quantity_of cs i)) (clears i)

    -- "every contract of that period" that has such a cut
    unfoldable pub has_cut : ℕ → Bool
    has_cut i = same_period (nth_contract cs i).period period && leb (least_cut i) (quantity_of cs i)

    abbrev pub row_of : ℕ → CutRow
    row_of i = record { number = i; cut = least_cut i }

    -- the rows of the first m contracts, in the book's order
    unfoldable pub cut_rows_to : ℕ → List CutRow
    cut_rows_to zero = []
    cut_rows_to (suc m) = cut_rows_to m ++ cond (has_cut m) (row_of m ∷ []) []

    -- "When a book fails, list every contract"; "A passing book gives an empty list"
    unfoldable pub least_cuts : List CutRow
    least_cuts = cond (passing cs) [] (in_order_of (cut_rows_to (length cs)))
