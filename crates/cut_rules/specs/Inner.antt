-- The closed form, which code goes by and nobody must believe: it is proved to be the search. And a row as one number, to sort by.
use Rattle.std.specs.Prelude.{Bool, true, cond, ◌&&◌, List, [], ◌∷◌, ◌++◌, ℕ, zero, suc, ◌+◌, ◌-◌, ◌*◌, ◌/◌, ◌<◌, max, ltb, leb, ℤ, pos, negsuc, ◌-ℤ◌, ◌*ℤ◌, ◌≤ℤ◌}
use Rattle.std.specs.Int.Signed.{le_z}
use Rattle.tariff.specs.declared.contracts.Contract.{Contract}
use Rattle.tariff.specs.declared.contracts.Period.{Period}
use Rattle.tariff.specs.declared.processes.Process.{Process}
use Rattle.tariff.specs.Units.{Grid, Factors}
use Rattle.tariff.specs.ContractRules.{same_period, of_period}
use Rattle.tariff.specs.Feasibility.{flow, excess}
use Rattle.test_flow_laws.specs.Quantities.{with_quantity}
use Rattle.cut_rules.specs.Cuts.{nth_contract, quantity_of, CutRow}

-- ---- over plain whole numbers: e k is the excess at constraint k, w k the contract's flow of one thousandth (its slope there), k below n

-- the cut that one constraint needs: e / w rounded up where both are above 0, and 0 elsewhere
abbrev pub need_at : ℤ → ℤ → ℕ
need_at (pos e) (pos w) = (e + (w - 1)) / w
need_at (pos e) (negsuc w) = 0
need_at (negsuc e) w = 0

-- the greatest cut that a constraint below n needs
unfoldable pub need : ℕ → (ℕ → ℤ) → (ℕ → ℤ) → ℕ
need zero e w = 0
need (suc n) e w = max (need n e w) (need_at (e n) (w n))

-- the need n raised to what an overload e asks at slope w, and 0 where no cut up to q is enough there
abbrev pub raised_to : ℤ → ℤ → ℕ → ℕ → ℕ
raised_to e w q n = cond (ltb 0 (need_at e w) && leb (need_at e w) q) (max n (need_at e w)) 0

-- the cut t is enough at every constraint below n
abbrev pub Enough : ℕ → (ℕ → ℤ) → (ℕ → ℤ) → ℕ → Type 0
Enough n e w t = (k : ℕ) → k < n → (e k -ℤ w k *ℤ pos t) ≤ℤ pos 0

unfoldable pub enough : ℕ → (ℕ → ℤ) → (ℕ → ℤ) → ℕ → Bool
enough zero e w t = true
enough (suc n) e w t = enough n e w t && le_z (e n -ℤ w n *ℤ pos t) (pos 0)

-- for a contract of quantity q: the need, where it is no more than q and enough at every constraint; else what is said for none
unfoldable pub closed : ℕ → (ℕ → ℤ) → (ℕ → ℤ) → ℕ → ℕ → ℕ
closed n e w q none = cond (leb (need n e w) q && enough n e w (need n e w)) (need n e w) none

-- ---- of a contract of a book

-- the flow on constraint k of quantity t of contract c, as it counts in the period that is tested: nothing for a contract of the other period
unfoldable pub cut_flow : Factors → Period → Contract → ℕ → ℕ → ℤ
cut_flow f period c t k = cond (same_period c.period period) (flow f (with_quantity t c) k) (pos 0)

-- the flow of one thousandth
abbrev pub slope : Factors → Period → Contract → ℕ → ℤ
slope f period c k = cut_flow f period c 1 k

module _ (g : Grid) (process : Process) (period : Period) (cs : List Contract) where
  -- contract i's cut by the closed form, with what is said for none
  abbrev pub closed_or : ℕ → ℕ → ℕ
  closed_or none i = closed g.factors.constraints (excess g process (of_period period cs)) (slope g.factors period (nth_contract cs i)) (quantity_of cs i) none

  -- one more than its quantity for none, as the search says
  unfoldable pub closed_cut : ℕ → ℕ
  closed_cut i = closed_or (suc (quantity_of cs i)) i

  -- as code gives it: 0 for none, which no cut from a failing book is, and for a contract of the other period
  unfoldable pub cut_or0 : ℕ → ℕ
  cut_or0 i = cond (same_period (nth_contract cs i).period period) (closed_or 0 i) 0

-- ---- a row as one number, which compares as rows are ordered: numbers are below 1,024

abbrev pub cut_key : ℕ → ℕ → ℕ
cut_key cut number = cut * 1024 + number

abbrev pub row_key : CutRow → ℕ
row_key r = cut_key r.cut r.number

-- those of the numbers below m that have a cut
unfoldable pub keys_to : (ℕ → ℕ) → ℕ → List ℕ
keys_to cut_of zero = []
keys_to cut_of (suc m) = keys_to cut_of m ++ cond (ltb 0 (cut_of m)) (cut_key (cut_of m) m ∷ []) []
