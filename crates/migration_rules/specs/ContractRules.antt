-- Document 02, paper 5: the contracts that follow net transfers. t is the period, lost i j what LSE i loses to LSE j, loads the LSEs' current loads. Definitions
-- only.
use Rattle.std.specs.Prelude.{Bool, true, false, cond, ◌&&◌, ℕ, zero, suc, ◌*◌, ◌/◌, leb, ltb, eqb, length}
use mathlib.Core.List.{List, [], ◌∷◌, ◌++◌, flat_map}
use Rattle.tariff.specs.declared.contracts.Contract.{Contract}
use Rattle.tariff.specs.declared.contracts.Kind.{Kind}
use Rattle.tariff.specs.declared.contracts.Kind.TheVariants.{Obligation, Option}
use Rattle.tariff.specs.declared.contracts.Period.{Period}
use Rattle.tariff.specs.ContractRules.{same_period}
use Rattle.migration_rules.specs.Transfers.{load}

-- the gainer's contract, for a base contract, the gainer and the quantity moved
abbrev pub gained : Contract → ℕ → ℕ → Contract
gained c gainer q = record { kind = Obligation; period = c.period; holder = gainer; source = c.source; sink = c.sink; quantity = record { 0 = q } }

-- "the loser gets an equal obligation with source and sink exchanged"
abbrev pub countered : Contract → ℕ → Contract
countered c q = record { kind = Obligation; period = c.period; holder = c.holder; source = c.sink; sink = c.source; quantity = record { 0 = q } }

abbrev pub obliges : Kind → Bool
obliges Obligation = true
obliges Option = false

-- "Only that period's obligations migrate"; of n LSEs, each is "the holder of that number"
unfoldable pub migrates : Period → ℕ → Contract → Bool
migrates t n c = obliges c.kind && (same_period c.period t && (ltb 0 c.holder && leb c.holder n))

module _ (lost : ℕ → ℕ → ℕ) (loads : List ℕ) where
  -- "A gainer receives base quantity × net transfer over the loser's current load, in thousandths rounded down"
  unfoldable pub gainer_share : Contract → ℕ → ℕ
  gainer_share c j = cond (eqb (lost c.holder j) 0) 0 (c.quantity.0 * lost c.holder j / load loads c.holder)

  -- "the gainer's before the loser's"; "Nought makes no contract."
  unfoldable pub pair_for : Contract → ℕ → List Contract
  pair_for c j = cond (eqb (gainer_share c j) 0) [] (gained c j (gainer_share c j) ∷ countered c (gainer_share c j) ∷ [])

  -- for gainers 1 to m
  unfoldable pub pairs_to : Contract → ℕ → List Contract
  pairs_to c zero = []
  pairs_to c (suc m) = pairs_to c m ++ pair_for c (suc m)

  -- of one base contract
  unfoldable pub new_from : Period → Contract → List Contract
  new_from t c = cond (migrates t (length loads) c) (pairs_to c (length loads)) []

  -- "New contracts follow the old ones, by base contract, then gainer"; the base contracts are those of the book "as the book was read"
  unfoldable pub new_book : Period → List Contract → List Contract
  new_book t book = book ++ flat_map (new_from t) book
