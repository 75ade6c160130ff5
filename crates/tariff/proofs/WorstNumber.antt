-- The worst shortfall is one number: it is unique, it exists, it is above 0 where the test does not pass, and it is made of the payments.
use mathlib.Core.Path.{◌≡◌, refl, sym, ap, ◌∙◌}
use mathlib.Core.Logic.{◌↔◌}
use mathlib.Core.List.{List}
use Prim.Native.Nat.{ℕ}
use lib.IntN.{ℤ, pos, ◌-ℤ◌}
use lib.Signed.{◌≤ℤ◌, ◌<ℤ◌}
use Rattle.integers.proofs.Linear.{≤ℤ-trans, ≤ℤ-antisym, ≤ℤ-of_≡, not_≤ℤ, minus≤0}
use Rattle.tariff.specs.declared.contracts.Contract.{Contract}
use Rattle.tariff.specs.declared.processes.Process.{Process}
use Rattle.tariff.specs.Units.{Grid, max_price}
use Rattle.tariff.specs.Feasibility.{Passes, excess}
use Rattle.tariff.specs.Settlement.{exact_total}
use Rattle.tariff.specs.Shortfall.{PriceList, net_payment, rent, shortfall, one_cent, IsWorst}
use Rattle.tariff.proofs.Worst.{only_list, only_shortfall}
use Rattle.tariff.proofs.Maximum.{Capped, Best, best}

module _ (g : Grid) (process : Process) (cs : List Contract) where
  abbrev K : ℕ
  K = g.factors.constraints

  -- a number that some price list reaches is at most one that none exceeds
  worst-≤ : (w v : ℤ) → IsWorst g process cs w → IsWorst g process cs v → w ≤ℤ v
  worst-≤ w v a b = ≤ℤ-trans (≤ℤ-of_≡ (sym a.reached)) (b.most a.prices a.is-list)

  pub worst-is_unique : (w v : ℤ) → IsWorst g process cs w → IsWorst g process cs v → w ≡ v
  worst-is_unique w v a b = ≤ℤ-antisym (worst-≤ w v a b) (worst-≤ v w b a)

  -- the price lists are the lists of as many numbers as there are constraints, each up to the cap
  capped-of : (p : List ℕ) → PriceList K p → Capped K max_price p
  capped-of p l = record { long = l.one_each; capped = l.capped }

  list_of : (p : List ℕ) → Capped K max_price p → PriceList K p
  list_of p c = record { one_each = c.long; capped = c.capped }

  top : Best K max_price (shortfall g process cs)
  top = best K max_price (shortfall g process cs)

  pub worst-exists : (w : ℤ) × IsWorst g process cs w
  worst-exists =
      (shortfall g process cs top.list, record { prices = top.list; is-list = list_of top.list top.is-capped; reached = refl; most = λ p l. top.most p (capped-of p l) })

  -- the worst shortfall is one number
  pub worst-is_one_number : (w : ℤ) × IsWorst g process cs w × ((v : ℤ) → IsWorst g process cs v → v ≡ w)
  worst-is_one_number = (worst-exists.0, worst-exists.1, λ v h. worst-is_unique v worst-exists.0 h worst-exists.1)

  -- no shortfall above 0: the test passes
  ≤0→pass : (w : ℤ) → IsWorst g process cs w → w ≤ℤ pos 0 → Passes g process cs
  unfolding excess
  ≤0→pass w h le = record { within = λ k b. minus≤0.1 (≤ℤ-trans (≤ℤ-of_≡ (sym (only_shortfall g process cs k b))) (≤ℤ-trans (h.most (one_cent K k) (only_list g k b)) le)) }

  pub fail_worst_above_zero : (¬ Passes g process cs) → (w : ℤ) → IsWorst g process cs w → pos 0 <ℤ w
  fail_worst_above_zero fails w h = not_≤ℤ.0 (λ le. fails (≤0→pass w h le))

-- ---- contracts with equal payments at every price list

module _ (g : Grid) (process : Process) where
  abbrev pub SamePaid : List Contract → List Contract → Type 0
  SamePaid us vs = (p : List ℕ) → exact_total g.factors p us ≡ exact_total g.factors p vs

  pub shortfall-by : (us vs : List Contract) → SamePaid us vs → (p : List ℕ) → shortfall g process us p ≡ shortfall g process vs p
  unfolding net_payment shortfall
  shortfall-by us vs e p = ap (λ (z : ℤ). z -ℤ rent g process p) (e p)

  worst-of : (us vs : List Contract) → SamePaid us vs → (w : ℤ) → IsWorst g process us w → IsWorst g process vs w
  worst-of us vs e w x =
      record {
        prices = x.prices;
        is-list = x.is-list;
        reached = sym (shortfall-by us vs e x.prices) ∙ x.reached;
        most = λ p l. rw (← shortfall-by us vs e p) (x.most p l);
      }

  pub worst-by : (us vs : List Contract) → SamePaid us vs → (w : ℤ) → IsWorst g process us w ↔ IsWorst g process vs w
  worst-by us vs e w = (worst-of us vs e w, worst-of vs us (λ p. sym (e p)) w)
