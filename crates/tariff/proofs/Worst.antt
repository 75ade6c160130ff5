-- Demand 3's mathematics: the test passes exactly where the worst shortfall is 0, and an excess is the one-cent list's shortfall.
use mathlib.Core.Path.{◌≡◌, refl, ◌∙◌, ap, ap₂}
use mathlib.Core.Logic.{◌≢◌}
use mathlib.Core.List.{List, []}
use Prim.Native.Nat.{ℕ, zero, suc, ◌≤◌, ◌<◌}
use native.Mathlib.Nat.{zero-mul, mul-le-mul_right, le-max_left, le-max_right}
use native.Mathlib.Decide.{ℕ_discrete}
use native.Mathlib.Omega.{arith}
use lib.ListN.{replicate, length-set, length-replicate, get_or-replicate}
use lib.Seq.{get_or-set_same, get_or-set_other}
use lib.IntN.{ℤ, pos, neg_ℤ, ◌+ℤ◌, ◌-ℤ◌, ◌*ℤ◌, zero-*ℤ, *ℤ-zero}
use lib.Signed.{◌≤ℤ◌, ≤ℤ_refl}
use Rattle.integers.specs.Sums.{max0, sum_to, sum_over_of}
use Rattle.integers.proofs.Linear.{⊖of, ⊖s, above, below, ≤ℤ-trans, *pos_mono, minus≤0, *ℤ-pos1, ≤ℤ-of_≡, expand, monos}
use Rattle.integers.proofs.Sums.{sum_to_cong, sum_to_zero, sum_to_one, sum_to_mono, sum_over-cong, sum_over-zero, sum_over-mono, sum_over-times, sum-swap}
use Rattle.tariff.specs.declared.contracts.Kind.{Kind}
use Rattle.tariff.specs.declared.contracts.Kind.TheVariants.{Obligation, Option}
use Rattle.tariff.specs.declared.contracts.Contract.{Contract}
use Rattle.tariff.specs.declared.processes.Process.{Process}
use Rattle.tariff.specs.Units.{Factors, Grid, factor, price, max_price}
use Rattle.tariff.specs.ContractRules.{counted}
use Rattle.tariff.specs.Settlement.{congestion, mcc, amount, exact_total}
use Rattle.tariff.specs.Feasibility.{flow, total_flow, released, Passes, excess}
use Rattle.tariff.specs.Shortfall.{PriceList, net_payment, rent, shortfall, one_cent, IsWorst}

-- ---- an amount is at most the flows at their prices
linear_step : (A B a b : ℤ) (w q : ℕ) → (neg_ℤ (A +ℤ a *ℤ pos w) -ℤ neg_ℤ (B +ℤ b *ℤ pos w)) *ℤ pos q ≡ (neg_ℤ A -ℤ neg_ℤ B) *ℤ pos q +ℤ (b -ℤ a) *ℤ pos q *ℤ pos w
linear_step A B a b w q = simp expand (simp monos (omega arith))

pub linear : (n : ℕ) (s t : ℕ → ℤ) (w : ℕ → ℕ) (q : ℕ) → (neg_ℤ (sum_to n (λ k. t k *ℤ pos (w k))) -ℤ neg_ℤ (sum_to n (λ k. s k *ℤ pos (w k)))) *ℤ pos q ≡ sum_to n (λ k. (s k -ℤ t k) *ℤ pos q *ℤ pos (w k))
unfolding sum_to
linear zero s t w q = zero-*ℤ (pos q)
linear (suc n) s t w q = linear_step (sum_to n (λ k. t k *ℤ pos (w k))) (sum_to n (λ k. s k *ℤ pos (w k))) (t n) (s n) (w n) q ∙ ap (λ z. z +ℤ (s n -ℤ t n) *ℤ pos q *ℤ pos (w n)) (linear n s t w q)

convex_step : (A B a : ℤ) (w : ℕ) → max0 A ≤ℤ B → max0 (A +ℤ a *ℤ pos w) ≤ℤ (B +ℤ max0 a *ℤ pos w)
convex_step A B a w = rw (⊖of A, ⊖of B, ⊖of a) (simp ⊖s (λ h. omega (arith, mul-le-mul_right w (le-max_left (above a) (below a)), mul-le-mul_right w (le-max_right (above a) (below a)))))

convex : (d : Kind) (n : ℕ) (x : ℕ → ℤ) (w : ℕ → ℕ) → counted d (sum_to n (λ k. x k *ℤ pos (w k))) ≤ℤ sum_to n (λ k. counted d (x k) *ℤ pos (w k))
unfolding sum_to
convex Obligation n x w = ≤ℤ_refl (sum_to n (λ k. x k *ℤ pos (w k)))
convex Option zero x w = ≤ℤ_refl (pos 0)
convex Option (suc n) x w = convex_step (sum_to n (λ k. x k *ℤ pos (w k))) (sum_to n (λ k. max0 (x k) *ℤ pos (w k))) (x n) (w n) (convex Option n x w)

-- ---- one price at 1
pub counted-zero : (d : Kind) → counted d (pos 0) ≡ pos 0
counted-zero Obligation = refl
counted-zero Option = refl

turn : (a b : ℤ) (q : ℕ) → (neg_ℤ b -ℤ neg_ℤ a) *ℤ pos q ≡ (a -ℤ b) *ℤ pos q
turn a b q = rw (⊖of a, ⊖of b) (simp ⊖s (omega arith))

weigh_none : (n : ℕ) (x : ℕ → ℤ) (w : ℕ → ℕ) → ((j : ℕ) → j < n → w j ≡ 0) → sum_to n (λ j. x j *ℤ pos (w j)) ≡ pos 0
weigh_none n x w z = sum_to_cong n (λ j b. rw (z j b) (*ℤ-zero (x j))) ∙ sum_to_zero n

weigh_one : (n k : ℕ) (x : ℕ → ℤ) (w : ℕ → ℕ) → k < n → w k ≡ 1 → ((j : ℕ) → j < n → j ≢ k → w j ≡ 0) → sum_to n (λ j. x j *ℤ pos (w j)) ≡ x k
weigh_one n k x w h e z = sum_to_one n k (λ j. x j *ℤ pos (w j)) h (λ j b ne. rw (z j b ne) (*ℤ-zero (x j))) ∙ rw e (*ℤ-pos1 (x k))

zero≤ : (n : ℕ) → pos 0 ≤ℤ pos n
zero≤ n = simp ⊖s (omega arith)

module _ (g : Grid) where
  abbrev K : ℕ
  K = g.factors.constraints

  abbrev F : Factors
  F = g.factors

  abbrev room : Process → ℕ → ℕ
  room process k = released g.limits process k

  pub amount≤ : (p : List ℕ) (c : Contract) → amount F p c ≤ℤ sum_to K (λ k. flow F c k *ℤ pos (price p k))
  unfolding amount mcc congestion flow
  amount≤ p c =
      ≤ℤ-trans
      (≤ℤ-of_≡ (ap (counted c.kind) (linear K (factor F c.source) (factor F c.sink) (price p) c.quantity.0)))
      (convex c.kind K (λ k. (factor F c.source k -ℤ factor F c.sink k) *ℤ pos c.quantity.0) (price p))

  -- the flows at their prices, contract by contract, are the total flows at their prices
  pub by_constraint : (cs : List Contract) (p : List ℕ) → sum_over_of cs (λ c. sum_to K (λ k. flow F c k *ℤ pos (price p k))) ≡ sum_to K (λ k. total_flow F cs k *ℤ pos (price p k))
  unfolding total_flow
  by_constraint cs p = sum-swap cs K _ ∙ sum_to_cong K (λ k b. sum_over-times cs (λ c. flow F c k) (pos (price p k)))

  -- ---- the prices that are all 0
  zeros : List ℕ
  zeros = replicate K 0

  zeros_at : (k : ℕ) → k < K → price zeros k ≡ 0
  unfolding zeros
  zeros_at k b = get_or-replicate {A = ℕ} K k 0 0 b

  zeros_list : PriceList K zeros
  unfolding zeros
  zeros_list = record { one_each = length-replicate {A = ℕ} K 0; capped = λ k b. omega (arith, zeros_at k b) }

  zeros_mcc : (n : ℕ) → mcc F zeros n ≡ pos 0
  unfolding mcc congestion
  zeros_mcc n = ap neg_ℤ (weigh_none K (factor F n) (price zeros) zeros_at)

  zeros_amount : (c : Contract) → amount F zeros c ≡ pos 0
  unfolding amount
  zeros_amount c = simp (zeros_mcc, zero-mul) (counted-zero c.kind)

  -- ---- the prices that are 1 at k and 0 elsewhere
  module _ (k : ℕ) (h : k < K) where
    only_at : price (one_cent K k) k ≡ 1
    unfolding one_cent
    only_at = get_or-set_same {A = ℕ} (replicate K 0) k 1 0 (rw length-replicate h)

    only_else : (j : ℕ) → j < K → j ≢ k → price (one_cent K k) j ≡ 0
    unfolding one_cent
    only_else j b ne = get_or-set_other {A = ℕ} (replicate K 0) k j 1 0 ne ∙ get_or-replicate {A = ℕ} K j 0 0 b

    only_small : (j : ℕ) → j < K → price (one_cent K k) j ≤ max_price
    only_small j b = elim (ℕ_discrete j k) [ yes e ↦ rw e (omega (arith, only_at)) | no ne ↦ omega (arith, only_else j b ne) ]

    pub only_list : PriceList K (one_cent K k)
    unfolding one_cent
    only_list = record { one_each = length-set {A = ℕ} (replicate K 0) k 1 ∙ length-replicate {A = ℕ} K 0; capped = only_small }

    at_only : (x : ℕ → ℤ) → sum_to K (λ j. x j *ℤ pos (price (one_cent K k) j)) ≡ x k
    at_only x = weigh_one K k x (price (one_cent K k)) h only_at only_else

    only_amount : (c : Contract) → amount F (one_cent K k) c ≡ flow F c k
    unfolding amount mcc congestion flow
    only_amount c = rw (at_only (factor F c.sink), at_only (factor F c.source), turn (factor F c.source k))

  module _ (process : Process) (cs : List Contract) where
    pass→≤0 : Passes g process cs → (p : List ℕ) → shortfall g process cs p ≤ℤ pos 0
    unfolding shortfall net_payment exact_total rent
    pass→≤0 h p = minus≤0.0 (≤ℤ-trans (sum_over-mono cs (amount≤ p)) (≤ℤ-trans (≤ℤ-of_≡ (by_constraint cs p)) (sum_to_mono K (λ k b. *pos_mono (price p k) (h.within k b)))))

    zeros_shortfall : shortfall g process cs zeros ≡ pos 0
    unfolding shortfall net_payment exact_total rent
    zeros_shortfall = ap₂ ◌-ℤ◌ (sum_over-cong cs zeros_amount ∙ sum_over-zero cs) (weigh_none K (λ k. pos (room process k)) (price zeros) zeros_at)

    pub only_shortfall : (k : ℕ) → k < K → shortfall g process cs (one_cent K k) ≡ excess g process cs k
    unfolding shortfall net_payment exact_total rent excess total_flow
    only_shortfall k h = ap₂ ◌-ℤ◌ (sum_over-cong cs (only_amount k h)) (at_only k h (λ j. pos (room process j)))

    pub pass→worst : Passes g process cs → IsWorst g process cs (pos 0)
    pass→worst h = record { prices = zeros; is-list = zeros_list; reached = zeros_shortfall; most = λ p v. pass→≤0 h p }

    pub worst→pass : IsWorst g process cs (pos 0) → Passes g process cs
    unfolding excess
    worst→pass h = record { within = λ k b. minus≤0.1 (rw (only_shortfall k b) at (h.most (one_cent K k) (only_list k b))) }

  -- ---- the empty book
  pub empty_passes : (process : Process) → Passes g process []
  unfolding total_flow sum_over_of
  empty_passes process = record { within = λ k h. zero≤ (room process k) }
