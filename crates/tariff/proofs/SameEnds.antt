-- Ends that coincide (document 02, paper 6): no flow, no amount, nothing priced, of either kind, by the rules as they are.
use mathlib.Core.Path.{◌≡◌, ap, ◌∙◌}
use mathlib.Core.List.{List}
use Prim.Native.Nat.{ℕ}
use lib.IntN.{ℤ, pos, ◌-ℤ◌, ◌*ℤ◌, zero-*ℤ, *ℤ_comm, +ℤ_invr}
use Rattle.lists.proofs.Sets.{set-empty}
use Rattle.integers.specs.Sums.{nonzero}
use Rattle.tariff.specs.declared.contracts.Kind.{Kind}
use Rattle.tariff.specs.declared.contracts.Contract.{Contract}
use Rattle.tariff.specs.Units.{Factors, factor, price}
use Rattle.tariff.specs.ContractRules.{counted}
use Rattle.tariff.specs.Feasibility.{flow}
use Rattle.tariff.specs.Settlement.{mcc, amount, spread_at, priced_at, priced_set_of}
use Rattle.tariff.proofs.Worst.{counted-zero}

-- a figure less itself, times a quantity
counts-nothing : (kind : Kind) (x : ℤ) (q : ℕ) → counted kind ((x -ℤ x) *ℤ pos q) ≡ pos 0
counts-nothing kind x q = ap (λ (d : ℤ). counted kind (d *ℤ pos q)) (+ℤ_invr x) ∙ ap (counted kind) (zero-*ℤ (pos q)) ∙ counted-zero kind

prices-nothing : (w : ℕ) (x : ℤ) → nonzero (pos w *ℤ (x -ℤ x)) ≡ nonzero (pos 0)
prices-nothing w x = ap nonzero (ap (λ (d : ℤ). pos w *ℤ d) (+ℤ_invr x) ∙ *ℤ_comm (pos w) (pos 0) ∙ zero-*ℤ (pos w))

module _ (f : Factors) (c : Contract) (same : c.source ≡ c.sink) where
  pub same_ends_no_flow : (k : ℕ) → flow f c k ≡ pos 0
  unfolding flow
  same_ends_no_flow k =
      ap (λ (x : ℕ). counted c.kind ((factor f x k -ℤ factor f c.sink k) *ℤ pos c.quantity.0)) same
      ∙ counts-nothing c.kind (factor f c.sink k) c.quantity.0

  pub same_ends_no_amount : (p : List ℕ) → amount f p c ≡ pos 0
  unfolding amount
  same_ends_no_amount p =
      ap (λ (x : ℕ). counted c.kind ((mcc f p c.sink -ℤ mcc f p x) *ℤ pos c.quantity.0)) same
      ∙ counts-nothing c.kind (mcc f p c.sink) c.quantity.0

  pub same_ends_not_priced : (p : List ℕ) → priced_set_of f p c ≡ 0
  unfolding priced_set_of priced_at spread_at
  same_ends_not_priced p =
      (set-empty f.constraints (priced_at f p c)).1
      (λ k h. ap (λ (x : ℕ). nonzero (pos (price p k) *ℤ (factor f x k -ℤ factor f c.sink k))) same ∙ prices-nothing (price p k) (factor f c.sink k))
