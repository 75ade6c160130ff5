-- What the figures mean: net payment, rent and shortfall of document 01, and the promise.
use mathlib.Core.Path.{◌≡◌, refl, sym, ap, ap₂, ◌∙◌, subst}
use mathlib.Core.List.{List, [], ◌∷◌}
use Prim.Native.Nat.{ℕ, ◌*◌}
use lib.ListN.{take}
use lib.Seq.{get_or-take}
use lib.IntN.{ℤ, pos, ◌-ℤ◌}
use Rattle.integers.specs.Sums.{sum_to}
use Rattle.integers.proofs.Sums.{sum_to_cong}
use Rattle.tariff.specs.declared.contracts.Contract.{Contract}
use Rattle.tariff.specs.declared.contracts.Period.{Period}
use Rattle.tariff.specs.declared.processes.Process.{Process}
use Rattle.tariff.specs.declared.refusals.Refusal.{Refusal}
use Rattle.tariff.specs.Refusals.{Checked, passed}
use Rattle.std.specs.Prelude.{Ok, Err}
use Rattle.tariff.specs.Units.{Grid, grid_of, factors_of}
use Rattle.tariff.specs.ContractRules.{of_period}
use Rattle.tariff.specs.Processes.{percent}
use Rattle.tariff.specs.Feasibility.{released}
use Rattle.tariff.specs.Shortfall.{net_payment, rent, shortfall}
use Rattle.tariff.specs.Refusals.{given}
use Rattle.tariff.proofs.Answers.{answer-refused, answer-passed}
use Rattle.hour_rules.specs.SettleHour.{hour_total}
use Rattle.test_rules.specs.TestBook.{TestCall, tested_grid, tested_process, tested_contracts}
use Rattle.exposure_figures.specs.declared.Owed.{Owed}
use Rattle.exposure_shortfall.specs.declared.Shortfall.{Shortfall}
use Rattle.exposure_figures.specs.Inner.{exact_of, Exactly, rent_in, rent_of}
use Rattle.exposure_figures.proofs.Figures.{exactly_of, figures}
use Rattle.exposure_shortfall.specs.Inner.{Costs}
use Rattle.exposure_shortfall.specs.FindShortfall.{shortfall_checked, shortfall_values, asked_prices, payment_asked, rent_asked, shortfall_asked, FindsShortfall}

module _ (n k : ℕ) (ls : List ℕ) (fs : List ℤ) (process : Process) (t : Period) (ps : List ℕ) (book : List Contract) where
  payment-is : hour_total (factors_of n k fs) (take k ps) t book ≡ net_payment (factors_of n k fs) (of_period t book) (take k ps)
  unfolding hour_total net_payment
  payment-is = refl

  rent-is : sum_to k (λ (j : ℕ). pos (rent_in ls process ps j)) ≡ rent (grid_of n k ls fs) process (take k ps)
  unfolding rent released
  rent-is = sum_to_cong k (λ j h. ap pos (ap₂ ◌*◌ (ap (λ (x : ℕ). x * percent process * 1000) (sym (get_or-take k ls j 0 h))) (sym (get_or-take k ps j 0 h))))

  pub costs : (r : Shortfall) (owed : Owed) → Exactly (hour_total (factors_of n k fs) (take k ps) t book) r.payment
      → pos (rent_of owed) ≡ sum_to k (λ (j : ℕ). pos (rent_in ls process ps j)) → Exactly (pos (rent_of owed)) r.rent
      → Exactly (exact_of r.payment -ℤ pos (rent_of owed)) r.shortfall → Costs (grid_of n k ls fs) process (of_period t book) (take k ps) r
  unfolding shortfall
  costs r owed paid owes rents short =
      record {
        payment = exactly_of r.payment payment-is paid;
        rent-is = exactly_of r.rent (owes ∙ rent-is) rents;
        shortfall-is = exactly_of r.shortfall (ap₂ ◌-ℤ◌ (paid.is ∙ payment-is) (owes ∙ rent-is)) short;
      }

-- the same of what is equal to them
pub costs-kept : {g h : Grid} {p q : Process} {cs ds : List Contract} {ps qs : List ℕ} → g ≡ h → p ≡ q → cs ≡ ds → ps ≡ qs → (r : Shortfall)
    → Costs g p cs ps r → Costs h q ds qs r
costs-kept {g} {h} {p} {q} {cs} {ds} {ps} {qs} same-grid same-process same-contracts same-prices r costs =
    let grids = subst (λ (x : Grid). Costs x p cs ps r) same-grid costs in
    let processes = subst (λ (x : Process). Costs h x cs ps r) same-process grids in
    let contracts = subst (λ (x : List Contract). Costs h q x ps r) same-contracts processes in
    subst (λ (x : List ℕ). Costs h q ds x r) same-prices contracts

-- ---- the promise

module _ (q : TestCall) (prices : List ℕ) (x : Checked) (found : x ≡ shortfall_checked q prices) where
  pub refuses : (r : Refusal) → x ≡ Err r → FindsShortfall q prices (Err r)
  refuses r told = record { figures-given = answer-refused x (shortfall_checked q prices) found r told (shortfall_values q prices) }

  pub finds : x ≡ passed → (r : Shortfall) → Costs (tested_grid q) (tested_process q) (tested_contracts q) (asked_prices q prices) r
      → FindsShortfall q prices (Ok r)
  finds told r e =
      let a = figures (payment_asked q prices) r.payment e.payment in
      let b = figures (rent_asked q prices) r.rent e.rent-is in
      let c = figures (shortfall_asked q prices) r.shortfall e.shortfall-is in
      record {
        figures-given =
            (λ i. given (a.0 i ∷ pos (a.1 i) ∷ b.0 i ∷ pos (b.1 i) ∷ c.0 i ∷ pos (c.1 i) ∷ []))
            ∙ answer-passed x (shortfall_checked q prices) found told (shortfall_values q prices);
      }
