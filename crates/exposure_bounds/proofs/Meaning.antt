-- What the cells mean: the prices filled in, and what they cost, are those of the definitions.
use mathlib.Core.Path.{◌≡◌, refl, sym, ap, ap₂, ◌∙◌}
use mathlib.Core.Bool.{Bool, true, false, cond, ◌&&◌}
use mathlib.Core.List.{List, ◌++◌}
use Prim.Native.Nat.{ℕ, zero, suc, ◌+◌, ◌/◌, ◌%◌, ◌^◌, ◌≤◌, ◌<◌}
use native.Mathlib.Omega.{arith}
use borrow.Author.Tests.{ltb-true, ltb-false, lt-ltb, le-ltb, le-leb, lt-leb, eqb-true, eqb-false}
use lib.Dec.{eqb, leb, ltb}
use lib.ListN.{length, take, drop}
use lib.Seq.{drop_at}
use lib.IntN.{ℤ, pos, ◌*ℤ◌}
use lib.Signed.{lt_z}
use Rattle.integers.specs.Sums.{max0, sum_to}
use Rattle.integers.proofs.Sums.{sum_to_cong}
use Rattle.lists.specs.Lent.{overwrite}
use Rattle.lists.specs.Sets.{count_of}
use Rattle.lists.proofs.Lists.{length-list_to}
use Rattle.tariff.specs.declared.contracts.Contract.{Contract}
use Rattle.tariff.specs.declared.contracts.Period.{Period}
use Rattle.tariff.specs.declared.processes.Process.{Process}
use Rattle.tariff.specs.Units.{Grid, grid_of, max_price}
use Rattle.tariff.specs.ContractRules.{of_period}
use Rattle.tariff.specs.Feasibility.{excess, overloaded, overload_count}
use Rattle.tariff.specs.Shortfall.{shortfall}
use Rattle.exposure_rules.specs.Exposure.{highest_where, largest_of, in_set, set_prices, worst_set, all_excesses, largest_excess, all_prices, alone_prices_of, either_prices}
use Rattle.exposure_rules.specs.Exposure.{few, few_overloads, exposure_prices_of, least_exposure, most_exposure}
use Rattle.exposure_rules.proofs.Plain.{largest_upto}
use Rattle.exposure_rules.proofs.Scaling.{highest_list}
use Rattle.exposure_rules.proofs.Bounds.{by_bool, over-above, not_over_within}
use Rattle.exposure_rules.proofs.Sets.{highest_cong}
use Rattle.exposure_rules.proofs.Theorems.{alone_figure}
use Rattle.grid_tables.specs.Inner.{GoodCells}
use Rattle.lists.proofs.Fronts.{front-is, front-room, front_at}
use Rattle.exposure_figures.specs.declared.Exact.{Exact}
use Rattle.exposure_figures.specs.Inner.{exact_of, Exactly}
use Rattle.exposure_figures.proofs.Figures.{is_true, is_false, exactly_of}
use Rattle.exposure_prices.specs.declared.Best.{Best}
use Rattle.exposure_bounds.specs.declared.Exposure.{Exposure}
use Rattle.test_excesses.specs.Inner.{cell_at}
use Rattle.exposure_prices.specs.Inner.{above_in, chosen_in, set_in, top_in}
use Rattle.exposure_bounds.specs.Inner.{AreExcesses, BestSet, WorstPrices, BetterPrices, Exposed}

highest_long : (k : ℕ) (a : ℕ → Bool) → length (highest_where k a) ≡ k
unfolding highest_where
highest_long k a = length-list_to k (λ (j : ℕ). cond (a j) max_price 0)

-- the later values alone stand at the front
overwrite-twice : {A : Type 0} (values other entry : List A) → length values ≡ length other → overwrite values (overwrite other entry) ≡ overwrite values entry
overwrite-twice {A} values other entry e =
    ap (λ (rest : List A). values ++ rest) (drop_at other (drop (length other) entry) (length values) (sym e) ∙ ap (λ (n : ℕ). drop n entry) (sym e))

pub largest_few : (n : ℕ) (f : ℕ → ℤ) (l : ℕ) → l ≡ largest_of n f → l ≤ n
largest_few n f l e = rw e (largest_upto n f)

pub largest_cong : (n : ℕ) (f g : ℕ → ℤ) → ((j : ℕ) → j < n → f j ≡ g j) → largest_of n f ≡ largest_of n g
unfolding largest_of
largest_cong zero f g h = refl
largest_cong (suc n) f g h = step (largest_cong n f g (λ j l. h j (omega arith)))
  where
    step : largest_of n f ≡ largest_of n g → cond (lt_z (f (largest_of n f)) (f n)) n (largest_of n f) ≡ cond (lt_z (g (largest_of n g)) (g n)) n (largest_of n g)
    step e =
        let top : f (largest_of n f) ≡ g (largest_of n g) = h (largest_of n f) (omega (arith, largest_upto n f)) ∙ ap g e in
        ap₂ (λ (b : Bool) (l : ℕ). cond b n l) (ap₂ lt_z top (h n (omega arith))) e

same_one : (l j : ℕ) → (leb l j && ltb j (l + 1)) ≡ eqb j l
same_one l j = by_bool (eqb j l) yes_one no_one
  where
    yes_one : eqb j l ≡ true → (leb l j && ltb j (l + 1)) ≡ eqb j l
    yes_one e = let q = eqb-true j l e in rw (e, le-leb l j (omega arith), lt-ltb j (l + 1) (omega arith)) refl

    no_one : eqb j l ≡ false → (leb l j && ltb j (l + 1)) ≡ eqb j l
    no_one e =
        let ne = eqb-false j l e in
        by_bool (ltb j l) (λ h. let b = ltb-true j l h in rw (e, lt-leb l j (omega arith)) refl)
        (λ h. let b = ltb-false j l h in rw (e, le-leb l j (omega arith), le-ltb j (l + 1) (omega (arith, ne))) refl)

module _ (g : Grid) (process : Process) (cs : List Contract) (cells : List ℤ) (are : AreExcesses g process cs cells) where
  abbrev K : ℕ
  K = g.factors.constraints

  pub cell_over : (j : ℕ) → j < K → lt_z (pos 0) (cell_at cells j) ≡ overloaded g process cs j
  cell_over j h =
      ap (lt_z (pos 0)) (are.each j h)
      ∙ by_bool (overloaded g process cs j) (λ t. sym (t ∙ is_true (pos 0) (excess g process cs j) (over-above g process cs j t)))
      (λ t. sym (t ∙ is_false (pos 0) (excess g process cs j) (not_over_within g process cs j t)))

  pub most-is : sum_to K (λ (j : ℕ). max0 (cell_at cells j)) *ℤ pos max_price ≡ all_excesses g process cs
  unfolding all_excesses
  most-is = ap (λ (z : ℤ). z *ℤ pos max_price) (sum_to_cong K (λ j h. ap max0 (are.each j h)))

  pub largest_is : largest_of K (cell_at cells) ≡ largest_excess g process cs
  unfolding largest_excess
  largest_is = largest_cong K (cell_at cells) (excess g process cs) are.each

  pub all-prices : highest_where K (chosen_in cells 0 K) ≡ all_prices g process cs
  unfolding all_prices
  all-prices = highest_cong K (chosen_in cells 0 K) (overloaded g process cs)
      (λ j h. rw (cell_over j h, le-leb 0 j (omega arith), lt-ltb j K h) (and_true (overloaded g process cs j)))
    where
      and_true : (b : Bool) → (b && true) ≡ b
      and_true true = refl
      and_true false = refl

  pub alone_prices : (l : ℕ) → l ≡ largest_of K (cell_at cells) → highest_where K (chosen_in cells l (l + 1)) ≡ alone_prices_of g process cs
  unfolding alone_prices_of
  alone_prices l e =
      highest_cong K (chosen_in cells l (l + 1)) (λ (k : ℕ). overloaded g process cs k && eqb k (largest_excess g process cs))
      (λ j h. ap₂ (λ (a b : Bool). a && b) (cell_over j h) (same_one l j ∙ ap (eqb j) (e ∙ largest_is)))

  pub alone_cost : (l : ℕ) → l ≡ largest_of K (cell_at cells) → top_in K cells l *ℤ pos max_price ≡ shortfall g process cs (alone_prices_of g process cs)
  alone_cost l e = ap (λ (z : ℤ). z *ℤ pos max_price) top ∙ sym (alone_figure g process cs)
    where
      m : ℕ
      m = largest_excess g process cs

      top : top_in K cells l ≡ cond (ltb (largest_excess g process cs) K) (max0 (excess g process cs (largest_excess g process cs))) (pos 0)
      top = ap (λ (j : ℕ). cond (ltb j K) (max0 (cell_at cells j)) (pos 0)) (e ∙ largest_is) ∙ by_bool (ltb m K) (λ h. rw (h, are.each m (ltb-true m K h)) refl)
          (λ h. rw h refl)

-- ---- the sets of overloaded constraints

pub count-cong : (n : ℕ) (a b : ℕ → Bool) → ((j : ℕ) → j < n → a j ≡ b j) → count_of n a ≡ count_of n b
unfolding count_of
count-cong zero a b h = refl
count-cong (suc n) a b h = ap₂ (λ (c : ℕ) (x : Bool). c + cond x 1 0) (count-cong n a b (λ j l. h j (omega arith))) (h n (omega arith))

module _ (g : Grid) (process : Process) (cs : List Contract) (cells : List ℤ) (are : AreExcesses g process cs cells) where
  pub count-is : count_of g.factors.constraints (above_in cells) ≡ overload_count g process cs
  unfolding overload_count
  count-is = count-cong g.factors.constraints (above_in cells) (overloaded g process cs) (cell_over g process cs cells are)

  pub set-prices : (m : ℕ) → highest_where g.factors.constraints (set_in cells m) ≡ set_prices g process cs m
  unfolding set_prices in_set
  set-prices m =
      highest_cong g.factors.constraints (set_in cells m) (in_set g process cs m)
      (λ j h. ap₂ (λ (a : Bool) (c : ℕ). a && eqb (m / 2 ^ c % 2) 1) (cell_over g process cs cells are j h)
      (count-cong j (above_in cells) (overloaded g process cs) (λ i l. cell_over g process cs cells are i (omega arith))))

-- ---- what a set costs

module _ (g : Grid) (process : Process) (cs : List Contract) where
  abbrev pub cost_of : ℕ → ℤ
  cost_of m = shortfall g process cs (set_prices g process cs m)

-- ---- a set's prices, drawn

module _ (n k : ℕ) (ls : List ℕ) (fs : List ℤ) (process : Process) (cs : List Contract) (cells : List ℤ) (are : AreExcesses (grid_of n k ls fs) process cs cells)
    (m : ℕ) (entry drawn : List ℕ) (fills : drawn ≡ overwrite (highest_where k (set_in cells m)) entry) where
  -- of all sets
  pub worst-drawn : (count : ℕ) → count ≡ count_of k (above_in cells) → (best : Best) → best.set ≡ m → BestSet (grid_of n k ls fs) process cs (2 ^ count) best
      → WorstPrices (grid_of n k ls fs) process cs entry drawn best.cost
  unfolding worst_set
  worst-drawn count counts best s h =
      let g = grid_of n k ls fs in
      let w : best.set ≡ worst_set g process cs = h.set_is ∙ ap (λ (c : ℕ). largest_of (2 ^ c) (cost_of g process cs)) (counts ∙ count-is g process cs cells are) in
      record {
        prices = fills ∙ ap (λ (values : List ℕ). overwrite values entry) (set-prices g process cs cells are m ∙ ap (set_prices g process cs) (sym s ∙ w));
        worst = exactly_of best.cost (ap (cost_of g process cs) w) h.cost_is;
      }

-- ---- what is drawn, and what it costs: few overloaded, or many

module _ (g : Grid) (process : Process) (cs : List Contract) (entry exit : List ℕ) (r : Exposure) (count : ℕ) (counts : count ≡ overload_count g process cs) where
  pub few-exposed : count ≤ few_overloads → WorstPrices g process cs entry exit r.least → r.most ≡ r.least → Exposed g process cs entry exit r
  unfolding exposure_prices_of least_exposure most_exposure
  few-exposed h w same =
      let is : few g process cs ≡ true = le-leb (overload_count g process cs) few_overloads (rw (← counts) h) in
      record {
        prices = rw is w.prices;
        least = rw is w.worst;
        most = rw (is, same) w.worst;
      }

  pub many_exposed : few_overloads < count → BetterPrices g process cs entry exit r.least → Exactly (all_excesses g process cs) r.most
      → Exposed g process cs entry exit r
  unfolding exposure_prices_of least_exposure most_exposure
  many_exposed h b m =
      let is : few g process cs ≡ false = lt-leb (overload_count g process cs) few_overloads (rw (← counts) h) in
      record { prices = rw is b.prices; least = rw is b.least; most = rw is m }

-- ---- of the two lists the better

module _ (g : Grid) (process : Process) (cs : List Contract) where
  pub alone_better : lt_z (shortfall g process cs (all_prices g process cs)) (shortfall g process cs (alone_prices_of g process cs)) ≡ true
      → (alone_prices_of g process cs ≡ either_prices g process cs) ×
      (shortfall g process cs (alone_prices_of g process cs) ≡ shortfall g process cs (either_prices g process cs))
  unfolding either_prices
  alone_better e = (rw e refl, rw e refl)

  pub all-better : lt_z (shortfall g process cs (all_prices g process cs)) (shortfall g process cs (alone_prices_of g process cs)) ≡ false
      → (all_prices g process cs ≡ either_prices g process cs) × (shortfall g process cs (all_prices g process cs) ≡ shortfall g process cs (either_prices g process cs))
  unfolding either_prices
  all-better e = (rw e refl, rw e refl)

-- ---- the prices filled in, and what of the two costs more

module _ (n k : ℕ) (ls : List ℕ) (fs : List ℤ) (process : Process) (t : Period) (book : List Contract) (cells : List ℤ)
    (are : AreExcesses (grid_of n k ls fs) process (of_period t book) cells) (l : ℕ) (largest : l ≡ largest_of k (cell_at cells)) (entry filled : List ℕ)
    (fills : filled ≡ overwrite (highest_where k (chosen_in cells 0 k)) entry) where
  abbrev grid : Grid
  grid = grid_of n k ls fs

  abbrev tested : List Contract
  tested = of_period t book

  pub filled-good : k ≤ length entry → GoodCells max_price k filled
  filled-good room =
      record {
        long = rw fills (front-room (highest_where k (chosen_in cells 0 k)) entry k (highest_long k (chosen_in cells 0 k)));
        sized = λ j h.
            rw (fills, front_at (highest_where k (chosen_in cells 0 k)) entry k (highest_long k (chosen_in cells 0 k)) j 0 h)
            ((highest_list k (chosen_in cells 0 k)).capped j h);
      }

  front : take k filled ≡ all_prices grid process tested
  front =
      ap (take k) fills ∙ front-is (highest_where k (chosen_in cells 0 k)) entry k (highest_long k (chosen_in cells 0 k)) ∙ all-prices grid process tested cells are

  module _ (alone all : Exact) (alone-costs : Exactly (top_in k cells l *ℤ pos max_price) alone)
      (all-costs : Exactly (shortfall grid process tested (take k filled)) all)
      (b : Bool) (decides : b ≡ lt_z (exact_of all) (exact_of alone)) where
    alone_is : exact_of alone ≡ shortfall grid process tested (alone_prices_of grid process tested)
    alone_is = alone-costs.is ∙ alone_cost grid process tested cells are l largest

    all-is : exact_of all ≡ shortfall grid process tested (all_prices grid process tested)
    all-is = all-costs.is ∙ ap (shortfall grid process tested) front

    decided : lt_z (shortfall grid process tested (all_prices grid process tested)) (shortfall grid process tested (alone_prices_of grid process tested)) ≡ b
    decided = sym (decides ∙ ap₂ lt_z all-is alone_is)

    pub all-kept : b ≡ false → BetterPrices grid process tested entry filled all
    all-kept e =
        let best = all-better grid process tested (decided ∙ e) in
        record {
          prices = fills ∙ ap (λ (values : List ℕ). overwrite values entry) (all-prices grid process tested cells are ∙ best.0);
          least = record { is = all-is ∙ best.1; parts-small = all-costs.parts-small; whole-sized = all-costs.whole-sized };
        }

    pub alone_taken : b ≡ true → (last : List ℕ) → last ≡ overwrite (highest_where k (chosen_in cells l (l + 1))) filled
        → BetterPrices grid process tested entry last alone
    alone_taken e last again =
        let best = alone_better grid process tested (decided ∙ e) in
        let long = highest_long k (chosen_in cells l (l + 1)) ∙ sym (highest_long k (chosen_in cells 0 k)) in
        record {
          prices =
              again ∙ ap (λ (before : List ℕ). overwrite (highest_where k (chosen_in cells l (l + 1))) before) fills
              ∙ overwrite-twice (highest_where k (chosen_in cells l (l + 1))) (highest_where k (chosen_in cells 0 k)) entry long
              ∙ ap (λ (values : List ℕ). overwrite values entry) (alone_prices grid process tested cells are l largest ∙ best.0);
          least = record { is = alone_is ∙ best.1; parts-small = alone-costs.parts-small; whole-sized = alone-costs.whole-sized };
        }
