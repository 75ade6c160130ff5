-- THE THEOREMS of exposure, each for every grid, process and contracts.
use mathlib.Core.Path.{◌≡◌, refl, sym, ap, ◌∙◌}
use mathlib.Core.Logic.{◌↔◌, inl}
use mathlib.Core.Bool.{Bool, true, false, not, cond, ◌&&◌}
use mathlib.Core.List.{List, [], ◌∷◌}
use Prim.Native.Nat.{ℕ, ◌/◌, ◌%◌, ◌^◌, ◌≤◌, ◌<◌}
use native.Mathlib.Omega.{arith}
use borrow.Author.Tests.{ltb-true, ltb-false, leb-false, eq-eqb, ne_eqb, eqb-true}
use lib.Dec.{T, eqb, ltb}
use lib.IntN.{ℤ, pos, ◌*ℤ◌, zero-*ℤ}
use lib.Signed.{◌≤ℤ◌, ≤ℤ_refl, lt_z, lt_z_yes, lt_z_no, clash_ℤ}
use Rattle.integers.specs.Sums.{max0}
use Rattle.integers.proofs.Linear.{⊖of, ⊖s, ≤ℤ-trans, ≤ℤ-antisym, ≤ℤ-of_≡, *pos_mono, minus≤0}
use Rattle.integers.proofs.Sums.{sum_to_cong, sum_to_zero}
use Rattle.lists.specs.Lists.{Each}
use Rattle.lists.specs.Sets.{set_of, count_of}
use Rattle.tariff.specs.declared.contracts.Kind.TheVariants.{Obligation}
use Rattle.tariff.specs.declared.contracts.Contract.{Contract}
use Rattle.tariff.specs.declared.processes.Process.{Process}
use Rattle.tariff.specs.Units.{Grid, price, max_price}
use Rattle.tariff.specs.Feasibility.{excess, overloaded, overload_count, Passes}
use Rattle.tariff.specs.Shortfall.{PriceList, shortfall, one_cent, IsWorst}
use Rattle.tariff.proofs.Worst.{only_list, only_shortfall}
use Rattle.exposure_rules.specs.Exposure.{highest_where, few_overloads, in_set, set_prices, worst_set, largest_excess, all_prices, alone_prices_of}
use Rattle.exposure_rules.specs.Exposure.{either_prices, all_excesses, few, exposure_prices_of, least_exposure, most_exposure}
use Rattle.exposure_rules.specs.Theorems.{OneWay, OnlyOverloaded, priced_on, AtCorner, Exposes}
use Rattle.exposure_rules.proofs.Plain.{lt_le, max0-same, max0-none, max0-below, sum-counted, at-most_once, largest_inside, largest_most}
use Rattle.exposure_rules.proofs.Scaling.{highest_at, highest_list, none-shortfall, single_shortfall}
use Rattle.exposure_rules.proofs.Bounds as B
use Rattle.exposure_rules.proofs.Corners as C
use Rattle.exposure_rules.proofs.Sets as S
use Rattle.exposure_rules.proofs.Lowest as L

and_false : (b : Bool) → (b && false) ≡ false
and_false true = refl
and_false false = refl

times_swap : (t : ℤ) (m c : ℕ) → t *ℤ pos c *ℤ pos m ≡ t *ℤ pos m *ℤ pos c
times_swap t m c = rw (⊖of t) (simp ⊖s (omega arith))

module _ (g : Grid) (process : Process) (cs : List Contract) where
  abbrev K : ℕ
  K = g.factors.constraints

  abbrev over : ℕ → Bool
  over = overloaded g process cs

  abbrev e : ℕ → ℤ
  e = excess g process cs

  -- where many are overloaded: the two figures
  abbrev low : ℤ
  low = shortfall g process cs (either_prices g process cs)

  abbrev high : ℤ
  high = all_excesses g process cs

  -- no price list's shortfall exceeds all excesses at the highest price
  pub shortfall-at_most : (p : List ℕ) → PriceList K p → shortfall g process cs p ≤ℤ high
  shortfall-at_most = B.shortfall-at_most g process cs

  -- the highest price on one constraint alone: its excess at that price
  pub single_reaches : (k : ℕ) → k < K → shortfall g process cs (highest_where K (λ (j : ℕ). eqb j k)) ≡ excess g process cs k *ℤ pos max_price
  single_reaches k h = single_shortfall g k h (λ (j : ℕ). eqb j k) (eq-eqb k k refl) (λ j b ne. ne_eqb j k ne) process cs

  -- ---- the largest excess alone

  abbrev l : ℕ
  l = largest_excess g process cs

  abbrev alone : ℕ → Bool
  alone k = over k && eqb k l

  pub alone_shortfall : l < K → over l ≡ true → shortfall g process cs (alone_prices_of g process cs) ≡ e l *ℤ pos max_price
  unfolding alone_prices_of
  alone_shortfall h t = single_shortfall g l h alone (rw (t, eq-eqb l l refl) refl)
      (λ j b ne. ap (λ (c : Bool). over j && c) (ne_eqb j l ne) ∙ and_false (over j)) process cs

  -- its figure at one cent: 0 where no constraint is overloaded
  record Top : Type 0 where
    top : ℤ
    shortfall-is : shortfall g process cs (alone_prices_of g process cs) ≡ top *ℤ pos max_price
    nonneg : pos 0 ≤ℤ top
    above : (k : ℕ) → k < K → e k ≤ℤ top

  largest_is : (k : ℕ) → k < K → e k ≤ℤ e l
  unfolding largest_excess
  largest_is k h = largest_most K e k h

  inside : 0 < K → l < K
  unfolding largest_excess
  inside h = largest_inside K e h

  none-alone : ((k : ℕ) → k < K → e k ≤ℤ pos 0) → ((k : ℕ) → k < K → alone k ≡ false) → Top
  unfolding alone_prices_of
  none-alone below none =
      record { top = pos 0; shortfall-is = none-shortfall g process cs alone none ∙ sym (zero-*ℤ (pos max_price)); nonneg = ≤ℤ_refl (pos 0); above = below }

  alone_none : over l ≡ false → (k : ℕ) → alone k ≡ false
  alone_none t k = B.by_bool (eqb k l) at other
    where
      at : eqb k l ≡ true → alone k ≡ false
      at q = ap (λ (j : ℕ). over j && eqb k l) (eqb-true k l q) ∙ ap (λ (c : Bool). c && eqb k l) t

      other : eqb k l ≡ false → alone k ≡ false
      other q = ap (λ (c : Bool). over k && c) q ∙ and_false (over k)

  top_is : Top
  top_is = B.by_bool (ltb 0 K) (λ h. B.by_bool (over l) (some (inside (ltb-true 0 K h))) none) empty
    where
      some : l < K → over l ≡ true → Top
      some h t = record { top = e l; shortfall-is = alone_shortfall h t; nonneg = lt_le (B.over-above g process cs l t); above = largest_is }

      none : over l ≡ false → Top
      none t = none-alone (λ k h. ≤ℤ-trans (largest_is k h) (B.not_over_within g process cs l t)) (λ k h. alone_none t k)

      empty : ltb 0 K ≡ false → Top
      empty h = none-alone (λ k b. absurd (omega (arith, ltb-false 0 K h))) (λ k b. absurd (omega (arith, ltb-false 0 K h)))

  -- as code goes by it
  pub alone_figure : shortfall g process cs (alone_prices_of g process cs) ≡ cond (ltb l K) (max0 (e l)) (pos 0) *ℤ pos max_price
  unfolding alone_prices_of
  alone_figure = B.by_bool (ltb l K) (λ h. B.by_bool (over l) (some h) (none h)) beyond
    where
      some : ltb l K ≡ true → over l ≡ true → shortfall g process cs (highest_where K alone) ≡ cond (ltb l K) (max0 (e l)) (pos 0) *ℤ pos max_price
      some h t =
          alone_shortfall (ltb-true l K h) t
          ∙ ap (λ (z : ℤ). z *ℤ pos max_price) (sym (ap (λ (c : Bool). cond c (max0 (e l)) (pos 0)) h ∙ max0-same (e l) (lt_le (B.over-above g process cs l t))))

      none : ltb l K ≡ true → over l ≡ false → shortfall g process cs (highest_where K alone) ≡ cond (ltb l K) (max0 (e l)) (pos 0) *ℤ pos max_price
      none h t =
          none-shortfall g process cs alone (λ k b. alone_none t k) ∙ sym (zero-*ℤ (pos max_price))
          ∙ ap (λ (z : ℤ). z *ℤ pos max_price) (sym (ap (λ (c : Bool). cond c (max0 (e l)) (pos 0)) h ∙ max0-none (e l) (B.not_over_within g process cs l t)))

      beyond : ltb l K ≡ false → shortfall g process cs (highest_where K alone) ≡ cond (ltb l K) (max0 (e l)) (pos 0) *ℤ pos max_price
      beyond h =
          none-shortfall g process cs alone (λ k b. absurd (omega (arith, ltb-false l K h, inside (omega arith))))
          ∙ sym (ap (λ (c : Bool). cond c (max0 (e l)) (pos 0) *ℤ pos max_price) h ∙ zero-*ℤ (pos max_price))

  -- ---- the better of the two lists

  record Better (p : List ℕ) : Type 0 where
    is-list : PriceList K p
    over-all : shortfall g process cs (all_prices g process cs) ≤ℤ shortfall g process cs p
    over-alone : shortfall g process cs (alone_prices_of g process cs) ≤ℤ shortfall g process cs p

  better : Better (either_prices g process cs)
  unfolding either_prices all_prices alone_prices_of
  better = by (lt_z x y) (λ t. lt_le (lt_z_yes t)) (λ t. lt_z_no t)
    where
      x : ℤ
      x = shortfall g process cs (all_prices g process cs)

      y : ℤ
      y = shortfall g process cs (alone_prices_of g process cs)

      by : (b : Bool) → (T b → x ≤ℤ y) → (T (not b) → y ≤ℤ x) → Better (cond b (alone_prices_of g process cs) (all_prices g process cs))
      by true lo hi = record { is-list = highest_list K alone; over-all = lo tt; over-alone = ≤ℤ_refl y }
      by false lo hi = record { is-list = highest_list K over; over-all = ≤ℤ_refl x; over-alone = hi tt }

  either_list : PriceList K (either_prices g process cs)
  either_list = better.is-list

  low-nonneg : pos 0 ≤ℤ low
  low-nonneg =
      ≤ℤ-trans (≤ℤ-of_≡ (sym (zero-*ℤ (pos max_price))))
      (≤ℤ-trans (*pos_mono max_price top_is.nonneg) (≤ℤ-trans (≤ℤ-of_≡ (sym top_is.shortfall-is)) better.over-alone))

  low≤high : low ≤ℤ high
  low≤high = shortfall-at_most (either_prices g process cs) either_list

  -- ---- the worst shortfall is between the two

  either_brackets : (w : ℤ) → IsWorst g process cs w → (low ≤ℤ w) × (w ≤ℤ high)
  either_brackets w h = (h.most (either_prices g process cs) either_list, ≤ℤ-trans (≤ℤ-of_≡ (sym h.reached)) (shortfall-at_most h.prices h.is-list))

  -- the bracket is no wider than the number of overloaded constraints
  either_near : high ≤ℤ (low *ℤ pos (overload_count g process cs))
  unfolding all_excesses overload_count
  either_near =
      ≤ℤ-trans (*pos_mono max_price (sum-counted K (λ k. max0 (e k)) over top_is.top each none))
      (≤ℤ-trans (≤ℤ-of_≡ (times_swap top_is.top max_price (count_of K over)))
      (*pos_mono (count_of K over) (≤ℤ-trans (≤ℤ-of_≡ (sym top_is.shortfall-is)) better.over-alone)))
    where
      each : (k : ℕ) → k < K → max0 (e k) ≤ℤ top_is.top
      each k h = max0-below (e k) top_is.top (top_is.above k h) top_is.nonneg

      none : (k : ℕ) → k < K → over k ≡ false → max0 (e k) ≤ℤ pos 0
      none k h t = ≤ℤ-of_≡ (max0-none (e k) (B.not_over_within g process cs k t))

  -- ---- where both are one number

  either_worst : low ≡ high → IsWorst g process cs high
  either_worst q = record { prices = either_prices g process cs; is-list = either_list; reached = q; most = shortfall-at_most }

  one_overloaded : overload_count g process cs ≤ 1 → low ≡ high
  one_overloaded h = ≤ℤ-antisym low≤high (≤ℤ-trans either_near (at-most_once low (overload_count g process cs) low-nonneg h))

  one_way : Each (OneWay g process cs) cs → low ≡ high
  one_way ways = ≤ℤ-antisym low≤high (≤ℤ-trans (≤ℤ-of_≡ (sym (B.one_way_reaches g process cs ways))) better.over-all)

  obligations : (ds : List Contract) → Each (λ (c : Contract). c.kind ≡ Obligation) ds → Each (OneWay g process cs) ds
  obligations [] h = tt
  obligations (d ∷ ds) h = (inl h.0, obligations ds h.1)

  for_obligations : Each (λ (c : Contract). c.kind ≡ Obligation) cs → low ≡ high
  for_obligations h = one_way (obligations cs h)

  -- ---- nothing can be lost exactly where the test passes

  within_all : ((k : ℕ) → k < K → shortfall g process cs (one_cent K k) ≤ℤ pos 0) → Passes g process cs
  unfolding excess
  within_all h = record { within = λ k b. minus≤0.1 (≤ℤ-trans (≤ℤ-of_≡ (sym (only_shortfall g process cs k b))) (h k b)) }

  ≤0→pass : high ≤ℤ pos 0 → Passes g process cs
  ≤0→pass h = within_all (λ k b. ≤ℤ-trans (shortfall-at_most (one_cent K k) (only_list g k b)) h)

  pass→none : Passes g process cs → high ≡ pos 0
  unfolding all_excesses excess
  pass→none h =
      ap (λ (z : ℤ). z *ℤ pos max_price) (sum_to_cong K (λ k b. max0-none (e k) (minus≤0.0 (h.within k b))) ∙ sum_to_zero K) ∙ zero-*ℤ (pos max_price)

  high-none : (high ≡ pos 0) ↔ Passes g process cs
  high-none = (λ q. ≤0→pass (≤ℤ-of_≡ q), pass→none)

  low-none : (low ≡ pos 0) ↔ Passes g process cs
  low-none = (
    λ q. ≤0→pass (≤ℤ-trans either_near (≤ℤ-of_≡ (ap (λ (z : ℤ). z *ℤ pos (overload_count g process cs)) q ∙ zero-*ℤ (pos (overload_count g process cs))))),
    λ h. ≤ℤ-antisym (≤ℤ-trans low≤high (≤ℤ-of_≡ (pass→none h))) low-nonneg,
  )

  -- the prices are 0 wherever nothing is overloaded
  either_elsewhere : (k : ℕ) → k < K → over k ≡ false → price (either_prices g process cs) k ≡ 0
  unfolding either_prices all_prices alone_prices_of
  either_elsewhere k h t = by (lt_z (shortfall g process cs (all_prices g process cs)) (shortfall g process cs (alone_prices_of g process cs)))
    where
      by : (b : Bool) → price (cond b (alone_prices_of g process cs) (all_prices g process cs)) k ≡ 0
      by true = highest_at K alone k h ∙ ap (λ (c : Bool). cond (c && eqb k l) max_price 0) t
      by false = highest_at K over k h ∙ ap (λ (c : Bool). cond c max_price 0) t

  not_over : Passes g process cs → (k : ℕ) → k < K → over k ≡ false
  unfolding excess
  not_over p k h = B.by_bool (over k) (λ t. clash_ℤ {a = pos 0} {b = e k} (B.over-above g process cs k t) (minus≤0.0 (p.within k h))) (λ t. t)

  -- the worst shortfall is what the highest price costs on some of the overloaded constraints: no price in between, none elsewhere
  pub worst-at_corner : (w : ℤ) → IsWorst g process cs w → AtCorner g process cs w
  worst-at_corner = C.worst-at_corner g process cs

  -- ---- few are overloaded: every set of them was tried

  pub sets-worst : IsWorst g process cs (shortfall g process cs (set_prices g process cs (worst_set g process cs)))
  sets-worst = S.sets-worst g process cs

  module _ (w : ℤ) (worst : IsWorst g process cs w) where
    above_low : low ≤ℤ w
    above_low = (either_brackets w worst).0

    below-high : w ≤ℤ high
    below-high = (either_brackets w worst).1

    worst-near : w ≤ℤ (w *ℤ pos (overload_count g process cs))
    worst-near = ≤ℤ-trans below-high (≤ℤ-trans either_near (*pos_mono (overload_count g process cs) above_low))

    worst-none : (w ≡ pos 0) ↔ Passes g process cs
    worst-none = (
      λ q. within_all (λ k b. ≤ℤ-trans (worst.most (one_cent K k) (only_list g k b)) (≤ℤ-of_≡ q)),
      λ h. ≤ℤ-antisym (≤ℤ-trans below-high (≤ℤ-of_≡ (pass→none h))) (≤ℤ-trans low-nonneg above_low),
    )

    same_worst : (v : ℤ) → IsWorst g process cs v → v ≡ w
    same_worst v h =
        ≤ℤ-antisym (≤ℤ-trans (≤ℤ-of_≡ (sym h.reached)) (worst.most h.prices h.is-list))
        (≤ℤ-trans (≤ℤ-of_≡ (sym worst.reached)) (h.most worst.prices worst.is-list))

  sets-elsewhere : (m k : ℕ) → k < K → over k ≡ false → price (set_prices g process cs m) k ≡ 0
  unfolding set_prices in_set
  sets-elsewhere m k h t = highest_at K (in_set g process cs m) k h ∙ ap (λ (c : Bool). cond (c && eqb (m / 2 ^ count_of k over % 2) 1) max_price 0) t

  few-exposes : (p : List ℕ) → PriceList K p → IsWorst g process cs (shortfall g process cs p) → ((k : ℕ) → k < K → over k ≡ false → price p k ≡ 0)
      → ((chosen : ℕ → Bool) → OnlyOverloaded g process cs chosen → shortfall g process cs
      (highest_where K chosen) ≡ shortfall g process cs p → priced_on K p ≤ set_of K chosen)
      → Exposes g process cs p (shortfall g process cs p) (shortfall g process cs p)
  few-exposes p is-list worst elsewhere lowest =
      record {
        is-list = is-list;
        reached = refl;
        at_most = worst.most;
        brackets = λ w h. let e = same_worst (shortfall g process cs p) worst w h in (≤ℤ-of_≡ (sym e), ≤ℤ-of_≡ e);
        near = worst-near (shortfall g process cs p) worst;
        exact-where_few = λ h. worst;
        same_where_few = λ h. refl;
        lowest-of_equals = λ h. lowest;
        exact = λ q. worst;
        exact-where_one_overloaded = λ h. refl;
        exact-where_one_way = λ h. refl;
        exact-for_obligations = λ h. refl;
        none_elsewhere = elsewhere;
        none-where_passing = λ r k h. elsewhere k h (not_over r k h);
        none-is_pass = worst-none (shortfall g process cs p) worst;
        least-none_is_pass = worst-none (shortfall g process cs p) worst;
      }

  -- ---- many are

  many_exposes : few g process cs ≡ false → Exposes g process cs (either_prices g process cs) low high
  many_exposes many =
      record {
        is-list = either_list;
        reached = refl;
        at_most = shortfall-at_most;
        brackets = either_brackets;
        near = either_near;
        exact-where_few = λ h. absurd (omega (arith, h, not_few));
        same_where_few = λ h. absurd (omega (arith, h, not_few));
        lowest-of_equals = λ h. absurd (omega (arith, h, not_few));
        exact = either_worst;
        exact-where_one_overloaded = one_overloaded;
        exact-where_one_way = one_way;
        exact-for_obligations = for_obligations;
        none_elsewhere = either_elsewhere;
        none-where_passing = λ p k h. either_elsewhere k h (not_over p k h);
        none-is_pass = high-none;
        least-none_is_pass = low-none;
      }
    where
      not_few : few_overloads < overload_count g process cs
      not_few = leb-false (overload_count g process cs) few_overloads many

  -- ---- all of it, as the promise says it

  pub exposes : Exposes g process cs (exposure_prices_of g process cs) (least_exposure g process cs) (most_exposure g process cs)
  unfolding exposure_prices_of least_exposure most_exposure
  exposes = by (few g process cs) refl
    where
      p : ℕ → List ℕ
      p m = set_prices g process cs m

      by : (b : Bool) → few g process cs ≡ b
          → Exposes g process cs (cond b (p (worst_set g process cs)) (either_prices g process cs))
          (shortfall g process cs (cond b (p (worst_set g process cs)) (either_prices g process cs)))
          (cond b (shortfall g process cs (cond b (p (worst_set g process cs)) (either_prices g process cs))) (all_excesses g process cs))
      by true e = few-exposes (p (worst_set g process cs)) (S.set-list g process cs (worst_set g process cs)) sets-worst (sets-elsewhere (worst_set g process cs))
          (L.sets-lowest g process cs)
      by false e = many_exposes e

  pub exposure_list : PriceList K (exposure_prices_of g process cs)
  exposure_list = exposes.is-list

  -- where at most ten are overloaded, the least is the worst shortfall
  pub exact-where_few : overload_count g process cs ≤ few_overloads → IsWorst g process cs (least_exposure g process cs)
  exact-where_few = exposes.exact-where_few
