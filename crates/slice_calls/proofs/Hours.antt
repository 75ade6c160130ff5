-- The figures of an hour's slices are those of the whole.
use mathlib.Core.Path.{◌≡◌, refl, sym, ap, ap₂, subst, ◌∙◌}
use mathlib.Core.Bool.{cond}
use mathlib.Core.List.{List, [], ◌∷◌, ◌++◌, map, flat_map}
use Prim.Native.Nat.{ℕ, suc}
use lib.ListN.{length, get_or, take, drop, length-map}
use lib.Seq.{take-append_seam, take_all}
use lib.IntN.{ℤ, pos, ◌+ℤ◌, ◌*ℤ◌}
use Rattle.lists.specs.Lent.{overwrite, before, after}
use Rattle.integers.specs.Sums.{sum_over_of}
use Rattle.integers.proofs.Sums.{sum_over-cong, sum_over-append}
use Rattle.tariff.specs.declared.contracts.Contract.{Contract}
use Rattle.tariff.specs.declared.contracts.Period.{Period}
use Rattle.tariff.specs.Refusals.{Checked, passed}
use Rattle.std.specs.Prelude.{Ok}
use Rattle.tariff.specs.Units.{Factors, per_cent}
use Rattle.tariff.specs.ContractRules.{same_period, of_period}
use Rattle.tariff.specs.Refusals.{cells_after}
use Rattle.tariff.specs.Settlement.{amount, cents, exact_total, whole_cents, parts}
use Rattle.tariff.proofs.Answers.{given-told, none-refused, figure-is}
use Rattle.tariff.proofs.Periods.{of_period-append}
use Rattle.layouts.specs.BookFile.{book_in}
use Rattle.hour_rules.specs.SettleHour.{HourCall, hour_factors, hour_prices, hour_period, settle_checked, cents_of, cents_sum, hour_total, cents_cells, sum_given, exact_given}
use Rattle.order_rules.proofs.Perms.{period-sum_perm}
use Rattle.slice_rules.specs.Slices.{Block, StandsFor, Pairwise, AllStandFor}
use Rattle.slice_rules.specs.Hours.{PricedBlock, SettledAsWhole}
use Rattle.slice_rules.proofs.Flowing.{stands-period, stands-length}
use Rattle.slice_rules.proofs.Theorems.{amount-is_the_whole}
use Rattle.slice_calls.specs.Hours.{HourGiven, HourSlice, SliceSettledAsWhole, HourSettledAsWhole, HoursInSlices}

-- ---- by the rules

module _ (R : Contract → Contract → Type 0) where
  pair_map : {A : Type 0} (f g : Contract → A) → ((c d : Contract) → R c d → g d ≡ f c) → (cs ds : List Contract) → Pairwise R cs ds → map g ds ≡ map f cs
  pair_map f g same [] [] r = refl
  pair_map f g same [] (d ∷ ds) r = absurd r
  pair_map f g same (c ∷ cs) [] r = absurd r
  pair_map f g same (c ∷ cs) (d ∷ ds) r = ap₂ ◌∷◌ (same c d r.0) (pair_map f g same cs ds r.1)

  pair_sum : (f g : Contract → ℤ) → ((c d : Contract) → R c d → g d ≡ f c) → (cs ds : List Contract) → Pairwise R cs ds → sum_over_of ds g ≡ sum_over_of cs f
  unfolding sum_over_of
  pair_sum f g same [] [] r = refl
  pair_sum f g same [] (d ∷ ds) r = absurd r
  pair_sum f g same (c ∷ cs) [] r = absurd r
  pair_sum f g same (c ∷ cs) (d ∷ ds) r = ap₂ ◌+ℤ◌ (same c d r.0) (pair_sum f g same cs ds r.1)

module _ (whole : Factors) (prices : List ℕ) (t : Period) (b : Block) (slice : Factors) (own : List ℕ) (size : slice.constraints ≡ b.size)
    (p : PricedBlock whole.constraints prices b own) where
  settled : (c d : Contract) → StandsFor whole b slice c d → SettledAsWhole whole prices b slice own c d
  settled = amount-is_the_whole whole prices b slice own size p

  cents-one : (c d : Contract) → StandsFor whole b slice c d → cents_of slice own t d ≡ cents_of whole prices t c
  unfolding cents_of
  cents-one c d s = ap₂ (λ (u : Period) (z : ℤ). cond (same_period u t) z (pos 0)) s.period-same (settled c d s).cents-same

  module _ (cs ds : List Contract) (stands : AllStandFor whole b slice cs ds) where
    cents-all : map (cents_of slice own t) ds ≡ map (cents_of whole prices t) cs
    cents-all = pair_map (StandsFor whole b slice) (cents_of whole prices t) (cents_of slice own t) cents-one cs ds stands

    sum-all : cents_sum slice own t ds ≡ cents_sum whole prices t cs
    unfolding cents_sum
    sum-all =
        pair_sum (StandsFor whole b slice) (λ c. cents (amount whole prices c)) (λ d. cents (amount slice own d)) (λ c d s. (settled c d s).cents-same)
        (of_period t cs) (of_period t ds) (stands-period whole b slice t cs ds stands)

    total-all : hour_total slice own t ds ≡ hour_total whole prices t cs
    unfolding hour_total exact_total
    total-all =
        pair_sum (StandsFor whole b slice) (amount whole prices) (amount slice own) (λ c d s. (settled c d s).amount-same)
        (of_period t cs) (of_period t ds) (stands-period whole b slice t cs ds stands)

-- ---- by what a call gave

record Figures (q : HourCall) (cs : List ℤ) (sum total : ℤ) : Type 0 where
  entry : List ℤ
  cents-are : cs ≡ overwrite (cents_cells q) entry
  sum_is : sum ≡ sum_given q
  total-is : total ≡ exact_given q

given_by : (q : HourCall) {cs : List ℤ} {sum total : ℤ} → HourGiven q cs sum total → Figures q cs sum total
given_by q (HourGiven.by_entry cents sets sum whole part s) =
    let vs = sum_given q ∷ whole_cents (exact_given q) ∷ pos (parts (exact_given q)) ∷ [] in
    let told = given-told (settle_checked q cents sets) vs (sum ∷ whole ∷ pos part ∷ []) s.totals in
    record {
      entry = before cents;
      cents-are = s.cents-settled ∙ ap (λ (x : Checked). cells_after x (cents_cells q) (before cents)) told.0;
      sum_is = ap (λ (l : List ℤ). get_or l 0 (pos 0)) told.1;
      total-is = s.exact told.0 sum whole part refl;
    }
given_by q (HourGiven.by_crr cents sets sum whole part s) =
    let told = none-refused (settle_checked q cents sets) s.refusal-number in
    record {
      entry = before cents;
      cents-are = s.cents-settled ∙ ap (λ (x : Checked). cells_after x (cents_cells q) (before cents)) told;
      sum_is = figure-is (settle_checked q cents sets) told (sum_given q) (before sum) (after sum) s.sum-given;
      total-is = s.exact told;
    }

taken_front : (n : ℕ) (values entry : List ℤ) → length values ≡ n → take n (overwrite values entry) ≡ values
taken_front n values entry e = ap (λ (m : ℕ). take m (overwrite values entry)) (sym e) ∙ take-append_seam values (drop (length values) entry)

module _ (whole : Factors) (prices : List ℕ) (t : Period) where
  slice_figures : (s : HourSlice whole prices t) → SliceSettledAsWhole whole prices t s
  slice_figures s =
      let q = s.call in
      let f = given_by q s.given in
      let ds = book_in q.book in
      let cells : cents_cells q ≡ map (cents_of whole prices t) s.contracts
      = ap (λ (u : Period). map (cents_of (hour_factors q) (hour_prices q) u) ds) s.period-is
      ∙ cents-all whole prices t s.block (hour_factors q) (hour_prices q) s.size_is s.priced s.contracts ds s.stands in
      record {
        cents-are =
            ap (take (length s.contracts)) (f.cents-are ∙ ap (λ (l : List ℤ). overwrite l f.entry) cells)
            ∙ taken_front (length s.contracts) (map (cents_of whole prices t) s.contracts) f.entry (length-map s.contracts (cents_of whole prices t));
        sum_is =
            f.sum_is
            ∙ ap (λ (u : Period). cents_sum (hour_factors q) (hour_prices q) u ds) s.period-is
            ∙ sum-all whole prices t s.block (hour_factors q) (hour_prices q) s.size_is s.priced s.contracts ds s.stands;
        total-is =
            f.total-is
            ∙ ap (λ (u : Period). hour_total (hour_factors q) (hour_prices q) u ds) s.period-is
            ∙ total-all whole prices t s.block (hour_factors q) (hour_prices q) s.size_is s.priced s.contracts ds s.stands;
      }

  -- slices' sums, added, are that of the contracts that they hold together
  together : (w : Contract → ℤ) (slices : List (HourSlice whole prices t)) → sum_over_of slices (λ (s : HourSlice whole prices t). sum_over_of (of_period t s.contracts) w)
      ≡ sum_over_of (of_period t (flat_map (λ (s : HourSlice whole prices t). s.contracts) slices)) w
  unfolding sum_over_of flat_map of_period
  together w [] = refl
  together w (s ∷ ss) =
      let more = flat_map (λ (s : HourSlice whole prices t). s.contracts) ss in
      ap (λ (z : ℤ). sum_over_of (of_period t s.contracts) w +ℤ z) (together w ss)
      ∙ sym (sum_over-append (of_period t s.contracts) (of_period t more) w)
      ∙ ap (λ (cs : List Contract). sum_over_of cs w) (sym (of_period-append t s.contracts more))

pub hours_in_slices : HoursInSlices
unfolding cents_sum hour_total exact_total
hours_in_slices =
    record {
      slice_settled_as_whole = slice_figures;
      hour_settled_as_whole = λ whole prices t book slices all.
          let cs = flat_map (λ (s : HourSlice whole prices t). s.contracts) slices in
          record {
            sums_are =
                sum_over-cong slices (λ (s : HourSlice whole prices t). (slice_figures whole prices t s).sum_is)
                ∙ together whole prices t (λ c. cents (amount whole prices c)) slices
                ∙ period-sum_perm t (λ c. cents (amount whole prices c)) cs book all;
            totals-are =
                sum_over-cong slices (λ (s : HourSlice whole prices t). (slice_figures whole prices t s).total-is)
                ∙ together whole prices t (amount whole prices) slices
                ∙ period-sum_perm t (amount whole prices) cs book all;
          };
    }
