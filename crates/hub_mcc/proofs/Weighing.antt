-- A turn of the weighted sum. What is left of the weights bounds what is still to come: a partial sum fits only because all weights are together 100,000.
use mathlib.Core.Path.{◌≡◌, sym, ap, ap₂, ◌∙◌}
use mathlib.Core.Bool.{false}
use mathlib.Core.List.{List, [], ◌∷◌}
use Prim.Native.Nat.{ℕ, ◌+◌, ◌*◌, ◌≤◌, ◌<◌, ◌^◌}
use native.Mathlib.Omega.{arith}
use borrow.Author.Tests.{leb-false}
use lib.Dec.{leb}
use lib.ListN.{length, get_or, drop, drop_of_length-le}
use lib.IntN.{ℤ, pos, nat_abs, ◌+ℤ◌, ◌*ℤ◌, +ℤ_assoc, +ℤ_idr}
use Rattle.lists.specs.Lists.{any_of}
use Rattle.lists.proofs.Search.{neither}
use Rattle.integers.proofs.Sizes.{nat_abs_add, nat_abs_times}
use Rattle.tariff.specs.Units.{Factors, hub_weight}
use Rattle.tariff.specs.Inner.{max_mcc, max_weighted}
use Rattle.tariff.specs.Settlement.{mcc}
use Rattle.hub_rules.specs.Hubs.{sum_by_of, hub_sum}
use Rattle.hub_checks.proofs.Rest.{rest-cons, sum-rest}

-- what the weights from place i on may still add
abbrev pub to_come : List ℕ → ℕ → ℕ
to_come ws i = max_mcc * sum_by_of (λ w. w) (drop i ws)

module _ (ws : List ℕ) (i : ℕ) (hw : i < length ws) (s : ℤ) (room : nat_abs s + to_come ws i ≤ max_weighted) where
  pub weight_in : get_or ws i 0 ≤ hub_weight
  weight_in = omega (arith, sum-rest (λ w. w) ws i hw)

  module _ (m : ℤ) (sized : nat_abs m ≤ max_mcc) (x : ℤ) (is : x ≡ pos (get_or ws i 0) *ℤ m) where
    size-more : nat_abs x ≤ get_or ws i 0 * max_mcc
    size-more = rw is (nat_abs_times (pos (get_or ws i 0)) m {A = get_or ws i 0} (omega arith) sized)

    pub plus_fits : nat_abs s + nat_abs x < 2 ^ 63
    plus_fits = omega (arith, size-more, sum-rest (λ w. w) ws i hw)

    pub room-left : (t : ℤ) → t ≡ s +ℤ x → nat_abs t + to_come ws (i + 1) ≤ max_weighted
    room-left t e = rw e (omega (arith, size-more, nat_abs_add s x, sum-rest (λ w. w) ws i hw))

module _ (f : Factors) (p ns ws : List ℕ) (i : ℕ) where
  hub-rest : i < length ns → i < length ws
      → hub_sum f p (drop i ns) (drop i ws) ≡ pos (get_or ws i 0) *ℤ mcc f p (get_or ns i 0) +ℤ hub_sum f p (drop (i + 1) ns) (drop (i + 1) ws)
  unfolding hub_sum
  hub-rest hn hw = ap₂ (hub_sum f p) (rest-cons ns i 0 hn) (rest-cons ws i 0 hw)

  pub sum-turn : i < length ns → i < length ws → (s x t : ℤ) → x ≡ pos (get_or ws i 0) *ℤ mcc f p (get_or ns i 0) → t ≡ s +ℤ x
      → s +ℤ hub_sum f p (drop i ns) (drop i ws) ≡ hub_sum f p ns ws → t +ℤ hub_sum f p (drop (i + 1) ns) (drop (i + 1) ws) ≡ hub_sum f p ns ws
  sum-turn hn hw s x t is e so_far =
      let rest = hub_sum f p (drop (i + 1) ns) (drop (i + 1) ws) in
      ap (λ (y : ℤ). y +ℤ rest) e ∙ +ℤ_assoc s x rest ∙ ap (λ (y : ℤ). s +ℤ (y +ℤ rest)) is ∙ ap (λ (y : ℤ). s +ℤ y) (sym (hub-rest hn hw)) ∙ so_far

  pub sum-end : length ns ≤ i → (s : ℤ) → s +ℤ hub_sum f p (drop i ns) (drop i ws) ≡ hub_sum f p ns ws → s ≡ hub_sum f p ns ws
  unfolding hub_sum
  sum-end h s so_far = sym (+ℤ_idr s) ∙ ap (λ (l : List ℕ). s +ℤ hub_sum f p l (drop i ws)) (sym (drop_of_length-le ns h)) ∙ so_far

-- ---- the whole sum

module _ (f : Factors) (p : List ℕ) (sized : (m : ℕ) → m < f.nodes → nat_abs (mcc f p m) ≤ max_mcc) where
  pub sum-sized : (ns ws : List ℕ) → any_of (leb f.nodes) ns ≡ false → nat_abs (hub_sum f p ns ws) ≤ max_mcc * sum_by_of (λ w. w) ws
  unfolding any_of hub_sum sum_by_of
  sum-sized [] ws low = omega arith
  sum-sized (x ∷ ns) [] low = omega arith
  sum-sized (x ∷ ns) (w ∷ ws) low =
      let here = neither (leb f.nodes x) (any_of (leb f.nodes) ns) low in
      omega (
        arith,
        nat_abs_add (pos w *ℤ mcc f p x) (hub_sum f p ns ws),
        nat_abs_times (pos w) (mcc f p x) {A = w} (omega arith) (sized x (leb-false f.nodes x here.0)),
        sum-sized ns ws here.1,
      )
