-- A sum in which only some terms count, and what it says of a contract's amount on its slice.
use mathlib.Core.Path.{◌≡◌, refl, sym, ap, ap₂, ◌∙◌}
use mathlib.Core.Logic.{⊎_elim}
use mathlib.Core.Bool.{false, cond}
use mathlib.Core.List.{List}
use Prim.Native.Nat.{ℕ, zero, suc, ◌<◌}
use native.Mathlib.Nat.{eq-or-lt_of_le}
use native.Mathlib.Decide.{ℕ_discrete}
use native.Mathlib.Omega.{arith}
use borrow.Author.Tests.{eq-eqb, ne_eqb}
use lib.Dec.{eqb}
use lib.IntN.{ℤ, pos, neg_ℤ, ◌+ℤ◌, ◌-ℤ◌, ◌*ℤ◌, +ℤ_idl, +ℤ_idr, *ℤ_comm, zero-*ℤ}
use Rattle.integers.specs.Sums.{sum_to, nonzero}
use Rattle.integers.proofs.Sums.{sum_to_cong, sum_to_zero, sum_to_plus, sum_to_one}
use Rattle.tariff.specs.declared.contracts.Contract.{Contract}
use Rattle.tariff.specs.Units.{Factors, factor, price}
use Rattle.tariff.specs.Settlement.{congestion, mcc, amount, spread_at, priced_at, cents}
use Rattle.slice_rules.specs.Slices.{Block, StandsFor}
use Rattle.slice_rules.specs.Hours.{PricedBlock, AmountIsTheWhole}

-- ---- a sum without its term m

module _ (m : ℕ) (f : ℕ → ℤ) where
  without : ℕ → ℤ
  without k = cond (eqb k m) (pos 0) (f k)

  only : ℕ → ℤ
  only k = cond (eqb k m) (f k) (pos 0)

  without-here : (k : ℕ) → k ≡ m → without k ≡ pos 0
  unfolding without
  without-here k e = rw (eq-eqb k m e)

  without-else : (k : ℕ) → (k ≡ m → ⊥) → without k ≡ f k
  unfolding without
  without-else k ne = rw (ne_eqb k m ne)

  both-parts : (k : ℕ) → f k ≡ without k +ℤ only k
  unfolding without only
  both-parts k =
      elim (ℕ_discrete k m) [
        | yes e ↦ rw (eq-eqb k m e) (sym (+ℤ_idl (f k)))
        | no ne ↦ rw (ne_eqb k m ne) (sym (+ℤ_idr (f k)))
      ]

  without-term : (n : ℕ) → m < n → sum_to n f ≡ sum_to n without +ℤ f m
  unfolding only
  without-term n h =
      sum_to_cong n (λ k b. both-parts k)
      ∙ sum_to_plus n without only
      ∙ ap (λ (z : ℤ). sum_to n without +ℤ z) (sum_to_one n m only h (λ j b ne. rw (ne_eqb j m ne)) ∙ rw (eq-eqb m m refl))

-- terms that count have numbers, each one
pub sum-picked : (n s : ℕ) (number : ℕ → ℕ) (f : ℕ → ℤ) → ((j : ℕ) → j < s → number j < n)
    → ((i j : ℕ) → i < s → j < s → number i ≡ number j → i ≡ j) → ((k : ℕ) → k < n → ((j : ℕ) → j < s → number j ≡ k → ⊥) → f k ≡ pos 0)
    → sum_to n f ≡ sum_to s (λ j. f (number j))
unfolding sum_to
sum-picked n zero number f inside once others = sum_to_cong n (λ k b. others k b (λ j h. absurd (omega arith))) ∙ sum_to_zero n
sum-picked n (suc s) number f inside once others =
    let m = number s in
    without-term m f n (inside s (omega arith))
    ∙ ap (λ (z : ℤ). z +ℤ f m)
    (sum-picked n s number (without m f) (λ j h. inside j (omega arith)) (λ i j hi hj. once i j (omega arith) (omega arith)) rest
    ∙ sum_to_cong s (λ j h. without-else m f (number j) (λ e. omega (arith, once j s (omega arith) (omega arith) e))))
  where
    rest : (k : ℕ) → k < n → ((j : ℕ) → j < s → number j ≡ k → ⊥) → without (number s) f k ≡ pos 0
    rest k b none =
        elim (ℕ_discrete k (number s)) [
          | yes e ↦ without-here (number s) f k e
          | no ne ↦
              without-else (number s) f k ne
              ∙ others k b (λ j h e. ⊎_elim (λ (q : suc j ≡ suc s). ne (sym e ∙ ap number (omega arith))) (λ q. none j (omega arith) e) (eq-or-lt_of_le h))
        ]

-- ---- a contract of a slice

times_zero : (a : ℤ) (l : ℕ) → l ≡ 0 → a *ℤ pos l ≡ pos 0
times_zero a l e = rw e (*ℤ_comm a (pos 0) ∙ zero-*ℤ a)

module _ (whole : Factors) (prices : List ℕ) (b : Block) (slice : Factors) (own : List ℕ) (size : slice.constraints ≡ b.size)
    (p : PricedBlock whole.constraints prices b own) where
  mcc-same : (n m : ℕ) → ((j : ℕ) → j < b.size → factor slice m j ≡ factor whole n (b.number j)) → mcc slice own m ≡ mcc whole prices n
  unfolding mcc congestion
  mcc-same n m same =
      let f : ℕ → ℤ = λ k. factor whole n k *ℤ pos (price prices k) in
      let s : ℕ → ℤ = λ j. factor slice m j *ℤ pos (price own j) in
      ap neg_ℤ
      (ap (λ (k : ℕ). sum_to k s) size
      ∙ sum_to_cong b.size (λ j h. ap₂ (λ (x : ℤ) (l : ℕ). x *ℤ pos l) (same j h) (p.prices-same j h))
      ∙ sym (sum-picked whole.constraints b.size b.number f p.inside p.once
      (λ k h none. times_zero (factor whole n k) (price prices k) (p.others_free k h none))))

  module _ (c d : Contract) (st : StandsFor whole b slice c d) where
    amount-is : amount slice own d ≡ amount whole prices c
    unfolding amount
    amount-is =
        rw (st.kind-same, st.quantity-same, mcc-same c.source d.source st.source-same, mcc-same c.sink d.sink st.sink-same)

    priced-is : (j : ℕ) → j < b.size → priced_at slice own d j ≡ priced_at whole prices c (b.number j)
    unfolding priced_at spread_at
    priced-is j h = rw (p.prices-same j h, st.source-same j h, st.sink-same j h)

    not_priced : (k : ℕ) → k < whole.constraints → ((j : ℕ) → j < b.size → b.number j ≡ k → ⊥) → priced_at whole prices c k ≡ false
    unfolding priced_at spread_at
    not_priced k h none =
        let x = factor whole c.source k -ℤ factor whole c.sink k in
        ap nonzero (ap (λ (l : ℕ). pos l *ℤ x) (p.others_free k h none) ∙ zero-*ℤ x)

pub amount-same : AmountIsTheWhole
amount-same whole prices b slice own size p c d st =
    record {
      amount-same = amount-is whole prices b slice own size p c d st;
      cents-same = ap cents (amount-is whole prices b slice own size p c d st);
      priced-same = priced-is whole prices b slice own size p c d st;
      others_not_priced = not_priced whole prices b slice own size p c d st;
    }
