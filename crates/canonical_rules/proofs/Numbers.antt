-- The canonical rows as numbers: the numbers of the contracts, sorted, and one walk over them.
use mathlib.Core.Path.{◌≡◌, refl, sym, ap, ap₂, ◌∙◌}
use mathlib.Core.Bool.{cond}
use mathlib.Core.List.{List, [], ◌∷◌, map}
use Prim.Native.Nat.{ℕ, ◌+◌, ◌-◌, ◌≤◌, ◌<◌}
use native.Mathlib.Omega.{arith}
use borrow.Author.Tests.{eq-eqb, ne_eqb, le-leb, lt-leb}
use lib.Dec.{eqb}
use lib.ListN.{length, length-map}
use lib.IntN.{ℤ, pos, negsuc, ◌+ℤ◌}
use Rattle.integers.specs.Sums.{sum_over_of}
use Rattle.lists.specs.Lists.{Each}
use Rattle.tariff.specs.declared.contracts.Contract.{Contract}
use Rattle.tariff.specs.Units.{max_quantity}
use Rattle.test_flow_laws.specs.Quantities.{with_quantity}
use Rattle.sorting.specs.Sorted.{sorted, Least, Rising}
use Rattle.sorting.proofs.Sorted.{sorted_rises}
use Rattle.sorting.proofs.Perms.{sum_over-sorted}
use Rattle.sorting.proofs.Inserting.{length-sorted}
use Rattle.sorting.proofs.Callers.{each-sorted}
use Rattle.canonical_rules.specs.Canonical.{quantity, five_of, total_where, Ordered, Filled, canonical}
use Rattle.canonical_rules.specs.Theorems.{FiveFits}
use Rattle.canonical_rules.specs.Inner.{walk_from, walk, row_number, five_in_of, quantity_in, number_at, walk_contracts, walk_numbers}
use Rattle.canonical_rules.proofs.Totals.{fits_kept, share, total-sum, total-canonical}
use Rattle.canonical_rules.proofs.Unique.{of_number, equal_rows, canonical-fits}
use Rattle.canonical_rules.proofs.Merging.{five_at, canonical-is}
use Rattle.canonical_rules.proofs.Walking.{step_from, step-cases, FivesRise, walk-filled, walk-ordered, walk-each, walk-short, walk-totals}

-- ---- a number's five and quantity

module _ (c : Contract) (h : Filled c) where
  pub five_in : five_in_of (row_number c) ≡ five_of c
  five_in = omega arith

  pub quantity-in : quantity_in (row_number c) ≡ quantity c
  quantity-in = omega arith

-- ---- the walk over numbers is the walk over contracts

abbrev number-from : ℕ → List ℕ → List ℕ
number-from = walk_from five_in_of quantity_in number_at

module _ (p c : Contract) (vs : List ℕ) (hp : Filled p) (hc : Filled c) where
  abbrev sum : ℕ
  sum = quantity p + quantity c

  number-added : five_of p ≡ five_of c → sum ≤ max_quantity → number-from (row_number (with_quantity sum p)) vs ≡ number-from (row_number p) (row_number c ∷ vs)
  unfolding walk_from
  number-added e h =
      rw (five_at p sum, five_in p hp, five_in c hc, quantity-in p hp, quantity-in c hc, eq-eqb (five_of p) (five_of c) e, le-leb sum max_quantity h)

  number-filled : five_of p ≡ five_of c → max_quantity < sum
      → row_number (with_quantity max_quantity p) ∷ number-from (row_number (with_quantity (sum - max_quantity) p)) vs ≡ number-from (row_number p) (row_number c ∷ vs)
  unfolding walk_from
  number-filled e h =
      rw (five_at p max_quantity, five_at p (sum - max_quantity), five_in p hp, five_in c hc, quantity-in p hp, quantity-in c hc, eq-eqb (five_of p) (five_of c) e, lt-leb sum max_quantity h)

  number-other : (five_of p ≡ five_of c → ⊥) → row_number p ∷ number-from (row_number c) vs ≡ number-from (row_number p) (row_number c ∷ vs)
  unfolding walk_from
  number-other e = rw (five_in p hp, five_in c hc, ne_eqb (five_of p) (five_of c) e)

walk-numbers : (p : Contract) (cs : List Contract) → Filled p → Each Filled cs → map row_number (step_from p cs) ≡ number-from (row_number p) (map row_number cs)
unfolding walk_from
walk-numbers p [] hp hs = refl
walk-numbers p (c ∷ cs) hp hs =
    let q = quantity p + quantity c in
    step-cases p c cs (λ (l : List Contract). map row_number l ≡ number-from (row_number p) (row_number c ∷ map row_number cs))
    (λ e h. walk-numbers (with_quantity q p) cs (omega (arith, hp.0), h) hs.1 ∙ number-added p c (map row_number cs) hp hs.0 e h)
    (λ e h. ap (λ (l : List ℕ). row_number (with_quantity max_quantity p) ∷ l) (walk-numbers (with_quantity (q - max_quantity) p) cs (omega arith, omega (arith, hp.1, hs.0.1)) hs.1)
    ∙ number-filled p c (map row_number cs) hp hs.0 e h)
    (λ e. ap (λ (l : List ℕ). row_number p ∷ l) (walk-numbers c cs hs.0 hs.1) ∙ number-other p c (map row_number cs) hp hs.0 e)

pub walk_is : (cs : List Contract) → Each Filled cs → map row_number (walk_contracts cs) ≡ walk_numbers (map row_number cs)
unfolding walk
walk_is [] h = refl
walk_is (c ∷ cs) h = walk-numbers c cs h.0 h.1

-- ---- numbers that contracts have, and the contracts

pub record IsNumber (v : ℕ) : Type 0 where
  pub of : Contract
  pub filled : Filled of
  pub fits : FiveFits of
  pub is : v ≡ row_number of

contracts_of : (vs : List ℕ) → Each IsNumber vs → List Contract
contracts_of [] e = []
contracts_of (v ∷ vs) e = e.0.of ∷ contracts_of vs e.1

numbers-back : (vs : List ℕ) (e : Each IsNumber vs) → map row_number (contracts_of vs e) ≡ vs
unfolding contracts_of
numbers-back [] e = refl
numbers-back (v ∷ vs) e = ap₂ ◌∷◌ (sym e.0.is) (numbers-back vs e.1)

contracts-filled : (vs : List ℕ) (e : Each IsNumber vs) → Each Filled (contracts_of vs e)
unfolding contracts_of
contracts-filled [] e = tt
contracts-filled (v ∷ vs) e = (e.0.filled, contracts-filled vs e.1)

contracts-fit : (vs : List ℕ) (e : Each IsNumber vs) → Each FiveFits (contracts_of vs e)
unfolding contracts_of
contracts-fit [] e = tt
contracts-fit (v ∷ vs) e = (e.0.fits, contracts-fit vs e.1)

are_numbers : (cs : List Contract) → Each Filled cs → Each FiveFits cs → Each IsNumber (map row_number cs)
are_numbers [] h f = tt
are_numbers (c ∷ cs) h f = (record { of = c; filled = h.0; fits = f.0; is = refl }, are_numbers cs h.1 f.1)

-- numbers that rise have fives that do
fives_rise : (c : Contract) (cs : List Contract) → Filled c → Each Filled cs → Rising (map row_number (c ∷ cs)) → FivesRise c cs
unfolding Rising Least
fives_rise c [] h hs r = tt
fives_rise c (d ∷ ds) h hs r = (omega (arith, r.0.0, h.1, hs.0.1), fives_rise d ds hs.0 hs.1 r.1)

-- ---- what the walk over rising contracts is

module _ (cs : List Contract) (h : Each Filled cs) (f : Each FiveFits cs) where
  walked_fit : Rising (map row_number cs) → Ordered (walk_contracts cs) × Each Filled (walk_contracts cs) × Each FiveFits (walk_contracts cs)
  unfolding walk
  walked_fit = by cs h f
    where
      by : (ds : List Contract) → Each Filled ds → Each FiveFits ds → Rising (map row_number ds) → Ordered (walk_contracts ds) × Each Filled (walk_contracts ds) × Each FiveFits (walk_contracts ds)
      by [] g k r = (tt, tt, tt)
      by (d ∷ ds) g k r =
          (walk-ordered d ds (fives_rise d ds g.0 g.1 r), walk-filled d ds g.0 g.1, walk-each FiveFits fits_kept d ds k.0 k.1)

walked_totals : (n : ℕ) (cs : List Contract) → total_where (of_number n) (walk_contracts cs) ≡ total_where (of_number n) cs
unfolding walk
walked_totals n [] = refl
walked_totals n (c ∷ cs) = walk-totals (of_number n) (λ d q. ap (λ (x : ℕ). eqb x n) (five_at d q)) (λ d e s. ap (λ (x : ℕ). eqb x n) s) c cs

walked_short : (cs : List Contract) → length (walk_contracts cs) ≤ length cs
unfolding walk
walked_short [] = omega arith
walked_short (c ∷ cs) = walk-short c cs

-- ---- totals of numbers

abbrev number_share : ℕ → ℕ → ℤ
number_share n v = pos (cond (eqb (five_in_of v) n) (quantity_in v) 0)

number-sum : (n : ℕ) (cs : List Contract) → Each Filled cs → sum_over_of (map row_number cs) (number_share n) ≡ sum_over_of cs (share (of_number n))
unfolding sum_over_of
number-sum n [] h = refl
number-sum n (c ∷ cs) h =
    let own : number_share n (row_number c) ≡ share (of_number n) c = rw (five_in c h.0, quantity-in c h.0) in
    ap₂ ◌+ℤ◌ own (number-sum n cs h.1)

pos_same : (a b : ℕ) → pos a ≡ pos b → a ≡ b
pos_same a b e = ap size e
  where
    size : ℤ → ℕ
    size (pos n) = n
    size (negsuc n) = 0

-- contracts with the same numbers, in whatever order, have the same totals
sorted-totals : (n : ℕ) (cs ds : List Contract) → Each Filled cs → Each Filled ds → map row_number ds ≡ sorted (map row_number cs) → total_where (of_number n) ds ≡ total_where (of_number n) cs
sorted-totals n cs ds h g e =
    pos_same _ _ (sym (total-sum (of_number n) ds) ∙ sym (number-sum n ds g) ∙ ap (λ (l : List ℕ). sum_over_of l (number_share n)) e ∙ sum_over-sorted (map row_number cs) (number_share n)
    ∙ number-sum n cs h ∙ total-sum (of_number n) cs)

-- ---- the canonical rows

module _ (cs : List Contract) (h : Each Filled cs) (f : Each FiveFits cs) where
  numbers : Each IsNumber (sorted (map row_number cs))
  numbers = each-sorted IsNumber (map row_number cs) (are_numbers cs h f)

  rising : List Contract
  rising = contracts_of (sorted (map row_number cs)) numbers

  back : map row_number rising ≡ sorted (map row_number cs)
  unfolding rising
  back = numbers-back (sorted (map row_number cs)) numbers

  rising_filled : Each Filled rising
  unfolding rising
  rising_filled = contracts-filled (sorted (map row_number cs)) numbers

  rising_fit : Each FiveFits rising
  unfolding rising
  rising_fit = contracts-fit (sorted (map row_number cs)) numbers

  is-walked : canonical cs ≡ walk_contracts rising
  is-walked =
      let s = canonical-is cs f in
      equal_rows (canonical cs) (walk_contracts rising) (s.ordered, s.filled, canonical-fits cs f (canonical cs) s)
      (walked_fit rising rising_filled rising_fit (rw back (sorted_rises (map row_number cs))))
      (λ d fd. total-canonical (of_number (five_of d)) (λ c q. ap (λ (x : ℕ). eqb x (five_of d)) (five_at c q)) cs f
      ∙ sym (walked_totals (five_of d) rising ∙ sorted-totals (five_of d) cs rising h rising_filled back))

  pub canonical-numbers : map row_number (canonical cs) ≡ walk_numbers (sorted (map row_number cs))
  canonical-numbers = ap (map row_number) is-walked ∙ walk_is rising rising_filled ∙ ap walk_numbers back

  pub not_longer : length (canonical cs) ≤ length cs
  not_longer =
      omega (arith, ap length is-walked, walked_short rising, length-map rising row_number, ap length back, length-sorted (map row_number cs), length-map cs row_number)
