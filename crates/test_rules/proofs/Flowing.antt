-- Laws of flows that are carried: a cell more of one contract's flows, and a contract more.
use mathlib.Core.Path.{◌≡◌, refl, sym, ap, ◌∙◌, subst₂}
use mathlib.Core.Logic.{⊎_elim}
use mathlib.Core.Bool.{true, false}
use mathlib.Core.List.{List, [], ◌∷◌, ◌++◌}
use Prim.Native.Nat.{ℕ, suc, ◌+◌, ◌*◌, ◌^◌, ◌≤◌, ◌<◌}
use native.Mathlib.Nat.{eq-or-lt_of_le}
use native.Mathlib.Omega.{arith}
use lib.ListN.{length, get_or, set, replicate, length-append, get_or-replicate}
use lib.Seq.{get_or-set_same, get_or-set_other, get_or-take}
use lib.IntN.{ℤ, pos, nat_abs, ◌+ℤ◌, ◌-ℤ◌, ◌*ℤ◌}
use denote.Enum.Bare.{sameb}
use mir.Syntax.{w64}
use mir.Val.{to_z, of_z}
use Rattle.integers.proofs.Sizes.{nat_abs_add}
use Rattle.lists.specs.Lists.{Each, list_to}
use Rattle.integers.proofs.Machine.{back}
use Rattle.tariff.proofs.Sizes.{counted-times, total_flow-sized, of_period-in_range}
use Rattle.tariff.proofs.Kept.{spread-small}
use Rattle.tariff.specs.declared.contracts.Kind.{Kind}
use Rattle.tariff.specs.declared.units.Quantity.{Quantity}
use Rattle.tariff.specs.declared.contracts.Contract.{Contract}
use Rattle.tariff.specs.contracts.contracts.Period.{the_type}
use Rattle.tariff.specs.declared.contracts.Period.{Period}
use Rattle.tariff.specs.declared.contracts.Period.TheVariants.{OffPeak, OnPeak}
use Rattle.tariff.specs.Units.{Factors, factors_of, factor, max_constraints, max_contracts, max_factor, max_quantity, max_limit, max_flow}
use Rattle.tariff.specs.Inner.{FactorsInRange}
use Rattle.tariff.specs.ContractRules.{InRange, counted, same_period, of_period}
use Rattle.tariff.specs.Feasibility.{flow, total_flow}
use Rattle.tariff.proofs.Periods.{sum_over-more, of_period-same, of_period-other}
use Rattle.integers.specs.Sums.{sum_over_of}
use Rattle.layouts.specs.BookFile.{book_in, contract_count_in, contract_at}
use Rattle.lists.proofs.Lists.{list_to-more, length-list_to, each-list_to}
use Rattle.tariff.specs.Refusals.{passed}
use Rattle.tariff.specs.Refusals.{first}
use Rattle.grid_tables.specs.Inner.{GoodFactors, GoodCells}
use Rattle.grid_tables.proofs.Factors.{place-in}
use Rattle.book_rules.specs.BookChecks.{book_checks}
use Rattle.book_rules.proofs.Accepted.{book-accepted}
use Rattle.test_rules.specs.declared.Flows.{Flows}
use Rattle.test_rules.specs.Inner.{Adds, Judgeable}
use Rattle.test_rules.specs.Carried.{Carries}

-- the comparison that the code makes
pub same_period-is : (a b : Period) → sameb the_type a b ≡ same_period a b
same_period-is OffPeak OffPeak = refl
same_period-is OffPeak OnPeak = refl
same_period-is OnPeak OffPeak = refl
same_period-is OnPeak OnPeak = refl

-- the flow on constraint j of a contract whose rows of factors begin at source and sink, as it counts
unfoldable pub part : List ℤ → ℕ → ℕ → Quantity → Kind → ℕ → ℤ
part factors source sink quantity kind j =
    counted kind ((get_or factors (source + j) (pos 0) -ℤ get_or factors (sink + j) (pos 0)) *ℤ pos quantity.0)

-- ---- one cell more
module _ (before cells : List ℤ) (f : ℕ → ℤ) (k : ℕ) (done : (j : ℕ) → j < k → get_or cells j (pos 0) ≡ get_or before j (pos 0) +ℤ f j)
    (rest : (j : ℕ) → k ≤ j → get_or cells j (pos 0) ≡ get_or before j (pos 0)) (v : ℤ) where
  pub cell_done : k < length cells → v ≡ get_or cells k (pos 0) +ℤ f k → (j : ℕ) → j < k + 1 → get_or (set cells k v) j (pos 0) ≡ get_or before j (pos 0) +ℤ f j
  cell_done h e j b = ⊎_elim here there (eq-or-lt_of_le b)
    where
      there : suc j < k + 1 → get_or (set cells k v) j (pos 0) ≡ get_or before j (pos 0) +ℤ f j
      there l = get_or-set_other cells k j v (pos 0) (λ q. omega arith) ∙ done j (omega arith)

      here : suc j ≡ k + 1 → get_or (set cells k v) j (pos 0) ≡ get_or before j (pos 0) +ℤ f j
      here q = let s : j ≡ k = omega arith in rw s (get_or-set_same cells k v (pos 0) h ∙ e ∙ ap (λ (z : ℤ). z +ℤ f k) (rest k (omega arith)))

  pub cell_rest : (j : ℕ) → k + 1 ≤ j → get_or (set cells k v) j (pos 0) ≡ get_or before j (pos 0)
  cell_rest j b = get_or-set_other cells k j v (pos 0) (λ q. omega arith) ∙ rest j (omega arith)

-- ---- the figures of one cell, as the machine keeps them

-- what is kept in an i64 keeps its size
pub kept-sized : (x : ℤ) (B : ℕ) → B < 2 ^ 63 → nat_abs x ≤ B → nat_abs (to_z w64 (of_z w64 x)) ≤ B
kept-sized x B b h = rw (back x (omega arith)) h

-- y is what the machine gives
pub part_small : (y a b : ℤ) (d : Kind) (q : ℕ) → y ≡ counted d ((a -ℤ b) *ℤ pos q) → nat_abs a ≤ max_factor → nat_abs b ≤ max_factor → q ≤ max_quantity → nat_abs y ≤ max_flow
part_small y a b d q e ha hb hq = rw e (counted-times d (a -ℤ b) q (spread-small a b ha hb) hq)

-- v is the sum that the machine gives
pub sum_is : (x y v p : ℤ) → nat_abs x ≤ max_flow * max_contracts → nat_abs y ≤ max_flow → v ≡ to_z w64 (of_z w64 x) +ℤ y → y ≡ p → to_z w64 (of_z w64 v) ≡ x +ℤ p
sum_is x y v p hx hy e ep =
    let f : v ≡ x +ℤ y = e ∙ ap (λ (z : ℤ). z +ℤ y) (back x (omega arith)) in
    back v (rw f (omega (arith, nat_abs_add x y))) ∙ f ∙ ap (λ (z : ℤ). x +ℤ z) ep

-- ---- one contract more

module _ (n k : ℕ) (fs : List ℤ) (c : Contract) (h : InRange n c) where
  cell : (s j : ℕ) → s < n → j < k → get_or fs (s * k + j) (pos 0) ≡ factor (factors_of n k fs) s j
  cell s j hs hj = sym (get_or-take (n * k) fs (s * k + j) (pos 0) (place-in n k s j hs hj))

  pub own_flow : (j : ℕ) → j < k → part fs (c.source * k) (c.sink * k) c.quantity c.kind j ≡ flow (factors_of n k fs) c j
  unfolding flow part
  own_flow j b = rw (cell c.source j h.source-below b, cell c.sink j h.sink-below b)

  -- every cell has the contract's flow
  pub added : (old new : List ℤ) → ((j : ℕ) → j < k → get_or new j (pos 0) ≡ get_or old j (pos 0) +ℤ part fs (c.source * k) (c.sink * k) c.quantity c.kind j)
      → (j : ℕ) → j < k → get_or new j (pos 0) ≡ get_or old j (pos 0) +ℤ flow (factors_of n k fs) c j
  added old new done j b = done j b ∙ ap (λ (z : ℤ). get_or old j (pos 0) +ℤ z) (own_flow j b)

-- after one contract more, whose flows were added
pub step-carries : (f : Factors) (c : Contract) (cs : List Contract) (old new : List ℤ) (count : ℕ)
    → ((j : ℕ) → j < f.constraints → get_or new j (pos 0) ≡ get_or old j (pos 0) +ℤ flow f c j)
    → Carries f cs (record { flows = old; count = count }) → Carries f (cs ++ c ∷ []) (record { flows = new; count = count + 1 })
unfolding total_flow
step-carries f c cs old new count done carried =
    record {
      flows-are = λ j b. done j b ∙ ap (λ (z : ℤ). z +ℤ flow f c j) (carried.flows-are j b) ∙ sym (sum_over-more cs c (λ c. flow f c j));
      count-is = rw length-append (omega (arith, carried.count-is));
    }

-- ---- no contract yet

pub none-carried : (f : Factors) → f.constraints ≤ max_constraints → Carries f [] (record { flows = replicate max_constraints (pos 0); count = 0 })
unfolding total_flow sum_over_of
none-carried f h = record { flows-are = λ j b. get_or-replicate {A = ℤ} max_constraints j (pos 0) (pos 0) (omega arith); count-is = refl }

-- ---- through a book: its contracts below i are carried

module _ (f : Factors) (i : ℕ) (t : Period) (at : ℕ → Contract) (carried : Flows) where
  module _ (each : (j : ℕ) → j < i → InRange f.nodes (at j)) (h : Carries f (of_period t (list_to i at)) carried) where
    within : Each (InRange f.nodes) (of_period t (list_to i at)) × (length (of_period t (list_to i at)) ≤ length (list_to i at))
    within = of_period-in_range f.nodes t (list_to i at) (each-list_to (InRange f.nodes) i at each)

    pub count_most : carried.count ≤ i
    count_most = omega (arith, h.count-is, within.1, length-list_to i at)

    pub flow-most : FactorsInRange f → (j : ℕ) → j < f.constraints → nat_abs (get_or carried.flows j (pos 0)) ≤ max_flow * carried.count
    flow-most fr j b = rw (h.flows-are j b, h.count-is) (total_flow-sized f fr (of_period t (list_to i at)) j within.0 b)

-- contract i is of the period and counted, or is of the other: what is carried then
module _ (n k : ℕ) (fs : List ℤ) (i : ℕ) (t : Period) (at : ℕ → Contract) (c : Contract) (e : c ≡ at i) (old flows : List ℤ) (many count : ℕ)
    (h : Carries (factors_of n k fs) (of_period t (list_to i at)) (record { flows = old; count = many })) where
  pub carry_same : same_period c.period t ≡ true → InRange n c → (new : List ℤ) → Adds k fs c old new → flows ≡ new → count ≡ many + 1
      → Carries (factors_of n k fs) (of_period t (list_to (i + 1) at)) (record { flows = flows; count = count })
  carry_same b own new adds p q =
      rw (list_to-more i at, ← e, of_period-same t (list_to i at) c b)
      (subst₂ (λ (x : List ℤ) (y : ℕ). Carries (factors_of n k fs) (of_period t (list_to i at) ++ c ∷ []) (record { flows = x; count = y })) (sym p) (sym q)
      (step-carries (factors_of n k fs) c (of_period t (list_to i at)) old new many (adds.flows-added n own) h))

  pub carry_other : same_period c.period t ≡ false → flows ≡ old → count ≡ many → Carries (factors_of n k fs) (of_period t (list_to (i + 1) at)) (record { flows = flows; count = count })
  carry_other b p q =
      rw (list_to-more i at, ← e, of_period-other t (list_to i at) c b)
      (subst₂ (λ (x : List ℤ) (y : ℕ). Carries (factors_of n k fs) (of_period t (list_to i at)) (record { flows = x; count = y })) (sym p) (sym q) h)

-- ---- a book that the checks accept: a thousand flows at most

pub carried_judgeable : (n k : ℕ) (ls : List ℕ) (fs : List ℤ) (t : Period) (book : List ℕ) → GoodCells max_limit k ls → GoodFactors n k fs → first (book_checks n book) ≡ passed
    → (carried : Flows) → Carries (factors_of n k fs) (of_period t (book_in book)) carried → Judgeable k ls carried
carried_judgeable n k ls fs t book gl gf own carried h =
    let b = book-accepted n book own in
    record {
      few = gf.few;
      good-limits = gl;
      flows-sized = λ j l.
          omega (
            arith,
            b.few,
            count_most (factors_of n k fs) (contract_count_in book) t (contract_at book) carried b.each h,
            flow-most (factors_of n k fs) (contract_count_in book) t (contract_at book) carried b.each h gf.in_range j l,
          );
    }
