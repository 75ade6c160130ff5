-- Rows that are canonical are the only ones: by the least five, then by how full its first row is.
use mathlib.Core.Path.{◌≡◌, refl, sym, ap, ap₂, ◌∙◌}
use mathlib.Core.Logic.{⊎_elim}
use mathlib.Core.Bool.{Bool, true, false, cond}
use mathlib.Core.List.{List, [], ◌∷◌}
use Prim.Native.Nat.{ℕ, ◌+◌, ◌≤◌, ◌<◌}
use native.Mathlib.Omega.{arith}
use borrow.Author.Tests.{eq-eqb, ne_eqb}
use lib.Dec.{eqb}
use Rattle.lists.specs.Lists.{Each}
use Rattle.tariff.specs.declared.contracts.Contract.{Contract}
use Rattle.tariff.specs.declared.contracts.Kind.{Kind}
use Rattle.tariff.specs.declared.contracts.Period.{Period}
use Rattle.tariff.specs.Units.{max_quantity}
use Rattle.canonical_rules.specs.Canonical.{quantity, five_of, total_where, total_of, Ordered, Filled, CanonicalOf}
use Rattle.canonical_rules.specs.Theorems.{FiveFits}
use Rattle.canonical_rules.proofs.Fives.{less_same_more, same_five, same_contract, five_like, has_five, has_same, like_is_equal}

-- ---- totals by the five's number

abbrev pub of_number : ℕ → Contract → Bool
of_number f c = eqb (five_of c) f

total_here : (f : ℕ) (c : Contract) (cs : List Contract) → five_of c ≡ f → total_where (of_number f) (c ∷ cs) ≡ quantity c + total_where (of_number f) cs
unfolding total_where
total_here f c cs e = rw (eq-eqb (five_of c) f e)

total-past : (f : ℕ) (c : Contract) (cs : List Contract) → (five_of c ≡ f → ⊥) → total_where (of_number f) (c ∷ cs) ≡ total_where (of_number f) cs
unfolding total_where
total-past f c cs e = rw (ne_eqb (five_of c) f e) (omega arith)

pub total-like : (d : Contract) → FiveFits d → (cs : List Contract) → Each FiveFits cs → total_where (five_like d) cs ≡ total_where (of_number (five_of d)) cs
unfolding total_where
total-like d fd [] f = refl
total-like d fd (c ∷ cs) f = ap₂ ◌+◌ (ap (λ (t : Bool). cond t (quantity c) 0) (like_is_equal c d f.0 fd)) (total-like d fd cs f.1)

-- where all are above f there is none of f
total-none : (f : ℕ) (cs : List Contract) → Each (λ c. f < five_of c) cs → total_where (of_number f) cs ≡ 0
unfolding total_where
total-none f [] e = refl
total-none f (c ∷ cs) e = total-past f c cs (λ s. omega (arith, e.0)) ∙ total-none f cs e.1

-- ---- ordered rows

-- rows behind r: of a greater five where r is, and where r is not full
module _ (f : ℕ) where
  above : (r : Contract) (rows : List Contract) → Ordered (r ∷ rows) → f < five_of r → Each (λ c. f < five_of c) (r ∷ rows)
  above r [] o h = (h, tt)
  above r (s ∷ rows) o h = (h, above s rows o.1 (⊎_elim (λ l. omega arith) (λ w. omega (arith, w.0)) o.0))

behind : (r : Contract) (rows : List Contract) → Ordered (r ∷ rows) → quantity r < max_quantity → Each (λ c. five_of r < five_of c) rows
behind r [] o h = tt
behind r (s ∷ rows) o h = ⊎_elim (λ l. above (five_of r) s rows o.1 l) (λ w. absurd (omega (arith, w.1))) o.0

-- ---- equal totals, equal rows

-- for each five that a contract can have
abbrev EqualTotals : List Contract → List Contract → Type 0
EqualTotals xs ys = (d : Contract) → FiveFits d → total_where (of_number (five_of d)) xs ≡ total_where (of_number (five_of d)) ys

abbrev Fit : List Contract → Type 0
Fit xs = Ordered xs × Each Filled xs × Each FiveFits xs

-- the least five of xs is not below that of ys, and a first row of the same five no fuller
module _ (x y : Contract) (xs ys : List Contract) (hx : Fit (x ∷ xs)) (hy : Fit (y ∷ ys)) (same : EqualTotals (x ∷ xs) (y ∷ ys)) where
  not_less : five_of x < five_of y → ⊥
  not_less l =
      let a = total_here (five_of x) x xs refl in
      let b = total-none (five_of x) (y ∷ ys) (above (five_of x) y ys hy.0 l) in
      omega (arith, same x hx.2.0, a, b, hx.1.0.0)

  not_fuller : five_of x ≡ five_of y → quantity x < quantity y → ⊥
  not_fuller e l =
      let a = total_here (five_of x) x xs refl in
      let n = total-none (five_of x) xs (behind x xs hx.0 (omega (arith, hy.1.0.1))) in
      let b = total_here (five_of x) y ys (sym e) in
      omega (arith, same x hx.2.0, a, b, n)

one_none : (x : Contract) (xs : List Contract) → Fit (x ∷ xs) → total_where (of_number (five_of x)) (x ∷ xs) ≡ 0 → ⊥
one_none x xs h e = omega (arith, total_here (five_of x) x xs refl, h.1.0.0)

turned : (xs ys : List Contract) → EqualTotals xs ys → EqualTotals ys xs
turned xs ys e d f = sym (e d f)

-- first rows of the same five are the same, and so are the totals of what follows
module _ (x y : Contract) (xs ys : List Contract) (hx : Fit (x ∷ xs)) (hy : Fit (y ∷ ys)) (e : EqualTotals (x ∷ xs) (y ∷ ys)) (f : five_of x ≡ five_of y) where
  first-quantity : quantity x ≡ quantity y
  first-quantity =
      ⊎_elim (λ l. absurd (not_fuller x y xs ys hx hy e f l)) (⊎_elim (λ q. q) (λ l. absurd (not_fuller y x ys xs hy hx (turned (x ∷ xs) (y ∷ ys) e) (sym f) l)))
      (less_same_more (quantity x) (quantity y))

  first-row : x ≡ y
  first-row = same_contract x y (same_five x y hx.2.0 hy.2.0 f) first-quantity

  rest-totals : EqualTotals xs ys
  unfolding total_where
  rest-totals d fd =
      let t = e d fd in
      let g : cond (of_number (five_of d) x) (quantity x) 0 ≡ cond (of_number (five_of d) y) (quantity y) 0 = ap (λ (c : Contract). cond (of_number (five_of d) c) (quantity c) 0) first-row in
      omega (arith, t, g)

pub equal_rows : (xs ys : List Contract) → Fit xs → Fit ys → EqualTotals xs ys → xs ≡ ys
unfolding total_where
equal_rows [] [] hx hy e = refl
equal_rows [] (y ∷ ys) hx hy e = absurd (one_none y ys hy (sym (e y hy.2.0)))
equal_rows (x ∷ xs) [] hx hy e = absurd (one_none x xs hx (e x hx.2.0))
equal_rows (x ∷ xs) (y ∷ ys) hx hy e =
    ⊎_elim
    (λ l. absurd (not_less x y xs ys hx hy e l))
    (⊎_elim
    (λ f. ap₂ ◌∷◌ (first-row x y xs ys hx hy e f)
    (equal_rows xs ys (hx.0.1, hx.1.1, hx.2.1) (hy.0.1, hy.1.1, hy.2.1) (rest-totals x y xs ys hx hy e f)))
    (λ l. absurd (not_less y x ys xs hy hx (turned (x ∷ xs) (y ∷ ys) e) l)))
    (less_same_more (five_of x) (five_of y))

-- ---- the fives of rows are among those of the contracts that they total

-- where the chosen have a total, what every chosen one gives is there
among : (chosen : Contract → Bool) (G : Type 0) (cs : List Contract) → Each FiveFits cs → 1 ≤ total_where chosen cs → ((c : Contract) → FiveFits c → chosen c ≡ true → G) → G
unfolding total_where
among chosen G [] f h give = absurd (omega arith)
among chosen G (c ∷ cs) f h give = by (λ l. among chosen G cs f.1 l give) (chosen c) refl
  where
    by : (1 ≤ total_where chosen cs → G) → (t : Bool) → chosen c ≡ t → G
    by more true e = give c f.0 e
    by more false e = more (omega (arith, rw e at h))

total-own : (r : Contract) (rows : List Contract) → quantity r ≤ total_where (five_like r) (r ∷ rows)
unfolding total_where
total-own r rows = rw (has_same r r (record { kind = refl; period = refl; holder = refl; source = refl; sink = refl })) (omega arith)

total-more : (chosen : Contract → Bool) (r : Contract) (rows : List Contract) → total_where chosen rows ≤ total_where chosen (r ∷ rows)
unfolding total_where
total-more chosen r rows = omega arith

fits-like : (r c : Contract) → FiveFits c → five_like r c ≡ true → FiveFits r
fits-like r c f e =
    let s = has_five r.kind r.period r.holder r.source r.sink c e in
    record { holder-fits = rw (← s.holder) f.holder-fits; source_fits = rw (← s.source) f.source_fits; sink-fits = rw (← s.sink) f.sink-fits }

module _ (cs : List Contract) (fits : Each FiveFits cs) where
  rows_fit : (rows : List Contract) → Each Filled rows → ((r : Contract) → total_where (five_like r) rows ≤ total_where (five_like r) cs) → Each FiveFits rows
  rows_fit [] e most = tt
  rows_fit (r ∷ rows) e most = (
    among (five_like r) (FiveFits r) cs fits (omega (arith, total-own r rows, most r, e.0.0)) (fits-like r),
    rows_fit rows e.1 (λ d. omega (arith, most d, total-more (five_like d) r rows)),
  )

  pub canonical-fits : (rows : List Contract) → CanonicalOf cs rows → Each FiveFits rows
  canonical-fits rows s = rows_fit rows s.filled (λ r. omega (arith, s.totals r.kind r.period r.holder r.source r.sink))

pub canonical-unique : (cs ds xs ys : List Contract) → Each FiveFits cs → Each FiveFits ds → CanonicalOf cs xs → CanonicalOf ds ys
    → ((kind : Kind) (period : Period) (holder source sink : ℕ) → total_of kind period holder source sink cs ≡ total_of kind period holder source sink ds) → xs ≡ ys
canonical-unique cs ds xs ys fc fd sx sy same = equal_rows xs ys (sx.ordered, sx.filled, fx) (sy.ordered, sy.filled, fy) equal
  where
    fx : Each FiveFits xs
    fx = canonical-fits cs fc xs sx

    fy : Each FiveFits ys
    fy = canonical-fits ds fd ys sy

    equal : EqualTotals xs ys
    equal d f =
        sym (total-like d f xs fx) ∙ sx.totals d.kind d.period d.holder d.source d.sink ∙ same d.kind d.period d.holder d.source d.sink
        ∙ sym (sy.totals d.kind d.period d.holder d.source d.sink) ∙ total-like d f ys fy
