-- The canonical rows keep every sum of a figure that is additive in the quantity: totals of a five, flows, exact amounts.
use mathlib.Core.Path.{◌≡◌, refl, sym, ap, ap₂, ◌∙◌}
use mathlib.Core.Bool.{Bool, true, false, cond}
use mathlib.Core.List.{List, [], ◌∷◌, ◌++◌, flat_map}
use Prim.Native.Nat.{ℕ, zero, suc, ◌+◌, ◌*◌, ◌/◌, ◌%◌}
use native.Mathlib.Omega.{arith}
use borrow.Author.Tests.{eqb-true}
use lib.Dec.{eqb, ltb}
use lib.ListN.{replicate}
use lib.IntN.{ℤ, pos, negsuc, ◌+ℤ◌, +ℤ_assoc, +ℤ_comm, +ℤ_idr}
use Rattle.integers.specs.Sums.{sum_over_of}
use Rattle.integers.proofs.Sums.{sum_over-append}
use Rattle.lists.specs.Lists.{Each}
use Rattle.tariff.specs.declared.contracts.Contract.{Contract}
use Rattle.tariff.specs.Units.{max_quantity}
use Rattle.test_flow_laws.specs.Quantities.{with_quantity}
use Rattle.canonical_rules.specs.Canonical.{quantity, five_of, total_where, merge_into, merged_rows, cut, canonical}
use Rattle.canonical_rules.specs.Theorems.{FiveFits}
use Rattle.canonical_rules.proofs.Fives.{same_five, same_but_quantity}

-- ---- what holds of each contract and does not look at its quantity holds of each row

module _ (P : Contract → Type 0) (kept : (c : Contract) (q : ℕ) → P c → P (with_quantity q c)) where
  pub each-add_into : (c : Contract) (rows : List Contract) → P c → Each P rows → Each P (merge_into c rows)
  unfolding merge_into
  each-add_into c [] h e = (h, tt)
  each-add_into c (r ∷ rows) h e = by _ (each-add_into c rows h e.1) (eqb (five_of c) (five_of r)) (ltb (five_of c) (five_of r))
    where
      by : (q : ℕ) → Each P (merge_into c rows) → (s t : Bool) → Each P (cond s (with_quantity q r ∷ rows) (cond t (c ∷ r ∷ rows) (r ∷ merge_into c rows)))
      by q more true t = (kept r q e.0, e.1)
      by q more false true = (h, e)
      by q more false false = (e.0, more)

  pub each-merged : (cs : List Contract) → Each P cs → Each P (merged_rows cs)
  unfolding merged_rows
  each-merged [] e = tt
  each-merged (c ∷ cs) e = each-add_into c (merged_rows cs) e.0 (each-merged cs e.1)

pub fits_kept : (c : Contract) (q : ℕ) → FiveFits c → FiveFits (with_quantity q c)
fits_kept c q h = record { holder-fits = h.holder-fits; source_fits = h.source_fits; sink-fits = h.sink-fits }

pub fits-merged : (cs : List Contract) → Each FiveFits cs → Each FiveFits (merged_rows cs)
fits-merged = each-merged FiveFits fits_kept

-- ---- a figure h that is additive in the quantity

module _ (h : Contract → ℤ) (plus : (c : Contract) (a b : ℕ) → h (with_quantity (a + b) c) ≡ h (with_quantity a c) +ℤ h (with_quantity b c))
    (nothing : (c : Contract) → h (with_quantity 0 c) ≡ pos 0) where
  sum-add_into : (c : Contract) (rows : List Contract) → FiveFits c → Each FiveFits rows → sum_over_of (merge_into c rows) h ≡ h c +ℤ sum_over_of rows h
  unfolding merge_into sum_over_of
  sum-add_into c [] fc fr = refl
  sum-add_into c (r ∷ rows) fc fr = by _ refl (sum-add_into c rows fc fr.1) (eqb (five_of c) (five_of r)) refl (ltb (five_of c) (five_of r))
    where
      by : (q : ℕ) → q ≡ quantity c + quantity r → sum_over_of (merge_into c rows) h ≡ h c +ℤ sum_over_of rows h → (s : Bool) → eqb (five_of c) (five_of r) ≡ s → (t : Bool)
          → sum_over_of (cond s (with_quantity q r ∷ rows) (cond t (c ∷ r ∷ rows) (r ∷ merge_into c rows))) h ≡ h c +ℤ (h r +ℤ sum_over_of rows h)
      by q sum more true e t =
          let same = same_but_quantity c r (same_five c r fc fr.0 (eqb-true (five_of c) (five_of r) e)) in
          ap (λ (z : ℤ). z +ℤ sum_over_of rows h) (ap (λ (x : ℕ). h (with_quantity x r)) sum ∙ plus r (quantity c) (quantity r) ∙ ap (λ (d : Contract). h d +ℤ h r) same)
          ∙ +ℤ_assoc (h c) (h r) (sum_over_of rows h)
      by q sum more false e true = refl
      by q sum more false e false =
          ap (λ (z : ℤ). h r +ℤ z) more ∙ sym (+ℤ_assoc (h r) (h c) (sum_over_of rows h))
          ∙ ap (λ (z : ℤ). z +ℤ sum_over_of rows h) (+ℤ_comm (h r) (h c)) ∙ +ℤ_assoc (h c) (h r) (sum_over_of rows h)

  sum-merged : (cs : List Contract) → Each FiveFits cs → sum_over_of (merged_rows cs) h ≡ sum_over_of cs h
  unfolding merged_rows sum_over_of
  sum-merged [] f = refl
  sum-merged (c ∷ cs) f = sum-add_into c (merged_rows cs) f.0 (fits-merged cs f.1) ∙ ap (λ (z : ℤ). h c +ℤ z) (sum-merged cs f.1)

  sum-full : (n m : ℕ) (c : Contract) → sum_over_of (replicate n (with_quantity m c)) h ≡ h (with_quantity (n * m) c)
  unfolding sum_over_of
  sum-full zero m c = sym (ap (λ (q : ℕ). h (with_quantity q c)) {x = 0 * m} {y = 0} (omega arith) ∙ nothing c)
  sum-full (suc n) m c =
      ap (λ (z : ℤ). h (with_quantity m c) +ℤ z) (sum-full n m c) ∙ sym (plus c m (n * m)) ∙ ap (λ (q : ℕ). h (with_quantity q c)) {x = m + n * m} {y = suc n * m} (omega arith)

  -- n rows of m and a rest make the whole quantity
  sum_rows : (n m r : ℕ) (c : Contract) → n * m + r ≡ quantity c → sum_over_of (replicate n (with_quantity m c) ++ cond (eqb r 0) [] (with_quantity r c ∷ [])) h ≡ h c
  unfolding sum_over_of
  sum_rows n m r c whole =
      sum_over-append (replicate n (with_quantity m c)) (cond (eqb r 0) [] (with_quantity r c ∷ [])) h ∙ ap₂ ◌+ℤ◌ (sum-full n m c) (rest (eqb r 0) refl) ∙ sym (plus c (n * m) r)
      ∙ ap (λ (q : ℕ). h (with_quantity q c)) whole
    where
      rest : (t : Bool) → eqb r 0 ≡ t → sum_over_of (cond t [] (with_quantity r c ∷ [])) h ≡ h (with_quantity r c)
      rest true e = sym (ap (λ (q : ℕ). h (with_quantity q c)) (eqb-true r 0 e) ∙ nothing c)
      rest false e = +ℤ_idr (h (with_quantity r c))

  sum-cut : (c : Contract) → sum_over_of (cut c) h ≡ h c
  unfolding cut
  sum-cut c = sum_rows (quantity c / max_quantity) _ (quantity c % max_quantity) c (omega arith)

  sum-cuts : (rows : List Contract) → sum_over_of (flat_map cut rows) h ≡ sum_over_of rows h
  unfolding flat_map sum_over_of
  sum-cuts [] = refl
  sum-cuts (r ∷ rows) = sum_over-append (cut r) (flat_map cut rows) h ∙ ap₂ ◌+ℤ◌ (sum-cut r) (sum-cuts rows)

  pub sum-canonical : (cs : List Contract) → Each FiveFits cs → sum_over_of (canonical cs) h ≡ sum_over_of cs h
  unfolding canonical
  sum-canonical cs f = sum-cuts (merged_rows cs) ∙ sum-merged cs f

-- ---- totals, of what is chosen whatever its quantity

module _ (chosen : Contract → Bool) where
  abbrev pub share : Contract → ℤ
  share c = pos (cond (chosen c) (quantity c) 0)

  pub total-sum : (cs : List Contract) → sum_over_of cs share ≡ pos (total_where chosen cs)
  unfolding sum_over_of total_where
  total-sum [] = refl
  total-sum (c ∷ cs) = ap (λ (z : ℤ). share c +ℤ z) (total-sum cs)

  pub total-canonical : ((c : Contract) (q : ℕ) → chosen (with_quantity q c) ≡ chosen c) → (cs : List Contract) → Each FiveFits cs → total_where chosen (canonical cs) ≡ total_where chosen cs
  total-canonical kept cs f = ap size (sym (total-sum (canonical cs)) ∙ sum-canonical share plus nothing cs f ∙ total-sum cs)
    where
      size : ℤ → ℕ
      size (pos n) = n
      size (negsuc n) = 0

      plus : (c : Contract) (a b : ℕ) → share (with_quantity (a + b) c) ≡ share (with_quantity a c) +ℤ share (with_quantity b c)
      plus c a b = rw (kept c (a + b), kept c a, kept c b) (by (chosen c))
        where
          by : (t : Bool) → pos (cond t (a + b) 0) ≡ pos (cond t a 0) +ℤ pos (cond t b 0)
          by true = refl
          by false = refl

      nothing : (c : Contract) → share (with_quantity 0 c) ≡ pos 0
      nothing c = by (chosen (with_quantity 0 c))
        where
          by : (t : Bool) → pos (cond t 0 0) ≡ pos 0
          by true = refl
          by false = refl
