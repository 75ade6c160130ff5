-- The rows that `canonical` gives are canonical: merged rows have strictly ascending fives, and each is cut into full rows and a rest.
use mathlib.Core.Path.{◌≡◌, refl}
use mathlib.Core.Logic.{inl, inr, ⊎_elim}
use mathlib.Core.Bool.{Bool, true, false, cond}
use mathlib.Core.List.{List, [], ◌∷◌, ◌++◌, flat_map, append_assoc}
use Prim.Native.Nat.{ℕ, zero, suc, ◌+◌, ◌/◌, ◌%◌, ◌≤◌, ◌<◌}
use native.Mathlib.Omega.{arith}
use native.Mathlib.Nat.{eq-or-lt_of_le}
use borrow.Author.Tests.{eqb-false, ltb-true, ltb-false}
use lib.Dec.{eqb, ltb}
use lib.ListN.{replicate}
use Rattle.lists.specs.Lists.{Each}
use Rattle.lists.proofs.Lists.{each_append}
use Rattle.tariff.specs.declared.contracts.Contract.{Contract}
use Rattle.tariff.specs.Units.{max_quantity}
use Rattle.test_flow_laws.specs.Quantities.{with_quantity}
use Rattle.canonical_rules.specs.Canonical.{quantity, five_of, has_five_of, BeforeNext, Ordered, Filled, CanonicalOf, merge_into, merged_rows, cut, canonical}
use Rattle.canonical_rules.specs.Theorems.{FiveFits}
use Rattle.canonical_rules.proofs.Totals.{each-add_into, each-merged, total-canonical}

-- ---- strictly ascending fives

abbrev Above : Contract → List Contract → Type 0
Above r rows = Each (λ c. five_of r < five_of c) rows

abbrev Strict : List Contract → Type 0
Strict [] = Unit
Strict (r ∷ rows) = Above r rows × Strict rows

pub five_at : (c : Contract) (q : ℕ) → five_of (with_quantity q c) ≡ five_of c
unfolding five_of
five_at c q = refl

each-weaker : {P Q : Contract → Type 0} → ((c : Contract) → P c → Q c) → (cs : List Contract) → Each P cs → Each Q cs
each-weaker w [] e = tt
each-weaker w (c ∷ cs) e = (w c e.0, each-weaker w cs e.1)

strict_add_into : (c : Contract) (rows : List Contract) → Strict rows → Strict (merge_into c rows)
unfolding merge_into
strict_add_into c [] s = (tt, tt)
strict_add_into c (r ∷ rows) s = by (strict_add_into c rows s.1) (eqb (five_of c) (five_of r)) refl (ltb (five_of c) (five_of r)) refl
  where
    by : Strict (merge_into c rows) → (p : Bool) → eqb (five_of c) (five_of r) ≡ p → (q : Bool) → ltb (five_of c) (five_of r) ≡ q
        → Strict (cond p (with_quantity (quantity c + quantity r) r ∷ rows) (cond q (c ∷ r ∷ rows) (r ∷ merge_into c rows)))
    by more true e q d = (each-weaker (λ x l. rw (five_at r (quantity c + quantity r)) l) rows s.0, s.1)
    by more false e true d =
        let l = ltb-true (five_of c) (five_of r) d in
        ((l, each-weaker (λ x m. omega (arith, l, m)) rows s.0), s)
    by more false e false d =
        let l : five_of r < five_of c = omega (arith, ltb-false (five_of c) (five_of r) d, eqb-false (five_of c) (five_of r) e) in
        (each-add_into (λ x. five_of r < five_of x) (λ x q m. rw (five_at x q) m) c rows l s.0, more)

strict_merged : (cs : List Contract) → Strict (merged_rows cs)
unfolding merged_rows
strict_merged [] = tt
strict_merged (c ∷ cs) = strict_add_into c (merged_rows cs) (strict_merged cs)

-- ---- what holds of a full row and of any rest holds of each row cut

module _ (P : Contract → Type 0) where
  each-replicate : (n : ℕ) (r : Contract) → P r → Each P (replicate n r)
  each-replicate zero r h = tt
  each-replicate (suc n) r h = (h, each-replicate n r h)

  each-rest : (c : Contract) → ((quantity c % max_quantity ≡ 0 → ⊥) → P (with_quantity (quantity c % max_quantity) c))
      → Each P (cond (eqb (quantity c % max_quantity) 0) [] (with_quantity (quantity c % max_quantity) c ∷ []))
  each-rest c h = by (eqb (quantity c % max_quantity) 0) refl
    where
      by : (t : Bool) → eqb (quantity c % max_quantity) 0 ≡ t → Each P (cond t [] (with_quantity (quantity c % max_quantity) c ∷ []))
      by true e = tt
      by false e = (h (eqb-false (quantity c % max_quantity) 0 e), tt)

  each-cut : (c : Contract) → P (with_quantity max_quantity c) → ((quantity c % max_quantity ≡ 0 → ⊥) → P (with_quantity (quantity c % max_quantity) c)) → Each P (cut c)
  unfolding cut
  each-cut c full rest = each_append P (replicate (quantity c / max_quantity) (with_quantity max_quantity c)) _ (each-replicate (quantity c / max_quantity) _ full) (each-rest c rest)

  each_cuts : ((c : Contract) → Each P (cut c)) → (rows : List Contract) → Each P (flat_map cut rows)
  unfolding flat_map
  each_cuts h [] = tt
  each_cuts h (r ∷ rows) = each_append P (cut r) (flat_map cut rows) (h r) (each_cuts h rows)

-- each row cut is 1 to 1,000,000
filled-cut : (c : Contract) → Each Filled (cut c)
filled-cut c = each-cut Filled c (omega arith, omega arith) (λ n. (omega arith, omega arith))

-- and of its contract's five
five_cut : (P : ℕ → Type 0) (c : Contract) → P (five_of c) → Each (λ r. P (five_of r)) (cut c)
five_cut P c h = each-cut (λ r. P (five_of r)) c (rw (five_at c max_quantity) h) (λ n. rw (five_at c (quantity c % max_quantity)) h)

five_cuts : (P : ℕ → Type 0) (rows : List Contract) → Each (λ r. P (five_of r)) rows → Each (λ r. P (five_of r)) (flat_map cut rows)
unfolding flat_map
five_cuts P [] e = tt
five_cuts P (r ∷ rows) e = each_append (λ c. P (five_of c)) (cut r) (flat_map cut rows) (five_cut P r e.0) (five_cuts P rows e.1)

-- what holds whatever the quantity holds of each canonical row
module _ (P : Contract → Type 0) (kept : (c : Contract) (q : ℕ) → P c → P (with_quantity q c)) where
  kept-cuts : (rows : List Contract) → Each P rows → Each P (flat_map cut rows)
  unfolding flat_map
  kept-cuts [] e = tt
  kept-cuts (r ∷ rows) e = each_append P (cut r) (flat_map cut rows) (each-cut P r (kept r _ e.0) (λ n. kept r _ e.0)) (kept-cuts rows e.1)

  pub each-canonical : (cs : List Contract) → Each P cs → Each P (canonical cs)
  unfolding canonical
  each-canonical cs e = kept-cuts (merged_rows cs) (each-merged P kept cs e)

-- ---- a contract cut before rows of greater fives

next-above : (r : Contract) (rows : List Contract) → Above r rows → BeforeNext r rows
next-above r [] a = tt
next-above r (s ∷ rows) a = inl a.0

next-full : (r : Contract) (rows : List Contract) → quantity r ≡ max_quantity → Each (λ c. five_of r ≤ five_of c) rows → BeforeNext r rows
next-full r [] full a = tt
next-full r (s ∷ rows) full a = ⊎_elim (λ e. inr (e, full)) (λ l. inl l) (eq-or-lt_of_le a.0)

module _ (r : Contract) (rows : List Contract) (above : Each (λ c. five_of r ≤ five_of c) rows) (full : quantity r ≡ max_quantity) where
  from_full : (n : ℕ) → Each (λ c. five_of r ≤ five_of c) (replicate n r ++ rows)
  from_full n = each_append (λ c. five_of r ≤ five_of c) (replicate n r) rows (each-replicate (λ c. five_of r ≤ five_of c) n r (omega arith)) above

  ordered-full : (n : ℕ) → Ordered rows → Ordered (replicate n r ++ rows)
  ordered-full zero o = o
  ordered-full (suc n) o = (next-full r (replicate n r ++ rows) full (from_full n), ordered-full n o)

ordered-cut : (c : Contract) (rows : List Contract) → Above c rows → Ordered rows → Ordered (cut c ++ rows)
unfolding cut
ordered-cut c rows above o =
    rw (append_assoc (replicate (quantity c / max_quantity) (with_quantity max_quantity c)) (rest (eqb (quantity c % max_quantity) 0)) rows)
    (ordered-full (with_quantity max_quantity c) (rest (eqb (quantity c % max_quantity) 0) ++ rows) (at_least (eqb (quantity c % max_quantity) 0)) refl (quantity c / max_quantity)
    (ordered-rest (eqb (quantity c % max_quantity) 0)))
  where
    rest : Bool → List Contract
    rest t = cond t [] (with_quantity (quantity c % max_quantity) c ∷ [])

    ordered-rest : (t : Bool) → Ordered (rest t ++ rows)
    ordered-rest true = o
    ordered-rest false = (next-above (with_quantity (quantity c % max_quantity) c) rows (each-weaker (λ x l. rw (five_at c (quantity c % max_quantity)) l) rows above), o)

    reach : Each (λ x. five_of (with_quantity max_quantity c) ≤ five_of x) rows
    reach = each-weaker (λ x l. rw (five_at c max_quantity) (omega (arith, l))) rows above

    at_least : (t : Bool) → Each (λ x. five_of (with_quantity max_quantity c) ≤ five_of x) (rest t ++ rows)
    at_least true = reach
    at_least false = (rw (five_at c max_quantity, five_at c (quantity c % max_quantity)) (omega arith), reach)

ordered-cuts : (rows : List Contract) → Strict rows → Ordered (flat_map cut rows)
unfolding flat_map
ordered-cuts [] s = tt
ordered-cuts (r ∷ rows) s = ordered-cut r (flat_map cut rows) (five_cuts (λ f. five_of r < f) rows s.0) (ordered-cuts rows s.1)

-- ---- all three facts

pub canonical-is : (cs : List Contract) → Each FiveFits cs → CanonicalOf cs (canonical cs)
unfolding canonical has_five_of
canonical-is cs fits =
    record {
      ordered = ordered-cuts (merged_rows cs) (strict_merged cs);
      filled = each_cuts Filled filled-cut (merged_rows cs);
      totals = λ kind period holder source sink. total-canonical (has_five_of kind period holder source sink) (λ c q. refl) cs fits;
    }
