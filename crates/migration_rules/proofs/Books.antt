-- What migration adds to a book: pairs, in the period alone, of quantities that stay within the base contract's.
use mathlib.Core.Path.{◌≡◌, refl}
use mathlib.Core.Bool.{Bool, true, false, cond, ◌&&◌}
use mathlib.Core.List.{List, [], ◌∷◌, flat_map, append-nil}
use Prim.Native.Nat.{ℕ, zero, suc, ◌*◌, ◌/◌, ◌≤◌, ◌<◌}
use native.Mathlib.Nat.{div-le_of_le-mul, mul-le-mul_left, mul_comm, mul-add, add-mul, le_trans, div-mul-le_self, le_of_mul-le-mul_right}
use native.Mathlib.Omega.{arith}
use borrow.Author.Tests.{eqb-true, eqb-false, ltb-true, leb-true}
use lib.Dec.{eqb, ltb, leb}
use lib.ListN.{length, take}
use lib.Seq.{take_at}
use Rattle.largest_remainders.specs.Ranks.{add_to}
use Rattle.lists.specs.Lists.{Each}
use Rattle.lists.proofs.Lists.{each_append}
use Rattle.lists.proofs.Search.{both}
use Rattle.tariff.specs.declared.contracts.Contract.{Contract}
use Rattle.tariff.specs.declared.contracts.Period.{Period}
use Rattle.tariff.specs.declared.contracts.Period.TheVariants.{OffPeak, OnPeak}
use Rattle.tariff.specs.ContractRules.{same_period, of_period}
use Rattle.tariff.proofs.Periods.{of_period-append}
use Rattle.migration_rules.specs.Transfers.{losses_to, load}
use Rattle.migration_rules.specs.ContractRules.{gained, countered, obliges, migrates, gainer_share, pair_for, pairs_to, new_from, new_book}
use Rattle.migration_rules.specs.Theorems.{MigrationKept, shares_to}
use Rattle.migration_rules.specs.Inner.{Within}
use Rattle.migration_rules.proofs.Pairs.{Paired, made, paired_append, pairs-keep}

other : (a t u : Period) → same_period a t ≡ true → same_period t u ≡ false → same_period a u ≡ false
other OffPeak OffPeak u e f = f
other OffPeak OnPeak u e f = cc
other OnPeak OffPeak u e f = cc
other OnPeak OnPeak u e f = f

-- ---- what is known of a base contract

module _ (t : Period) (n : ℕ) where
  pub record Base (c : Contract) : Type 0 where
    pub in_period : same_period c.period t ≡ true
    pub numbered : 0 < c.holder
    pub listed : c.holder ≤ n

  pub base : (c : Contract) → migrates t n c ≡ true → Base c
  unfolding migrates
  base c e =
      let a = both (obliges c.kind) (same_period c.period t && (ltb 0 c.holder && leb c.holder n)) e in
      let b = both (same_period c.period t) (ltb 0 c.holder && leb c.holder n) a.1 in
      let d = both (ltb 0 c.holder) (leb c.holder n) b.1 in
      record { in_period = b.0; numbered = ltb-true 0 c.holder d.0; listed = leb-true c.holder n d.1 }

module _ (t : Period) (lost : ℕ → ℕ → ℕ) (loads : List ℕ) where
  -- ---- pairs
  one_paired : (c : Contract) (j : ℕ) → Paired (pair_for lost loads c j)
  unfolding pair_for
  one_paired c j = by (eqb (gainer_share lost loads c j) 0)
    where
      by : (b : Bool) → Paired (cond b [] (gained c j (gainer_share lost loads c j) ∷ countered c (gainer_share lost loads c j) ∷ []))
      by true = tt
      by false = (made c j (gainer_share lost loads c j), tt)

  to_paired : (c : Contract) (m : ℕ) → Paired (pairs_to lost loads c m)
  unfolding pairs_to
  to_paired c zero = tt
  to_paired c (suc m) = paired_append (pairs_to lost loads c m) (pair_for lost loads c (suc m)) (to_paired c m) (one_paired c (suc m))

  from_paired : (c : Contract) → Paired (new_from lost loads t c)
  unfolding new_from
  from_paired c = by (migrates t (length loads) c)
    where
      by : (b : Bool) → Paired (cond b (pairs_to lost loads c (length loads)) [])
      by true = to_paired c (length loads)
      by false = tt

  pub all-paired : (book : List Contract) → Paired (flat_map (new_from lost loads t) book)
  unfolding flat_map
  all-paired [] = tt
  all-paired (c ∷ cs) = paired_append (new_from lost loads t c) (flat_map (new_from lost loads t) cs) (from_paired c) (all-paired cs)

  pub migration_keeps : (book : List Contract) → MigrationKept book (new_book lost loads t book)
  unfolding new_book
  migration_keeps book = pairs-keep book (flat_map (new_from lost loads t) book) (all-paired book)

  pub old-stay : (book : List Contract) → take (length book) (new_book lost loads t book) ≡ book
  unfolding new_book
  old-stay book = take_at book (flat_map (new_from lost loads t) book) (length book) refl

  -- ---- the other period
  module _ (u : Period) (f : same_period t u ≡ false) where
    one_other : (c : Contract) (j : ℕ) → same_period c.period u ≡ false → of_period u (pair_for lost loads c j) ≡ []
    unfolding pair_for of_period
    one_other c j e = by (eqb (gainer_share lost loads c j) 0)
      where
        by : (b : Bool) → of_period u (cond b [] (gained c j (gainer_share lost loads c j) ∷ countered c (gainer_share lost loads c j) ∷ [])) ≡ []
        by true = refl
        by false = rw e

    to_other : (c : Contract) (m : ℕ) → same_period c.period u ≡ false → of_period u (pairs_to lost loads c m) ≡ []
    unfolding pairs_to of_period
    to_other c zero e = refl
    to_other c (suc m) e = rw (of_period-append u (pairs_to lost loads c m) (pair_for lost loads c (suc m)), to_other c m e, one_other c (suc m) e)

    from_other : (c : Contract) → of_period u (new_from lost loads t c) ≡ []
    unfolding new_from of_period
    from_other c = by (migrates t (length loads) c) refl
      where
        by : (b : Bool) → migrates t (length loads) c ≡ b → of_period u (cond b (pairs_to lost loads c (length loads)) []) ≡ []
        by true e = to_other c (length loads) (other c.period t u (base t (length loads) c e).in_period f)
        by false e = refl

    all-other : (book : List Contract) → of_period u (flat_map (new_from lost loads t) book) ≡ []
    unfolding flat_map of_period
    all-other [] = refl
    all-other (c ∷ cs) = rw (of_period-append u (new_from lost loads t c) (flat_map (new_from lost loads t) cs), all-other cs, from_other c)

    pub other_period_untouched : (book : List Contract) → of_period u (new_book lost loads t book) ≡ of_period u book
    unfolding new_book
    other_period_untouched book = rw (of_period-append u book (flat_map (new_from lost loads t) book), all-other book) (append-nil (of_period u book))

  -- ---- shares
  module _ (c : Contract) where
    by_load : (j : ℕ) → gainer_share lost loads c j * load loads c.holder ≤ c.quantity.0 * lost c.holder j
    unfolding gainer_share
    by_load j = by (eqb (lost c.holder j) 0)
      where
        by : (b : Bool) → cond b 0 (c.quantity.0 * lost c.holder j / load loads c.holder) * load loads c.holder ≤ c.quantity.0 * lost c.holder j
        by true = omega arith
        by false = div-mul-le_self (c.quantity.0 * lost c.holder j) (load loads c.holder)

    -- nothing is received where nothing is lost
    pub no_share : (j : ℕ) → lost c.holder j ≡ 0 → gainer_share lost loads c j ≡ 0
    unfolding gainer_share
    no_share j e = rw e

    pub share-at_most : (j : ℕ) → lost c.holder j ≤ load loads c.holder → gainer_share lost loads c j ≤ c.quantity.0
    unfolding gainer_share
    share-at_most j l = by (eqb (lost c.holder j) 0)
      where
        by : (b : Bool) → cond b 0 (c.quantity.0 * lost c.holder j / load loads c.holder) ≤ c.quantity.0
        by true = omega arith
        by false = div-le_of_le-mul (load loads c.holder) (omega (arith, mul-le-mul_left c.quantity.0 l, mul_comm (load loads c.holder) c.quantity.0))

    -- of gainers 1 to m together
    together : (m : ℕ) → shares_to lost loads c m * load loads c.holder ≤ c.quantity.0 * losses_to lost c.holder m
    unfolding losses_to shares_to add_to
    together zero = omega arith
    together (suc m) =
        omega (
          arith,
          together m,
          by_load (suc m),
          mul-add c.quantity.0 (losses_to lost c.holder m) (lost c.holder (suc m)),
          add-mul (shares_to lost loads c m) (gainer_share lost loads c (suc m)) (load loads c.holder),
        )

    none-lost : (m : ℕ) → losses_to lost c.holder m ≡ 0 → shares_to lost loads c m ≡ 0
    unfolding losses_to shares_to add_to
    none-lost zero e = refl
    none-lost (suc m) e = rw (none-lost m (omega arith), no_share (suc m) (omega arith))

    pub shares_at_most : (m : ℕ) → losses_to lost c.holder m ≤ load loads c.holder → shares_to lost loads c m ≤ c.quantity.0
    shares_at_most m h = by (eqb (load loads c.holder) 0) refl
      where
        by : (b : Bool) → eqb (load loads c.holder) 0 ≡ b → shares_to lost loads c m ≤ c.quantity.0
        by true e = let none : load loads c.holder ≡ 0 = eqb-true (load loads c.holder) 0 e in omega (arith, none-lost m (omega arith))
        by false e =
            let some : 0 < load loads c.holder = omega (arith, eqb-false (load loads c.holder) 0 e) in
            le_of_mul-le-mul_right (le_trans (together m) (mul-le-mul_left c.quantity.0 h)) some

  -- ---- each new contract is one of a pair, of a gainer's number and of 1 to the base's quantity
  module _ (P : Contract → Type 0) (ok : Within lost loads) where
    abbrev EachPair : Contract → Type 0
    EachPair c = (j q : ℕ) → 0 < j → j ≤ length loads → 0 < q → q ≤ c.quantity.0 → P (gained c j q) × P (countered c q)

    module _ (c : Contract) (is : Base t (length loads) c) (each : EachPair c) where
      one_each : (j : ℕ) → 0 < j → j ≤ length loads → Each P (pair_for lost loads c j)
      unfolding pair_for
      one_each j some most = by (eqb (gainer_share lost loads c j) 0) refl
        where
          by : (b : Bool) → eqb (gainer_share lost loads c j) 0 ≡ b → Each P (cond b [] (gained c j (gainer_share lost loads c j) ∷ countered c (gainer_share lost loads c j) ∷ []))
          by true e = tt
          by false e =
              let p = each j (gainer_share lost loads c j) some most (omega (arith, eqb-false (gainer_share lost loads c j) 0 e))
              (share-at_most c j (ok.within c.holder j is.numbered is.listed some most)) in
              (p.0, (p.1, tt))

      to_each : (m : ℕ) → m ≤ length loads → Each P (pairs_to lost loads c m)
      unfolding pairs_to
      to_each zero h = tt
      to_each (suc m) h = each_append P (pairs_to lost loads c m) (pair_for lost loads c (suc m)) (to_each m (omega arith)) (one_each (suc m) (omega arith) h)

    pub from_each : (c : Contract) → EachPair c → Each P (new_from lost loads t c)
    unfolding new_from
    from_each c each = by (migrates t (length loads) c) refl
      where
        by : (b : Bool) → migrates t (length loads) c ≡ b → Each P (cond b (pairs_to lost loads c (length loads)) [])
        by true e = to_each c (base t (length loads) c e) each (length loads) (omega arith)
        by false e = tt

    pub all-each : (book : List Contract) → Each EachPair book → Each P (flat_map (new_from lost loads t) book)
    unfolding flat_map
    all-each [] h = tt
    all-each (c ∷ cs) h = each_append P (new_from lost loads t c) (flat_map (new_from lost loads t) cs) (from_each c h.0) (all-each cs h.1)

  -- ---- no net above 0
  module _ (z : (i j : ℕ) → lost i j ≡ 0) where
    none-to : (c : Contract) (m : ℕ) → pairs_to lost loads c m ≡ []
    unfolding pairs_to pair_for
    none-to c zero = refl
    none-to c (suc m) = rw (none-to c m, no_share c (suc m) (z c.holder (suc m)))

    none_from : (c : Contract) → new_from lost loads t c ≡ []
    unfolding new_from
    none_from c = rw (none-to c (length loads)) (by (migrates t (length loads) c))
      where
        by : (b : Bool) → cond {A = List Contract} b [] [] ≡ []
        by true = refl
        by false = refl

    none-new : (book : List Contract) → flat_map (new_from lost loads t) book ≡ []
    unfolding flat_map
    none-new [] = refl
    none-new (c ∷ cs) = rw (none_from c, none-new cs)

    pub nothing_moved : (book : List Contract) → new_book lost loads t book ≡ book
    unfolding new_book
    nothing_moved book = rw (none-new book) (append-nil book)
