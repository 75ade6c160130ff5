-- The new contracts depend on the losses of LSEs 1 to n alone, and so does 23.
use mathlib.Core.Path.{◌≡◌, refl, sym, ◌∙◌}
use mathlib.Core.Bool.{Bool, true, false, cond}
use mathlib.Core.List.{List, [], ◌∷◌, flat_map}
use Prim.Native.Nat.{ℕ, zero, suc, ◌≤◌, ◌<◌}
use native.Mathlib.Omega.{arith}
use native.Mathlib.Nat.{le_trans}
use borrow.Author.Tests.{ltb-false, le-ltb, lt-ltb, ne_eqb}
use lib.Dec.{ltb}
use lib.ListN.{length}
use Rattle.lists.specs.Lists.{any_of, list_to}
use Rattle.lists.proofs.Lists.{length-list_to, get_d_list_to}
use Rattle.lists.proofs.Search.{none-bad}
use Rattle.tariff.specs.declared.contracts.Contract.{Contract}
use Rattle.tariff.specs.declared.contracts.Period.{Period}
use Rattle.migration_rules.specs.Transfers.{losses_to, load, exceeded, loads_exceeded_of}
use Rattle.migration_rules.specs.ContractRules.{migrates, gainer_share, pair_for, pairs_to, new_from, new_book}
use Rattle.migration_rules.specs.Inner.{Within}
use Rattle.migration_rules.proofs.Nets.{loss-within}
use Rattle.migration_rules.proofs.Books.{Base, base}

-- a load of 0 is less than any loss
pub exceeded-is : (l w : ℕ) → exceeded l w ≡ ltb w l
exceeded-is zero w = sym (le-ltb w 0 (omega arith))
exceeded-is (suc l) zero = rw (lt-ltb 0 (suc l) (omega arith))
exceeded-is (suc l) (suc w) = rw (lt-ltb 0 (suc l) (omega arith), ne_eqb (suc w) 0 (λ e. omega arith))

-- where 23 turns nothing down
pub loads-within : (lost : ℕ → ℕ → ℕ) (loads : List ℕ) → loads_exceeded_of lost loads ≡ false → Within lost loads
loads-within lost loads e = record { within = within }
  where
    all : (i : ℕ) → i < length loads → losses_to lost (suc i) (length loads) ≤ load loads (suc i)
    all i h =
        let n = length loads in
        let bad : ℕ → Bool = λ i. exceeded (losses_to lost i n) (load loads i) in
        let told = none-bad bad (list_to n suc) 0 e i (rw (length-list_to n suc) h) in
        ltb-false (load loads (suc i)) (losses_to lost (suc i) n) (sym (exceeded-is (losses_to lost (suc i) n) (load loads (suc i))) ∙ (rw (get_d_list_to n suc i 0 h) at told))

    within : (i j : ℕ) → 0 < i → i ≤ length loads → 0 < j → j ≤ length loads → lost i j ≤ load loads i
    within zero j a b c d = absurd (omega arith)
    within (suc i) j a b c d = le_trans (loss-within lost (suc i) (length loads) j c d) (all i (omega arith))

module _ (t : Period) (lost other : ℕ → ℕ → ℕ) (loads : List ℕ)
    (same : (i j : ℕ) → 0 < i → i ≤ length loads → 0 < j → j ≤ length loads → lost i j ≡ other i j) where
  module _ (c : Contract) (is : Base t (length loads) c) where
    share-alike : (j : ℕ) → 0 < j → j ≤ length loads → gainer_share lost loads c j ≡ gainer_share other loads c j
    unfolding gainer_share
    share-alike j any_of most = rw (same c.holder j is.numbered is.listed any_of most)

    to_alike : (m : ℕ) → m ≤ length loads → pairs_to lost loads c m ≡ pairs_to other loads c m
    unfolding pairs_to pair_for
    to_alike zero h = refl
    to_alike (suc m) h = rw (to_alike m (omega arith), share-alike (suc m) (omega arith) h)

  from_alike : (c : Contract) → new_from lost loads t c ≡ new_from other loads t c
  unfolding new_from
  from_alike c = by (migrates t (length loads) c) refl
    where
      by : (b : Bool) → migrates t (length loads) c ≡ b → cond b (pairs_to lost loads c (length loads)) [] ≡ cond b (pairs_to other loads c (length loads)) []
      by true e = to_alike c (base t (length loads) c e) (length loads) (omega arith)
      by false e = refl

  all_alike : (book : List Contract) → flat_map (new_from lost loads t) book ≡ flat_map (new_from other loads t) book
  unfolding flat_map
  all_alike [] = refl
  all_alike (c ∷ cs) = rw (from_alike c, all_alike cs)

  pub book-alike : (book : List Contract) → new_book lost loads t book ≡ new_book other loads t book
  unfolding new_book
  book-alike book = rw (all_alike book)
