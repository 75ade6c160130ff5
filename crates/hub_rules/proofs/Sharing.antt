-- A hub that is not turned down shares as largest_remainders does, over all nodes below n with the weight 0 for those that are not listed.
use mathlib.Core.Path.{◌≡◌, refl, sym, ap, ap₂, subst, ◌∙◌}
use mathlib.Core.Bool.{Bool, true, false, cond, not, ◌||◌, ◌&&◌}
use mathlib.Core.Logic.{⊎_elim}
use mathlib.Core.List.{List}
use Prim.Native.Nat.{ℕ, ◌+◌, ◌-◌, ◌*◌, ◌/◌, ◌%◌, ◌≤◌, ◌<◌}
use native.Mathlib.Nat.{eq-zero-or-pos}
use native.Mathlib.Omega.{arith}
use lib.Dec.{T, ltb, eqb, ltb→lt, eqb→eq, eqb_refl, nltb→le}
use lib.ListN.{length}
use Rattle.lists.specs.Lists.{any_of}
use Rattle.lists.proofs.Search.{neither}
use Rattle.largest_remainders.specs.Ranks.{add_to, rank_of}
use Rattle.largest_remainders.specs.Shares.{before_by, total_weight, whole, rest, leftover, rank, given_one, share, positives}
use Rattle.largest_remainders.proofs.Counting.{bit, add_to-cong, count-is_sum, bit_same}
use Rattle.largest_remainders.proofs.Sharing.{wholes_le}
use Rattle.largest_remainders.proofs.Theorems.{adds-up, near, few, to_positive, no_weight}
use Rattle.tariff.specs.Units.{hub_weight, max_hub_nodes}
use Rattle.hub_rules.specs.Hubs.{sum_by_of, listed, weight_bad_of, weight_of}
use Rattle.hub_rules.specs.Theorems.{Taken}
use Rattle.hub_rules.specs.Inner.{IsHub, add_pairs, down_share, share_rest, left_over, is_ahead, ahead_of, listed_share}
use Rattle.hub_rules.proofs.Nodes.{fails, unlisted, nodes-pairs, pairs-weights, pairs-mono, pairs-length}

holds : (b : Bool) → not b ≡ false → T b
holds true e = tt
holds false e = subst T e tt

pub is-hub : (n : ℕ) (ns ws : List ℕ) → Taken n ns ws → IsHub n ns ws
is-hub n ns ws t =
    let total_weight = not (eqb (sum_by_of (λ w. w) ws) hub_weight) in
    let s1 = neither (eqb (length ns) 0) (ltb max_hub_nodes (length ns) || (not (eqb (length ns) (length ws)) || (any_of weight_bad_of ws || total_weight))) t.shaped in
    let s2 = neither (ltb max_hub_nodes (length ns)) (not (eqb (length ns) (length ws)) || (any_of weight_bad_of ws || total_weight)) s1.1 in
    let s3 = neither (not (eqb (length ns) (length ws))) (any_of weight_bad_of ws || total_weight) s2.1 in
    let s4 = neither (any_of weight_bad_of ws) total_weight s3.1 in
    record {
      some_nodes = ⊎_elim (λ z. absurd (nonzero (length ns) s1.0 z)) (λ p. p) (eq-zero-or-pos (length ns));
      few-nodes = nltb→le max_hub_nodes (length ns) (fails (ltb max_hub_nodes (length ns)) s2.0);
      one_each = eqb→eq (length ns) (length ws) (holds (eqb (length ns) (length ws)) s3.0);
      together = eqb→eq (sum_by_of (λ w. w) ws) hub_weight (holds (eqb (sum_by_of (λ w. w) ws) hub_weight) s4.1);
      low = t.below;
      once = t.once;
    }
  where
    nonzero : (k : ℕ) → eqb k 0 ≡ false → k ≡ 0 → ⊥
    nonzero k e z = subst T (subst (λ (x : ℕ). eqb x 0 ≡ false) z e) (eqb_refl 0)

pub weight_some : 0 < hub_weight
weight_some = omega arith

module _ (n : ℕ) (ns ws : List ℕ) (hub : IsHub n ns ws) (q : ℕ) where
  -- the weight of each node
  abbrev W : ℕ → ℕ
  W = weight_of ns ws

  pub total-is : total_weight n W ≡ hub_weight
  unfolding total_weight
  total-is = nodes-pairs n ns ws hub.once hub.low (λ m w. w) (λ m. refl) ∙ pairs-weights ns ws hub.one_each (λ w. w) ∙ hub.together

  pub total-some : 0 < total_weight n W
  total-some = omega (arith, total-is, weight_some)

  pub whole_is : (m : ℕ) → whole n W q m ≡ down_share q (W m)
  unfolding whole down_share
  whole_is m = ap (λ (t : ℕ). q * W m / t) total-is

  pub rest-is : (m : ℕ) → rest n W q m ≡ share_rest q (W m)
  unfolding rest share_rest
  rest-is m = ap (λ (t : ℕ). q * W m % t) total-is

  down_none : down_share q 0 ≡ 0
  unfolding down_share
  down_none = ap (λ (x : ℕ). x / 100000) {x = q * 0} {y = 0} (omega arith)

  rest-none : share_rest q 0 ≡ 0
  unfolding share_rest
  rest-none = ap (λ (x : ℕ). x % 100000) {x = q * 0} {y = 0} (omega arith)

  pub downs_are : add_to n (whole n W q) ≡ sum_by_of (down_share q) ws
  downs_are =
      add_to-cong n (λ m b. whole_is m) ∙ nodes-pairs n ns ws hub.once hub.low (λ m w. down_share q w) (λ m. down_none) ∙ pairs-weights ns ws hub.one_each (down_share q)

  pub downs_le : sum_by_of (down_share q) ws ≤ q
  downs_le = omega (arith, downs_are, wholes_le n W q total-some)

  pub leftover-is : leftover n W q ≡ left_over q ws
  unfolding leftover left_over
  leftover-is = ap (λ (x : ℕ). q - x) downs_are

  positives-is : positives n W q ≡ add_pairs ns ws (λ x w. bit (ltb 0 (share_rest q w)))
  unfolding positives
  positives-is =
      count-is_sum n (λ i. ltb 0 (rest n W q i))
      ∙ add_to-cong n {g = λ m. bit (ltb 0 (share_rest q (W m)))} (λ m b. ap (λ (r : ℕ). bit (ltb 0 r)) (rest-is m))
      ∙ nodes-pairs n ns ws hub.once hub.low (λ m w. bit (ltb 0 (share_rest q w))) (λ m. ap (λ (r : ℕ). bit (ltb 0 r)) rest-none)

  pub few-over : left_over q ws < length ns
  few-over = ⊎_elim (λ e. omega (arith, leftover-is, hub.some_nodes)) (λ l. omega (arith, leftover-is, positives-is, pairs-length ns ws (λ x w. ltb 0 (share_rest q w)))) (few n W q total-some)

  pub leftover-few : leftover n W q < length ns
  leftover-few = omega (arith, leftover-is, few-over)

  -- ahead of a positive remainder stand positive ones only, so all that are ahead are listed
  nothing_ahead : (r : ℕ) → 0 < r → (tie : Bool) → bit (ltb r 0 || (eqb 0 r && tie)) ≡ 0
  nothing_ahead r h tie = by (ltb r 0) (eqb 0 r) (ltb→lt r 0) (eqb→eq 0 r)
    where
      by : (a b : Bool) → (T a → r < 0) → (T b → 0 ≡ r) → bit (a || (b && tie)) ≡ 0
      by true b f g = absurd (omega (arith, f tt))
      by false true f g = absurd (omega (arith, g tt))
      by false false f g = refl

  pub rank_is : (m : ℕ) → 0 < share_rest q (W m) → rank n W q m ≡ ahead_of ns ws q m
  unfolding rank rank_of ahead_of
  rank_is m h =
      count-is_sum n (λ j. before_by (rest n W q) j m)
      ∙ add_to-cong n {g = λ j. bit (is_ahead (share_rest q (W j)) j (share_rest q (W m)) m)} (λ j b. ap₂ (λ (s r : ℕ). bit (is_ahead s j r m)) (rest-is j) (rest-is m))
      ∙ nodes-pairs n ns ws hub.once hub.low (λ x w. bit (is_ahead (share_rest q w) x (share_rest q (W m)) m))
      (λ x. ap (λ (s : ℕ). bit (is_ahead s x (share_rest q (W m)) m)) rest-none ∙ nothing_ahead (share_rest q (W m)) h _)

  -- ahead of the remainder 0 stand all positive ones
  pub zero_behind : (m : ℕ) → share_rest q (W m) ≡ 0 → left_over q ws ≤ ahead_of ns ws q m
  unfolding ahead_of
  zero_behind m e =
      let all : add_pairs ns ws (λ x w. bit (ltb 0 (share_rest q w))) ≤ add_pairs ns ws (λ x w. bit (is_ahead (share_rest q w) x (share_rest q (W m)) m))
      = pairs-mono ns ws (λ x w. rw e (left (ltb 0 (share_rest q w)) _)) in
      ⊎_elim (λ z. omega (arith, leftover-is)) (λ l. omega (arith, leftover-is, positives-is, all)) (few n W q total-some)
    where
      left : (a b : Bool) → bit a ≤ bit (a || b)
      left true b = omega arith
      left false b = omega arith

  -- so who is given one is the same
  pub given_is : (m : ℕ) → given_one n W q m ≡ ltb (ahead_of ns ws q m) (left_over q ws)
  given_is m = ⊎_elim zero_rest (λ p. ap₂ ltb (rank_is m p) leftover-is) (eq-zero-or-pos (share_rest q (W m)))
    where
      zero_rest : share_rest q (W m) ≡ 0 → given_one n W q m ≡ ltb (ahead_of ns ws q m) (left_over q ws)
      zero_rest e = bit_same (given_one n W q m) (ltb (ahead_of ns ws q m) (left_over q ws))
          (λ t. absurd (no (to_positive n W q total-some m t)))
          (λ t. absurd (never (ltb→lt (ahead_of ns ws q m) (left_over q ws) t)))
        where
          no : 0 < rest n W q m → ⊥
          no p = omega (arith, rest-is m)

          never : ahead_of ns ws q m < left_over q ws → ⊥
          never l = omega (arith, zero_behind m e)

  pub share-is : (m : ℕ) → listed_share ns ws q m ≡ share n W q m
  unfolding listed_share share
  share-is m = by (listed ns m) (unlisted ns ws m)
    where
      by : (b : Bool) → (b ≡ false → W m ≡ 0) → cond b (down_share q (W m) + bit (ltb (ahead_of ns ws q m) (left_over q ws))) 0 ≡ whole n W q m + bit (given_one n W q m)
      by true f = ap₂ ◌+◌ (sym (whole_is m)) (ap bit (sym (given_is m)))
      by false f = sym (no_weight n W q total-some m (f refl))

  pub shares_sum : add_to n (listed_share ns ws q) ≡ q
  shares_sum = add_to-cong n (λ m b. share-is m) ∙ adds-up n W q total-some

  pub share-above : (m : ℕ) → hub_weight * share n W q m < q * W m + hub_weight
  share-above m = subst (λ (t : ℕ). t * share n W q m < q * W m + t) total-is (omega (arith, (near n W q total-some m).0))

  pub share-below : (m : ℕ) → q * W m < hub_weight * share n W q m + hub_weight
  share-below m = subst (λ (t : ℕ). q * W m < t * share n W q m + t) total-is (omega (arith, (near n W q total-some m).1))

  -- a node whose remainder is 0 gets nothing of what is left over
  pub nothing_over : (m : ℕ) → rest n W q m ≡ 0 → share n W q m ≡ whole n W q m
  unfolding share
  nothing_over m e = by (given_one n W q m) (to_positive n W q total-some m)
    where
      by : (b : Bool) → (T b → 0 < rest n W q m) → whole n W q m + cond b 1 0 ≡ whole n W q m
      by true f = absurd (omega (arith, f tt))
      by false f = omega arith
