-- From a hub's lists to all nodes below n: a sum over the pairs is one over the nodes, by the weight of each.
use mathlib.Core.Path.{◌≡◌, refl, sym, ap, subst}
use mathlib.Core.Bool.{Bool, true, false, cond, not}
use mathlib.Core.Logic.{⊎_elim}
use mathlib.Core.List.{List, [], ◌∷◌}
use Prim.Native.Nat.{ℕ, zero, suc, ◌+◌, ◌≤◌, ◌<◌}
use native.Mathlib.Nat.{eq-or-lt_of_le}
use native.Mathlib.Omega.{arith}
use lib.Dec.{T, leb, eqb, eqb→eq, eqb_refl, nleb→lt}
use lib.ListN.{length}
use Rattle.lists.specs.Lists.{any_of}
use Rattle.lists.proofs.Search.{neither}
use Rattle.largest_remainders.specs.Ranks.{add_to}
use Rattle.largest_remainders.proofs.Counting.{add_to-cong, add_to-plus}
use Rattle.hub_rules.specs.Hubs.{sum_by_of, listed, twice, weight_of}
use Rattle.hub_rules.specs.Inner.{add_pairs}

pub fails : (b : Bool) → b ≡ false → T (not b)
fails b e = subst (λ (x : Bool). T (not x)) (sym e) tt

pub add_to-zero : (n : ℕ) {f : ℕ → ℕ} → ((m : ℕ) → f m ≡ 0) → add_to n f ≡ 0
unfolding add_to
add_to-zero zero e = refl
add_to-zero (suc n) e = omega (arith, add_to-zero n e, e n)

-- one node's term
at_one : (b : Bool) (c : ℕ) → cond b c 0 ≤ c
at_one true c = omega arith
at_one false c = omega arith

pub add_to-at : (n k c : ℕ) → k < n → add_to n (λ m. cond (eqb k m) c 0) ≡ c
unfolding add_to
add_to-at zero k c h = absurd (omega arith)
add_to-at (suc n) k c h = ⊎_elim (λ e. here (omega arith)) (λ l. there (λ b. add_to-at n k c b) (omega arith)) (eq-or-lt_of_le h)
  where
    off : (k n : ℕ) → (k ≡ n → ⊥) → cond (eqb k n) c 0 ≡ 0
    off k n a = by (eqb k n) (eqb→eq k n)
      where
        by : (b : Bool) → (T b → k ≡ n) → cond b c 0 ≡ 0
        by true f = absurd (a (f tt))
        by false f = refl

    on : (k : ℕ) → cond (eqb k k) c 0 ≡ c
    on k = by (eqb k k) (eqb_refl k)
      where
        by : (b : Bool) → T b → cond b c 0 ≡ c
        by true t = refl
        by false t = absurd t

    none : (j : ℕ) → j ≤ k → add_to j (λ m. cond (eqb k m) c 0) ≡ 0
    none zero b = refl
    none (suc j) b = omega (arith, none j (omega arith), off k j (λ e. omega arith))

    here : k ≡ n → add_to n (λ m. cond (eqb k m) c 0) + cond (eqb k n) c 0 ≡ c
    here e = omega (arith, none n (omega arith), subst (λ (x : ℕ). cond (eqb k x) c 0 ≡ c) e (on k))

    there : (k < n → add_to n (λ m. cond (eqb k m) c 0) ≡ c) → k < n → add_to n (λ m. cond (eqb k m) c 0) + cond (eqb k n) c 0 ≡ c
    there r l = omega (arith, r l, off k n (λ e. omega arith))

pub unlisted : (ns ws : List ℕ) (m : ℕ) → listed ns m ≡ false → weight_of ns ws m ≡ 0
unfolding any_of weight_of
unlisted [] ws m e = refl
unlisted (x ∷ ns) [] m e = refl
unlisted (x ∷ ns) (w ∷ ws) m e = by (eqb x m) (neither (eqb x m) (listed ns m) e).0 (unlisted ns ws m (neither (eqb x m) (listed ns m) e).1)
  where
    by : (b : Bool) → b ≡ false → weight_of ns ws m ≡ 0 → cond b w (weight_of ns ws m) ≡ 0
    by true e r = cc
    by false e r = r

pub nodes-pairs : (n : ℕ) (ns ws : List ℕ) → twice ns ≡ false → any_of (leb n) ns ≡ false → (h : ℕ → ℕ → ℕ) → ((m : ℕ) → h m 0 ≡ 0) → add_to n (λ m. h m (weight_of ns ws m)) ≡ add_pairs ns ws h
unfolding any_of twice weight_of add_pairs
nodes-pairs n [] ws once low h z = add_to-zero n z
nodes-pairs n (x ∷ ns) [] once low h z = add_to-zero n z
nodes-pairs n (x ∷ ns) (w ∷ ws) once low h z =
    omega (
      arith,
      add_to-cong n {f = λ m. h m (cond (eqb x m) w (weight_of ns ws m))} {g = λ m. cond (eqb x m) (h x w) 0 + h m (weight_of ns ws m)} (λ m b. point (eqb x m) m (eqb→eq x m)),
      add_to-plus n (λ m. cond (eqb x m) (h x w) 0) (λ m. h m (weight_of ns ws m)),
      add_to-at n x (h x w) (nleb→lt n x (fails (leb n x) (neither (leb n x) (any_of (leb n) ns) low).0)),
      nodes-pairs n ns ws (neither (listed ns x) (twice ns) once).1 (neither (leb n x) (any_of (leb n) ns) low).1 h z,
    )
  where
    gone : weight_of ns ws x ≡ 0
    gone = unlisted ns ws x (neither (listed ns x) (twice ns) once).0

    point : (b : Bool) (m : ℕ) → (T b → x ≡ m) → h m (cond b w (weight_of ns ws m)) ≡ cond b (h x w) 0 + h m (weight_of ns ws m)
    point true m e = subst (λ (m : ℕ). h m w ≡ h x w + h m (weight_of ns ws m)) (e tt) (omega (arith, ap (h x) gone, z x))
    point false m e = omega arith

-- a sum that does not look at the nodes
pub pairs-weights : (ns ws : List ℕ) → length ns ≡ length ws → (f : ℕ → ℕ) → add_pairs ns ws (λ x w. f w) ≡ sum_by_of f ws
unfolding add_pairs sum_by_of
pairs-weights [] [] e f = refl
pairs-weights [] (w ∷ ws) e f = absurd (omega arith)
pairs-weights (x ∷ ns) [] e f = absurd (omega arith)
pairs-weights (x ∷ ns) (w ∷ ws) e f = ap (λ (z : ℕ). f w + z) (pairs-weights ns ws (omega arith) f)

pub pairs-mono : (ns ws : List ℕ) {f g : ℕ → ℕ → ℕ} → ((x w : ℕ) → f x w ≤ g x w) → add_pairs ns ws f ≤ add_pairs ns ws g
unfolding add_pairs
pairs-mono [] ws h = omega arith
pairs-mono (x ∷ ns) [] h = omega arith
pairs-mono (x ∷ ns) (w ∷ ws) h = omega (arith, h x w, pairs-mono ns ws h)

-- at most one for each node
pub pairs-length : (ns ws : List ℕ) (f : ℕ → ℕ → Bool) → add_pairs ns ws (λ x w. cond (f x w) 1 0) ≤ length ns
unfolding add_pairs
pairs-length [] ws f = omega arith
pairs-length (x ∷ ns) [] f = omega arith
pairs-length (x ∷ ns) (w ∷ ws) f = omega (arith, at_one (f x w) 1, pairs-length ns ws f)
