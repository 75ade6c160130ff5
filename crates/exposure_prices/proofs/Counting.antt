-- Counts of overloaded constraints, what is left of a set's number, and the constraints listed: one constraint more.
use mathlib.Core.Path.{◌≡◌, refl, sym, ap, ◌∙◌}
use mathlib.Core.Logic.{⊎_elim}
use mathlib.Core.Bool.{Bool, true, false, cond, true≢false}
use mathlib.Core.List.{List}
use Prim.Native.Nat.{ℕ, zero, suc, ◌+◌, ◌/◌, ◌^◌, ◌≤◌, ◌<◌}
use native.Mathlib.Nat.{div-one, add-zero, le_of_eq, le_trans, le-add_right, eq-or-lt_of_le}
use native.Mathlib.Numerals.{add-one}
use native.Mathlib.Omega.{arith}
use borrow.Author.Tests.{ltb-true, ltb-false}
use lib.Dec.{ltb}
use lib.ListN.{length, get_or, set, take, length-set}
use lib.Seq.{get_or-take, get_or-set_same, get_or-set_other}
use Rattle.lists.specs.Sets.{count_of}
use Rattle.exposure_rules.proofs.Bounds.{by_bool}
use Rattle.exposure_rules.proofs.Sets.{half-on, counts_start, counts-one, counts-none}
use Rattle.exposure_prices.specs.Inner.{Noted, Listed}

-- ---- a set's number

-- what is left of a set's number, one constraint on
pub left-start : (m : ℕ) (b : ℕ → Bool) → m ≡ m / 2 ^ count_of 0 b
left-start m b = sym (rw (counts_start b) (div-one m))

pub left-next : (m k : ℕ) (b : ℕ → Bool) (x y : ℕ) → x ≡ m / 2 ^ count_of k b → y ≡ cond (b k) (x / 2) x → y ≡ m / 2 ^ count_of (k + 1) b
left-next m k b x y e t = t ∙ rw (add-one k) (by_bool (b k) one none)
  where
    one : b k ≡ true → cond (b k) (x / 2) x ≡ m / 2 ^ count_of (suc k) b
    one q = rw (q, counts-one b k q, half-on m (count_of k b)) (ap (λ (z : ℕ). z / 2) e)

    none : b k ≡ false → cond (b k) (x / 2) x ≡ m / 2 ^ count_of (suc k) b
    none q = rw (q, counts-none b k q) e

pub count_next : (k : ℕ) (b : ℕ → Bool) (c d : ℕ) → c ≡ count_of k b → d ≡ c + cond (b k) 1 0 → d ≡ count_of (k + 1) b
unfolding count_of
count_next k b c d e t = t ∙ rw (add-one k) (ap (λ (x : ℕ). x + cond (b k) 1 0) e)

pub counted-most : (b : Bool) (c k d : ℕ) → c ≤ k → d ≡ c + cond b 1 0 → d ≤ k + 1
counted-most true c k d h e = omega arith
counted-most false c k d h e = omega arith

-- ---- the list, one constraint more

pub noted_on : (b : Bool) (k count r : ℕ) (old new : List ℕ) → b ≡ true → count < length old → new ≡ set old count k → r ≡ count + 1 → Noted b k count old new r
noted_on b k count r old new t h e q =
    record {
      length-kept = ap length e ∙ length-set old count k;
      counts = rw t q;
      kept = λ j l. ap (λ (cells : List ℕ). get_or cells j 0) e ∙ get_or-set_other old count j k 0 (λ s. absurd (omega arith));
      noted = λ s. ap (λ (cells : List ℕ). get_or cells count 0) e ∙ get_or-set_same old count k 0 h;
    }

pub noted_off : (b : Bool) (k count r : ℕ) (old new : List ℕ) → b ≡ false → new ≡ old → r ≡ count → Noted b k count old new r
noted_off b k count r old new f e q =
    record {
      length-kept = ap length e;
      counts = rw f (q ∙ sym (add-zero count));
      kept = λ j l. ap (λ (cells : List ℕ). get_or cells j 0) e;
      noted = λ s. absurd (true≢false (sym s ∙ f));
    }

count-mono : (b : ℕ → Bool) (j k : ℕ) → j ≤ k → count_of j b ≤ count_of k b
unfolding count_of
count-mono b j zero h = rw (none j h) (omega arith)
  where
    none : (j : ℕ) → j ≤ 0 → j ≡ 0
    none j h = omega arith
count-mono b j (suc k) h = ⊎_elim (λ e. le_of_eq (ap (λ (x : ℕ). count_of x b) e))
    (λ l. le_trans (count-mono b j k (omega arith)) (le-add_right (count_of k b) (cond (b k) 1 0))) (eq-or-lt_of_le h)

-- the list without the cells behind it
pub listed-front : (b : ℕ → Bool) (k count : ℕ) (over : List ℕ) → count ≡ count_of k b → Listed k b over → Listed k b (take count over)
listed-front b k count over e l =
    record {
      at = λ j h t. get_or-take count over (count_of j b) 0 (inside j h t) ∙ l.at j h t;
      below = λ s h. rw (get_or-take count over s 0 (rw e h)) (l.below s h);
    }
  where
    inside : (j : ℕ) → j < k → b j ≡ true → count_of j b < count
    inside j h t = let one = counts-one b j t in let up = count-mono b (suc j) k h in omega (arith, e, one, up)

pub list_start : (b : ℕ → Bool) (over : List ℕ) → Listed 0 b over
unfolding count_of
list_start b over = record { at = λ j h t. absurd (omega arith); below = λ s h. absurd (omega arith) }

pub list_next : (b : ℕ → Bool) (k count r : ℕ) (old new : List ℕ) → count ≡ count_of k b → Noted (b k) k count old new r → Listed k b old → Listed (k + 1) b new
list_next b k count r old new e n l =
    record {
      at = λ j h t. ⊎_elim (λ q. here j (omega arith) t) (λ q. there j (omega arith) t) (eq-or-lt_of_le h);
      below = λ s h. under s (ltb s count) refl h;
    }
  where
    at-k : (t : b k ≡ true) → get_or new (count_of k b) 0 ≡ k
    at-k t = ap (λ (x : ℕ). get_or new x 0) (sym e) ∙ n.noted t

    here : (j : ℕ) → j ≡ k → b j ≡ true → get_or new (count_of j b) 0 ≡ j
    here j q t = rw q (at-k (ap b (sym q) ∙ t))

    less : (j : ℕ) → j < k → b j ≡ true → count_of j b < count
    less j h t = let one = counts-one b j t in let up = count-mono b (suc j) k h in omega (arith, one, up)

    there : (j : ℕ) → j < k → b j ≡ true → get_or new (count_of j b) 0 ≡ j
    there j h t = n.kept (count_of j b) (less j h t) ∙ l.at j h t

    next : (c : Bool) → b k ≡ c → count_of (k + 1) b ≡ count_of k b + cond c 1 0
    next true q = ap (λ (x : ℕ). count_of x b) (add-one k) ∙ counts-one b k q
    next false q = ap (λ (x : ℕ). count_of x b) (add-one k) ∙ counts-none b k q ∙ sym (add-zero (count_of k b))

    under : (s : ℕ) (c : Bool) → ltb s count ≡ c → s < count_of (k + 1) b → get_or new s 0 < k + 1
    under s true q h = let inside = ltb-true s count q in rw (n.kept s inside) (let x = l.below s (rw (← e) inside) in omega (arith, x))
    under s false q h = by_bool (b k) (λ t. over-k t) (λ t. absurd (let c = next false t in let a = ltb-false s count q in omega (arith, c, a)))
      where
        over-k : b k ≡ true → get_or new s 0 < k + 1
        over-k t =
            let c = next true t in
            let a = ltb-false s count q in
            let same : s ≡ count = omega (arith, c, a) in
            rw (ap (λ (x : ℕ). get_or new x 0) same ∙ n.noted t) (omega arith)
