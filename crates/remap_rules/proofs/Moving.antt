-- Laws of moved ends: a pair at the front, numbers below the node count, lists one behind the other.
use mathlib.Core.Path.{◌≡◌, refl, sym, ap, subst, ◌∙◌}
use mathlib.Core.Bool.{Bool, true, false, cond}
use mathlib.Core.List.{List, [], ◌∷◌, ◌++◌}
use Prim.Native.Nat.{ℕ, suc, ◌+◌, ◌<◌}
use native.Mathlib.Omega.{arith}
use native.Mathlib.Nat.{lt_irrefl}
use borrow.Author.Tests.{ltb-true, ltb-false, leb-false, eqb-true, eqb-false}
use lib.Dec.{leb, ltb, eqb}
use lib.ListN.{length, get_or, set, drop}
use lib.Seq.{drop-cons, drop-length, get_or-set_same, get_or-set_other}
use Rattle.lists.specs.Lists.{any_of}
use Rattle.lists.proofs.Search.{neither}
use Rattle.remap_rules.specs.RemapBook.{moved_end}

-- ---- the table, filled from the last pair to the first

-- a node more that stands for itself
pub node_stored : (ends : List ℕ) (node : ℕ) → node < length ends → ((e : ℕ) → e < node → get_or ends e 0 ≡ e) → (e : ℕ) → e < node + 1 → get_or (set ends node node) e 0 ≡ e
node_stored ends node long each e h = by (ltb e node) refl
  where
    by : (b : Bool) → ltb e node ≡ b → get_or (set ends node node) e 0 ≡ e
    by true q = let below = ltb-true e node q in get_or-set_other ends node e node 0 (λ same. lt_irrefl e (subst (λ (m : ℕ). e < m) (sym same) below)) ∙ each e below
    by false q =
        let same : e ≡ node = omega (arith, ltb-false e node q) in
        ap (λ (x : ℕ). get_or (set ends node node) x 0) same ∙ get_or-set_same ends node node 0 long ∙ sym same

-- the pairs from i on: pair i, then those behind it
pair_first : (olds news : List ℕ) (i e : ℕ) → i < length olds → i < length news
    → moved_end (drop i olds) (drop i news) e ≡ moved_end (drop (suc i) olds) (drop (suc i) news) (cond (eqb e (get_or olds i 0)) (get_or news i 0) e)
unfolding moved_end
pair_first olds news i e ho hn = rw (drop-cons olds i 0 ho, drop-cons news i 0 hn)

-- behind the last pair there is none
pub no_pairs : (olds news : List ℕ) (e : ℕ) → moved_end (drop (length olds) olds) (drop (length olds) news) e ≡ e
unfolding moved_end
no_pairs olds news e = rw (drop-length olds) refl

-- pair i stored in the table of the pairs behind it
module _ (n : ℕ) (olds news ends : List ℕ) (i : ℕ) (ho : i < length olds) (hn : i < length news) (old_below : get_or olds i 0 < length ends) (new-below : get_or news i 0 < n) where
  pub pair_stored : ((e : ℕ) → e < n → get_or ends e 0 ≡ moved_end (drop (suc i) olds) (drop (suc i) news) e)
      → (e : ℕ) → e < n → get_or (set ends (get_or olds i 0) (get_or ends (get_or news i 0) 0)) e 0 ≡ moved_end (drop i olds) (drop i news) e
  pair_stored each e h = by (eqb e (get_or olds i 0)) refl
    where
      sent : (b : Bool) → eqb e (get_or olds i 0) ≡ b → moved_end (drop (suc i) olds) (drop (suc i) news) (cond b (get_or news i 0) e) ≡ moved_end (drop i olds) (drop i news) e
      sent b q = sym (pair_first olds news i e ho hn ∙ ap (λ (t : Bool). moved_end (drop (suc i) olds) (drop (suc i) news) (cond t (get_or news i 0) e)) q)

      by : (b : Bool) → eqb e (get_or olds i 0) ≡ b → get_or (set ends (get_or olds i 0) (get_or ends (get_or news i 0) 0)) e 0 ≡ moved_end (drop i olds) (drop i news) e
      by true q =
          ap (λ (x : ℕ). get_or (set ends (get_or olds i 0) (get_or ends (get_or news i 0) 0)) x 0) (eqb-true e (get_or olds i 0) q)
          ∙ get_or-set_same ends (get_or olds i 0) _ 0 old_below ∙ each (get_or news i 0) new-below ∙ sent true q
      by false q = get_or-set_other ends (get_or olds i 0) e _ 0 (eqb-false e (get_or olds i 0) q) ∙ each e h ∙ sent false q

-- ---- listed numbers

pub moved-below : (n : ℕ) (olds news : List ℕ) (e : ℕ) → any_of (leb n) news ≡ false → e < n → moved_end olds news e < n
unfolding moved_end any_of
moved-below n [] news e good h = h
moved-below n (o ∷ olds) [] e good h = h
moved-below n (o ∷ olds) (x ∷ news) e good h =
    let p = neither (leb n x) (any_of (leb n) news) good in
    moved-below n olds news (cond (eqb e o) x e) p.1 (either (eqb e o) (leb-false n x p.0))
  where
    either : (b : Bool) → x < n → cond b x e < n
    either true below = below
    either false below = h

-- ---- one list of pairs behind another

pub moved-append : (xs us ys vs : List ℕ) (e : ℕ) → length xs ≡ length us → moved_end (xs ++ ys) (us ++ vs) e ≡ moved_end ys vs (moved_end xs us e)
unfolding moved_end
moved-append [] [] ys vs e same = refl
moved-append [] (u ∷ us) ys vs e same = absurd (omega arith)
moved-append (x ∷ xs) [] ys vs e same = absurd (omega arith)
moved-append (x ∷ xs) (u ∷ us) ys vs e same = moved-append xs us ys vs (cond (eqb e x) u e) (omega arith)
