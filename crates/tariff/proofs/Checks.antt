-- Laws of the first check that holds, of the node count, and of a search for a bad element.
use mathlib.Core.Path.{◌≡◌, refl, ap, ◌∙◌}
use mathlib.Core.Bool.{Bool, true, false, cond, not}
use mathlib.Core.List.{List, [], ◌∷◌, ◌++◌}
use Prim.Native.Nat.{ℕ, ◌≤◌, ◌<◌}
use native.Mathlib.Nat.{pos_of_ne-zero}
use borrow.Author.Tests.{ltb-false, eqb-true, eqb-false, eq-eqb, ne_eqb, not-false}
use lib.Dec.{ltb, eqb}
use Rattle.lists.proofs.Search.{neither}
use Rattle.tariff.specs.declared.refusals.Refusal.{Refusal}
use Rattle.tariff.specs.Refusals.{Checked, passed}
use Rattle.std.specs.Prelude.{Ok, Err}
use Rattle.tariff.specs.Units.{max_nodes}
use Rattle.tariff.specs.Refusals.{Check, first, decided}
use Rattle.tariff.specs.Checks.{nodes_outside_of, node_count}

-- ---- the first check

pub first_passes : (c : Check) (cs : List Check) → c.fails ≡ false → first (c ∷ cs) ≡ first cs
unfolding first
first_passes c cs e = rw e

pub first-refuses : (c : Check) (cs : List Check) → c.fails ≡ true → first (c ∷ cs) ≡ Err c.refusal
unfolding first
first-refuses c cs e = rw e

-- lists that find the same, behind a check
pub first_under : (c : Check) (xs ys : List Check) → first xs ≡ first ys → first (c ∷ xs) ≡ first (c ∷ ys)
unfolding first
first_under c xs ys e = ap (cond c.fails (Err c.refusal)) e

pub first-append : (xs ys : List Check) → first (xs ++ ys) ≡ decided (first xs) Err (first ys)
unfolding first
first-append [] ys = refl
first-append (c ∷ cs) ys = by c.fails (first-append cs ys)
  where
    by : (b : Bool) → first (cs ++ ys) ≡ decided (first cs) Err (first ys)
        → cond b (Err c.refusal) (first (cs ++ ys)) ≡ decided (cond b (Err c.refusal) (first cs)) Err (first ys)
    by true e = refl
    by false e = e

-- checks behind others: those that refuse come first, those that pass give way
module _ (xs ys : List Check) where
  pub append_refuses : (r : Refusal) → first xs ≡ Err r → first (xs ++ ys) ≡ Err r
  append_refuses r e = first-append xs ys ∙ rw e

  pub append_passes : first xs ≡ passed → first (xs ++ ys) ≡ first ys
  append_passes e = first-append xs ys ∙ rw e

-- checks behind others that pass where those do
pub first-room : (xs ys : List Check) → (first xs ≡ passed → first ys ≡ passed) → first (xs ++ ys) ≡ first xs
first-room xs ys h = first-append xs ys ∙ by (first xs) refl
  where
    by : (x : Checked) → first xs ≡ x → decided x Err (first ys) ≡ x
    by (Ok _) e = h e
    by (Err r) e = refl

-- where none refuses, no condition holds
pub passed_cons : (c : Check) (cs : List Check) → first (c ∷ cs) ≡ passed → (c.fails ≡ false) × (first cs ≡ passed)
unfolding first
passed_cons c cs e = by c.fails e
  where
    by : (b : Bool) → cond b (Err c.refusal) (first cs) ≡ passed → (b ≡ false) × (first cs ≡ passed)
    by true e = (cc, cc)
    by false e = (refl, e)

pub passed_append : (xs ys : List Check) → first (xs ++ ys) ≡ passed → (first xs ≡ passed) × (first ys ≡ passed)
unfolding first
passed_append [] ys e = (refl, e)
passed_append (c ∷ cs) ys e = by c.fails refl (passed_append cs ys) e
  where
    by : (b : Bool) → c.fails ≡ b → (first (cs ++ ys) ≡ passed → (first cs ≡ passed) × (first ys ≡ passed))
        → cond b (Err c.refusal) (first (cs ++ ys)) ≡ passed → (cond b (Err c.refusal) (first cs) ≡ passed) × (first ys ≡ passed)
    by true q rest e = (cc, cc)
    by false q rest e = rest e

-- ---- the node count

-- one that the check accepts
pub nodes-within : (most n : ℕ) → (nodes_outside_of most n).fails ≡ false → n ≤ most
nodes-within most n e = ltb-false most n (neither (eqb n 0) (ltb most n) e).1

pub nodes-few_of : (n : ℕ) → (node_count n).fails ≡ false → n ≤ max_nodes
nodes-few_of = nodes-within max_nodes

pub nodes-some_of : (n : ℕ) → (node_count n).fails ≡ false → 0 < n
nodes-some_of n e = pos_of_ne-zero (eqb-false n 0 (neither (eqb n 0) (ltb max_nodes n) e).0)

-- ---- what a test in code says of a condition

pub differs : (a b : ℕ) → (a ≡ b → ⊥) → not (eqb a b) ≡ true
differs a b h = ap not (ne_eqb a b h)

pub same : (a b : ℕ) → a ≡ b → not (eqb a b) ≡ false
same a b e = ap not (eq-eqb a b e)

pub same_of : (a b : ℕ) → not (eqb a b) ≡ false → a ≡ b
same_of a b e = eqb-true a b (not-false (eqb a b) e)

pub last-passes : (c : Check) → c.fails ≡ false → first (c ∷ []) ≡ passed
unfolding first
last-passes c e = rw e
