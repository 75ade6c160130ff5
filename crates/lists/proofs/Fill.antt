-- A loop that fills the first cells of a list with the elements of a list F, at any type: a turn, and the end, when the rest is as it was.
use mathlib.Core.Path.{◌≡◌, sym, ap, ap₂, ◌∙◌}
use Prim.Native.Nat.{ℕ, ◌+◌, ◌-◌, ◌≤◌, ◌<◌}
use native.Mathlib.Numerals.{add-one}
use native.Mathlib.Omega.{arith}
use mathlib.Core.List.{List, ◌++◌}
use lib.ListN.{length, set, get_or, take, drop, take-append-drop}
use lib.Seq.{take-suc, take-suc-set, take_all, drop-drop, drop-set-lt}

module _ {A : Type 0} (F out : List A) (i : ℕ) (done : take i out ≡ take i F) where
  pub fill_turn : (v d : A) → i < length out → i < length F → v ≡ get_or F i d → take (i + 1) (set out i v) ≡ take (i + 1) F
  fill_turn v d h k e = rw (add-one, take-suc-set out i v h, take-suc F i d k, done, e)

-- a store at i leaves what stands behind it
pub rest-turn : {A : Type 0} (out out₀ : List A) (i : ℕ) (v : A) → drop i out ≡ drop i out₀ → drop (i + 1) (set out i v) ≡ drop (i + 1) out₀
rest-turn out out₀ i v rest = drop-set-lt (i + 1) out i v (omega arith) ∙ sym (drop-drop 1 i out) ∙ ap (drop 1) rest ∙ drop-drop 1 i out₀

-- the first cells are F, and the rest is as it was
pub fill_front : {A : Type 0} (F out out₀ : List A) (i : ℕ) → take i out ≡ take i F → drop i out ≡ drop i out₀ → i ≡ length F
    → out ≡ F ++ drop (length F) out₀
fill_front F out out₀ i done rest e =
    sym (take-append-drop i out) ∙ ap₂ ◌++◌ (done ∙ take_all i F (omega arith)) (rest ∙ ap (λ (n : ℕ). drop n out₀) e)

-- what is equal from i on is equal from j on
pub drop-later : {A : Type 0} (xs ys : List A) (i j : ℕ) → i ≤ j → drop i xs ≡ drop i ys → drop j xs ≡ drop j ys
drop-later xs ys i j h e =
    let k : j ≡ i + (j - i) = omega arith in
    rw (k, ← drop-drop (j - i) i xs, ← drop-drop (j - i) i ys) (ap (drop (j - i)) e)
