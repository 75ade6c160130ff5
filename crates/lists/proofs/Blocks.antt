-- A block of cells stored behind those that are stored already, at any type.
use mathlib.Core.Path.{◌≡◌, refl, ap, ◌∙◌}
use mathlib.Core.List.{List, [], ◌∷◌, ◌++◌}
use Prim.Native.Nat.{ℕ, suc, ◌+◌, ◌≤◌}
use native.Mathlib.Omega.{arith}
use lib.ListN.{length, set, take, drop, length-append}
use lib.Seq.{sets-eq, take_at, drop_at}
use Rattle.lists.specs.Lent.{overwrite}
use Rattle.lists.proofs.Fill.{drop-later}

module _ {A : Type 0} where
  -- six cells set one after the other
  pub six_sets : (l : List A) (at : ℕ) (a b c d e f : A) → at + 6 ≤ length l
      → set (set (set (set (set (set l at a) (at + 1) b) (at + 2) c) (at + 3) d) (at + 4) e) (at + 5) f ≡ take at l ++ (a ∷ b ∷ c ∷ d ∷ e ∷ f ∷ []) ++ drop (at + 6) l
  six_sets l at a b c d e f h =
      let e1 : at + 1 ≡ suc at = omega arith in
      let e2 : at + 2 ≡ suc (suc at) = omega arith in
      let e3 : at + 3 ≡ suc (suc (suc at)) = omega arith in
      let e4 : at + 4 ≡ suc (suc (suc (suc at))) = omega arith in
      let e5 : at + 5 ≡ suc (suc (suc (suc (suc at)))) = omega arith in
      rw (e1, e2, e3, e4, e5) (sets-eq (a ∷ b ∷ c ∷ d ∷ e ∷ f ∷ []) l at h)

  -- a block of cells behind the values that stand at the front
  pub block-stored : (values block entry out next : List A) (at end : ℕ) → length values ≡ at → at + length block ≡ end → out ≡ overwrite values entry
      → next ≡ take at out ++ block ++ drop end out → next ≡ overwrite (values ++ block) entry
  block-stored values block entry out next at end long ends is stored =
      stored ∙ rw (is, take_at values (drop (length values) entry) at long) (ap (λ (l : List A). values ++ block ++ l) (behind ∙ ap (λ (n : ℕ). drop n entry) all))
    where
      behind : drop end (overwrite values entry) ≡ drop end entry
      behind = drop-later (overwrite values entry) entry (length values) end (omega arith) (drop_at values (drop (length values) entry) (length values) refl)

      all : end ≡ length (values ++ block)
      all = omega (arith, length-append values block)
