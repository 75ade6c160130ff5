-- The key of a contract's cut, and keys collected one contract after the other.
use mathlib.Core.Path.{◌≡◌, refl, sym, ap, ◌∙◌}
use mathlib.Core.Bool.{Bool, true, false, cond}
use mathlib.Core.List.{List, [], ◌∷◌, ◌++◌, append-nil}
use Prim.Native.Nat.{ℕ, ◌+◌, ◌*◌, ◌<◌}
use native.Mathlib.Numerals.{add-one}
use borrow.Author.Tests.{lt-ltb}
use lib.Dec.{ltb}
use lib.ListN.{length, take, set}
use lib.Seq.{take-suc-set}
use lib.IntN.{ℤ}
use Rattle.std.specs.Prelude.{Option, Some, None}
use Rattle.tariff.specs.declared.contracts.Contract.{Contract}
use Rattle.tariff.specs.declared.contracts.Period.{Period}
use Rattle.tariff.specs.ContractRules.{same_period}
use Rattle.cut_rules.specs.Inner.{cut_key, keys_to}
use Rattle.cut_needs.specs.Inner.{cut_in}
use Rattle.cut_keys.specs.Inner.{period_cut}

-- ---- the cut of a contract of either period

module _ (k : ℕ) (table excesses : List ℤ) (period : Period) (c : Contract) where
  pub own_cut : (cut : ℕ) → same_period c.period period ≡ true → cut ≡ cut_in k table excesses c → cut ≡ period_cut k table excesses period c
  unfolding period_cut
  own_cut cut s e = rw s e

  pub other_cut : same_period c.period period ≡ false → 0 ≡ period_cut k table excesses period c
  unfolding period_cut
  other_cut s = rw s

-- ---- the key of a cut

module _ (number cut P : ℕ) (is : cut ≡ P) where
  pub key_made : 0 < cut → Some (cut * 1024 + number) ≡ cond (ltb 0 P) (Some (cut_key P number)) None
  key_made s = rw (← is, lt-ltb 0 cut s)

  pub no_key : cut ≡ 0 → ◌≡◌ {A = Option ℕ} None (cond (ltb 0 P) (Some (cut_key P number)) None)
  no_key z = rw (← is, z)

-- ---- a key, or none, behind those that are there

unfoldable held : Option ℕ → List ℕ
held (Some key) = key ∷ []
held None = []

as_held : (b : Bool) (key : ℕ) → held (cond b (Some key) None) ≡ cond b (key ∷ []) []
unfolding held
as_held true key = refl
as_held false key = refl

module _ (cut_of : ℕ → ℕ) (i count : ℕ) (keys : List ℕ) (done : take count keys ≡ keys_to cut_of i) (o : Option ℕ) (is : o ≡ cond (ltb 0 (cut_of i)) (Some (cut_key (cut_of i) i)) None) where
  more : keys_to cut_of (i + 1) ≡ keys_to cut_of i ++ held o
  unfolding keys_to
  more = rw (add-one, is) (ap (λ (xs : List ℕ). keys_to cut_of i ++ xs) (sym (as_held (ltb 0 (cut_of i)) (cut_key (cut_of i) i))))

  pub key_stored : (key : ℕ) → o ≡ Some key → count < length keys → take (count + 1) (set keys count key) ≡ keys_to cut_of (i + 1)
  unfolding held
  key_stored key e h = rw (add-one, take-suc-set keys count key h, done) (sym (more ∙ ap (λ (p : Option ℕ). keys_to cut_of i ++ held p) e))

  pub none_stored : o ≡ None → take count keys ≡ keys_to cut_of (i + 1)
  unfolding held
  none_stored e = done ∙ sym (more ∙ ap (λ (p : Option ℕ). keys_to cut_of i ++ held p) e ∙ append-nil (keys_to cut_of i))
