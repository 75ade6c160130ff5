-- A list of checks beside the former one by numbers: the same but for one number that is no longer given.
use mathlib.Core.Path.{◌≡◌, refl, ap}
use mathlib.Core.Logic.{◌≢◌}
use mathlib.Core.Bool.{Bool, true, false, cond}
use mathlib.Core.List.{List, [], ◌∷◌, ◌++◌, map}
use Prim.Native.Nat.{ℕ}
use borrow.Author.Tests.{eqb-true}
use lib.Dec.{eqb}
use Rattle.std.specs.Prelude.{Err}
use Rattle.tariff.specs.Refusals.{Check, first, number_of, number_after}
use Rattle.tariff.specs.Former.{FormerCheck, former_first, by_number, without}

pub without-append : (r : ℕ) (xs ys : List FormerCheck) → without r (xs ++ ys) ≡ without r xs ++ without r ys
unfolding without
without-append r [] ys = refl
without-append r (c ∷ cs) ys = by (eqb c.number r) (without-append r cs ys)
  where
    by : (b : Bool) → without r (cs ++ ys) ≡ without r cs ++ without r ys
        → cond b (without r (cs ++ ys)) (c ∷ without r (cs ++ ys)) ≡ cond b (without r cs) (c ∷ without r cs) ++ without r ys
    by true e = e
    by false e = ap (λ (l : List FormerCheck). c ∷ l) e

-- the first of a list, by its number
pub first-number : (cs : List Check) → number_after (first cs) ≡ former_first (map by_number cs)
unfolding first former_first
first-number [] = refl
first-number (c ∷ cs) = by c.fails (first-number cs)
  where
    by : (b : Bool) → number_after (first cs) ≡ former_first (map by_number cs)
        → number_after (cond b (Err c.refusal) (first cs)) ≡ cond b (number_of c.refusal) (former_first (map by_number cs))
    by true e = refl
    by false e = e

-- a number that is not the first is not missed
pub not_missed : (r : ℕ) (cs : List FormerCheck) → former_first cs ≢ r → former_first (without r cs) ≡ former_first cs
unfolding former_first without
not_missed r [] h = refl
not_missed r (c ∷ cs) h = by (not_missed r cs) (eqb c.number r) refl
  where
    dropped : (f : Bool) → c.number ≡ r → cond f c.number (former_first cs) ≢ r → (former_first cs ≢ r → former_first (without r cs) ≡ former_first cs)
        → former_first (without r cs) ≡ cond f c.number (former_first cs)
    dropped true e first rest = absurd (first e)
    dropped false e first rest = rest first

    kept : (f : Bool) → cond f c.number (former_first cs) ≢ r → (former_first cs ≢ r → former_first (without r cs) ≡ former_first cs)
        → cond f c.number (former_first (without r cs)) ≡ cond f c.number (former_first cs)
    kept true first rest = refl
    kept false first rest = rest first

    by : (former_first cs ≢ r → former_first (without r cs) ≡ former_first cs) → (b : Bool) → eqb c.number r ≡ b
        → former_first (cond b (without r cs) (c ∷ without r cs)) ≡ former_first (c ∷ cs)
    by rest true e = dropped c.fails (eqb-true c.number r e) h rest
    by rest false e = kept c.fails h rest
