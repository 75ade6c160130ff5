-- What the overload set says of the test.
use mathlib.Core.Path.{◌≡◌, refl}
use mathlib.Core.Logic.{◌↔◌}
use mathlib.Core.Bool.{Bool, true, false}
use mathlib.Core.List.{List}
use Prim.Native.Nat.{◌<◌}
use native.Mathlib.Nat.{pos_of_ne-zero}
use native.Mathlib.Omega.{arith}
use lib.IntN.{ℤ, pos, ◌-ℤ◌}
use lib.Signed.{◌≤ℤ◌, ◌<ℤ◌, lt_z, lt_z_yes, lt_z_no, clash_ℤ}
use Rattle.integers.proofs.Linear.{⊖of, ⊖s}
use Rattle.tariff.specs.declared.contracts.Contract.{Contract}
use Rattle.tariff.specs.declared.processes.Process.{Process}
use Rattle.tariff.specs.Units.{Grid}
use Rattle.lists.proofs.Sets.{set-lowest, set-empty}
use Rattle.lists.specs.Sets.{Lowest}
use Rattle.tariff.specs.Feasibility.{total_flow, released, Passes, excess, overloaded, overload_set, lowest_overload}

-- ---- the test

module _ (g : Grid) (process : Process) (cs : List Contract) where
  not_over : (a b : ℤ) → (lt_z a b ≡ false) ↔ (b ≤ℤ a)
  not_over a b = (λ e. lt_z_no (rw e tt), λ h. by (lt_z a b) refl h)
    where
      by : (x : Bool) → lt_z a b ≡ x → b ≤ℤ a → x ≡ false
      by true e h = clash_ℤ {a = a} {b = b} (lt_z_yes (rw e tt)) h
      by false e h = refl

  -- the test passes exactly where the set is empty
  pub pass_is_empty_set : Passes g process cs ↔ (overload_set g process cs ≡ 0)
  unfolding overload_set overloaded
  pass_is_empty_set = (
    λ p. (set-empty g.factors.constraints _).1 (λ k h. (not_over (pos (released g.limits process k)) (total_flow g.factors cs k)).1 (p.within k h)),
    λ e. record { within = λ k h. (not_over (pos (released g.limits process k)) (total_flow g.factors cs k)).0 ((set-empty g.factors.constraints _).0 e k h) },
  )

  over-excess : (a b : ℤ) → lt_z a b ≡ true → pos 0 <ℤ (b -ℤ a)
  over-excess a b e = less a b (lt_z_yes (rw e tt))
    where
      less : (a b : ℤ) → a <ℤ b → pos 0 <ℤ (b -ℤ a)
      less a b = rw (⊖of a, ⊖of b) (simp ⊖s (omega arith))

  -- where it does not pass the set has a member; the lowest is one of the grid's, and its excess is above 0
  module _ (fails : Passes g process cs → ⊥) where
    pub fails-some : 0 < overload_set g process cs
    fails-some = pos_of_ne-zero {n = overload_set g process cs} (λ e. fails (pass_is_empty_set.1 e))

    pub fails-lowest : Lowest g.factors.constraints (overloaded g process cs) (lowest_overload g process cs)
    unfolding overload_set lowest_overload
    fails-lowest = set-lowest g.factors.constraints (overloaded g process cs) fails-some

    pub fails-excess : pos 0 <ℤ excess g process cs (lowest_overload g process cs)
    unfolding excess overloaded
    fails-excess = over-excess (pos (released g.limits process (lowest_overload g process cs))) (total_flow g.factors cs (lowest_overload g process cs)) fails-lowest.holds
