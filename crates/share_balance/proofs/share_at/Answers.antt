-- `share_at`: the whole cents, one more from the least key on, and the sign.
use mathlib.Core.Path.{◌≡◌, ap, ◌∙◌}
use Prim.Native.Nat.{ℕ, ◌≤◌}
use native.Mathlib.Omega.{arith}
use lib.IntN.{ℤ, nat_abs}
use mir.Syntax.{w64}
use mir.Val.{to_z, of_z}
use mir.ValLaws.{to_z-of_z}
use Rattle.integers.proofs.Machine.{back}
use Rattle.share_rules.specs.ShareBalance.{signed_like_of}
use Rattle.share_rules.specs.Inner.{max_demand_total}
use Rattle.share_rules.proofs.Sharing.{cell_small, share-more, share-kept}
use Rattle.share_balance.proofs.share_at.Goals as goal

-- a result r with the balance's sign, once it is known how many cents
told : (z r : ℤ) (m : ℕ) (share : ℤ) → to_z w64 (of_z w64 z) ≡ z → r ≡ signed_like_of (to_z w64 (of_z w64 z)) m → signed_like_of z m ≡ share → nat_abs r ≤ max_demand_total
    → (to_z w64 (of_z w64 r) ≡ share) × (nat_abs (to_z w64 (of_z w64 r)) ≤ max_demand_total)
told z r m share same e is h = rw (back r (omega (arith, h))) (e ∙ ap (λ (x : ℤ). signed_like_of x m) same ∙ is, h)

pub overflow_add-wholes : goal.overflow_add-wholes
overflow_add-wholes c =
    let a = c.args in
    omega (arith, cell_small a.balance a.least a.demands.now a.wholes.now a.keys.now c.requires.0 a.i c.requires.1)

pub signed_like-requires : goal.signed_like-requires
signed_like-requires c =
    let a = c.args in
    omega (arith, cell_small a.balance a.least a.demands.now a.wholes.now a.keys.now c.requires.0 a.i c.requires.1)

pub signed_like-requires-else-least-keys : goal.signed_like-requires-else-least-keys
signed_like-requires-else-least-keys c =
    let a = c.args in
    omega (arith, cell_small a.balance a.least a.demands.now a.wholes.now a.keys.now c.requires.0 a.i c.requires.1)

pub returns-then-least-keys : goal.returns-then-least-keys
returns-then-least-keys c =
    let s = c in
    let a = s.args in
    let is = share-more a.balance a.least a.demands.now a.wholes.now a.keys.now s.requires.0 a.i s.requires.1 c.if-least-keys.true in
    told a.balance c.signed_like.result _ _ (to_z-of_z w64 a.balance s.ranges.balance) c.signed_like.ensures.0 is c.signed_like.ensures.1

pub returns-else-least-keys : goal.returns-else-least-keys
returns-else-least-keys c =
    let s = c in
    let a = s.args in
    let is = share-kept a.balance a.least a.demands.now a.wholes.now a.keys.now s.requires.0 a.i s.requires.1 c.if-least-keys.false in
    told a.balance c.signed_like-else-least-keys.result _ _ (to_z-of_z w64 a.balance s.ranges.balance) c.signed_like-else-least-keys.ensures.0 is c.signed_like-else-least-keys.ensures.1
