-- `share_of`: what is lost is within the loser's load, so that a load by which it is divided is not 0.
use mathlib.Core.Path.{◌≡◌, sym, ◌∙◌}
use Rattle.std.proofs.Common.{ℕ, Bool, false, nat_eq}
use native.Mathlib.Omega.{arith}
use borrow.Author.Tests.{eq-eqb, ne_eqb, eqb-true, eqb-false}
use Rattle.migration_rules.specs.ContractRules.{gainer_share}
use Rattle.migration_shares.proofs.share_of.Goals as goal

pub returns-then-eq : goal.returns-then-eq
unfolding gainer_share
returns-then-eq c =
    let lost = c.lost-lost in
    (rw (eq-eqb _ 0 (sym lost.ensures ∙ eqb-true lost.result.0 0 (sym c.eq.ensures ∙ c.if-eq.true))), omega arith)

-- a loss that is not nought
lost-some : (lost : ℕ) (zero : Bool) → zero ≡ nat_eq lost 0 → zero ≡ false → lost ≡ 0 → ⊥
lost-some lost zero told never = eqb-false lost 0 (sym told ∙ never)

pub moved-requires : goal.moved-requires
moved-requires c =
    let ready = c.requires.1 in
    let some = lost-some c.lost-lost.result.0 _ c.eq.ensures c.if-eq.false in
    (c.requires.0.quantity-most, rw c.lost-lost.ensures ready.losses, omega (arith, ready.losses, c.lost-lost.ensures, some), ready.most)

pub returns : goal.returns
unfolding gainer_share
returns c =
    let lost = c.lost-lost in
    let moved = c.moved.ensures in
    let some = lost-some lost.result.0 _ c.eq.ensures c.if-eq.false in
    (rw (ne_eqb _ 0 (λ z. some (lost.ensures ∙ z)), ← lost.ensures) moved.0, moved.1)
