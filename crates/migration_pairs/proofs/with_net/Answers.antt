-- `with_net`: a cell that loses nothing, the first or the least that does, and any other.
use mathlib.Core.Path.{◌≡◌, sym, ap, ◌∙◌}
use mathlib.Core.List.{List}
use Prim.Native.Nat.{ℕ}
use native.Mathlib.Omega.{arith}
use borrow.Author.Tests.{eqb-true, eqb-false, ltb-true, ltb-false}
use lib.ListN.{get_or}
use lib.IntN.{nat_abs}
use Rattle.integers.specs.Sums.{max0}
use Rattle.tariff.specs.declared.units.Transfer.{Transfer}
use Rattle.migration_transfers.proofs.Losing.{less-told}
use Rattle.migration_transfers.specs.Squares.{no_transfer}
use Rattle.migration_pairs.specs.Inner.{lost_at}
use Rattle.migration_pairs.proofs.Gaining.{gains_none, gains_new, gains_kept}
use Rattle.migration_pairs.proofs.with_net.Goals.{then-eq-2-via-then-eq-2, then-eq-2-via-else-eq-2+then-lt}
use Rattle.migration_pairs.proofs.with_net.Goals as goal

lost-cell : (row : List Transfer) (m : ℕ) (net : Transfer) (lost : ℕ) → get_or row m no_transfer ≡ net → lost ≡ nat_abs (max0 net.0) → lost_at row m ≡ lost
lost-cell row m net lost is told = ap (λ (t : Transfer). nat_abs (max0 t.0)) is ∙ sym told

pub returns-then-eq : goal.returns-then-eq
returns-then-eq c row m is G =
    let lost = lost-cell row m c.args.net c.lost-lost.result.0 is c.lost-lost.ensures in
    gains_none row m _ G (lost ∙ eqb-true c.lost-lost.result.0 0 (sym c.eq.ensures ∙ c.if-eq.true))

pub returns-then-eq-2 : goal.returns-then-eq-2
returns-then-eq-2 c row m is G =
    let lost = lost-cell row m c.args.net c.lost-lost.result.0 is c.lost-lost.ensures in
    let some = eqb-false c.lost-lost.result.0 0 (sym c.eq.ensures ∙ c.if-eq.false) in
    let low = c.lost-lowest in
    elim c.then-eq-2.branch [
      | then-eq-2-via-then-eq-2 w ↦
          let none = sym low.ensures ∙ eqb-true low.result.0 0 (sym c.eq-2.ensures ∙ w.if-eq-2.true) in
          gains_new row m _ G c.args.net is c.requires.0 (λ z. some (sym lost ∙ z)) (λ j h l. absurd (l (G.none none j h)))
      | then-eq-2-via-else-eq-2+then-lt w ↦
          let less = ltb-true c.lost-lost.result.0 low.result.0 (sym (w.lt.ensures ∙ less-told _ _) ∙ w.if-lt.true) in
          gains_new row m _ G c.args.net is c.requires.0 (λ z. some (sym lost ∙ z)) (λ j h l. omega (arith, less, lost, low.ensures, G.low j h l))
    ]

pub returns : goal.returns
returns c row m is G =
    let lost = lost-cell row m c.args.net c.lost-lost.result.0 is c.lost-lost.ensures in
    let some = eqb-false c.lost-lost.result.0 0 (sym c.eq.ensures ∙ c.if-eq.false) in
    let low = c.lost-lowest in
    let more = ltb-false c.lost-lost.result.0 low.result.0 (sym (c.lt.ensures ∙ less-told _ _) ∙ c.if-lt.false) in
    let had = eqb-false low.result.0 0 (sym c.eq-2.ensures ∙ c.if-eq-2.false) in
    gains_kept row m _ G (λ z. some (sym lost ∙ z)) (λ z. had (low.ensures ∙ z)) (omega (arith, more, lost, low.ensures))
