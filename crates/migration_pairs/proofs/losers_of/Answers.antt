-- `losers_of`: those passed are stored.
use mathlib.Core.Path.{refl}
use mathlib.Core.List.{[]}
use native.Mathlib.Omega.{arith}
use lib.ListN.{get_or, length-set}
use Rattle.migration_transfers.proofs.Squares.{row_sized}
use Rattle.migration_pairs.specs.Inner.{GainersOf, no_gainers_of}
use Rattle.migration_pairs.proofs.Gaining.{loser_stored}
use Rattle.migration_pairs.proofs.losers_of.Goals as goal

pub loop-i-init : goal.loop-i-init
loop-i-init c = (refl, λ k h. absurd (omega arith))

pub gainers_of-requires : goal.gainers_of-requires
gainers_of-requires c =
    let s = c in
    (row_sized s.args.square s.requires.0 c.loop-i.i (omega arith), s.requires.1)

pub loop-i-preserved : goal.loop-i-preserved
loop-i-preserved c =
    let a = c.args in
    let l = c.loop-i in (
      simp length-set l.invariant.0,
      loser_stored (λ k g. GainersOf (get_or a.square k []) a.entities g) l.losers l.i c.gainers_of.result no_gainers_of (omega (arith, l.invariant.0))
          c.gainers_of.ensures l.invariant.1,
    )

pub returns : goal.returns
returns c = let l = c.loop-i in record { each = λ i h. l.invariant.1 i (omega arith) }
