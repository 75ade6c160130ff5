-- `loads_exceeded`: no LSE passed loses more than its load.
use mathlib.Core.Path.{◌≡◌, sym, ◌∙◌}
use Rattle.std.proofs.Common.{Bool, List, [], ℕ, nat_lt, ◌<◌}
use Rattle.tariff.specs.declared.units.Transfer.{Transfer}
use Rattle.migration_rules.specs.Transfers.{losses_to}
use Rattle.migration_transfers.specs.Squares.{row_losses}
use Prim.Native.Nat.{suc}
use native.Mathlib.Omega.{arith}
use lib.ListN.{length, get_or}
use Rattle.lists.specs.Lists.{list_to}
use Rattle.lists.proofs.Search.{any_of_start, any_of_end, any_of_good, any_of_bad}
use Rattle.lists.proofs.Lists.{length-list_to}
use Rattle.migration_transfers.proofs.Losing.{loser_bad, loser_told, less-told}
use Rattle.migration_transfers.proofs.Squares.{row_sized, losses-by}
use Rattle.migration_transfers.proofs.loads_exceeded.Goals as goal

pub loop-i-init : goal.loop-i-init
loop-i-init c = any_of_start (loser_bad c.args.square c.args.loads.now)

pub bounds-square-i : goal.bounds-square-i
bounds-square-i c = omega (arith, c.requires.0)

pub lost_by-requires : goal.lost_by-requires
lost_by-requires c = let s = c in (s.requires.0, row_sized s.args.square s.requires.1 c.loop-i.i (omega (arith, s.requires.0)))

-- what the comparison says of the LSE at place i
told : (square : List (List Transfer)) (loads : List ℕ) (i lost : ℕ) (r : Bool) → i < length loads
    → lost ≡ losses_to (row_losses (get_or square i [])) (suc i) (length loads) → r ≡ nat_lt (get_or loads i 0) lost
    → loser_bad square loads (get_or (list_to (length loads) suc) i 0) ≡ r
told square loads i lost r lt is e = loser_told square loads i lost lt (is ∙ losses-by square i (length loads)) ∙ sym e

pub returns-then-lt : goal.returns-then-lt
returns-then-lt c =
    let a = c.args in
    let n = length a.loads.now in
    sym (any_of_bad (loser_bad a.square a.loads.now) (list_to n suc) c.loop-i.i 0 (omega (arith, length-list_to n suc)) (told a.square a.loads.now c.loop-i.i c.lost_by.result.0 _ (omega arith) (c.lost_by.ensures (suc c.loop-i.i)) (c.lt.ensures ∙ less-told _ _) ∙ c.if-lt.true))

pub loop-i-preserved : goal.loop-i-preserved
loop-i-preserved c =
    let a = c.args in
    let l = c.loop-i in
    let n = length a.loads.now in
    any_of_good (loser_bad a.square a.loads.now) (list_to n suc) l.i 0 (omega (arith, length-list_to n suc)) l.invariant (told a.square a.loads.now c.loop-i.i c.lost_by.result.0 _ (omega arith) (c.lost_by.ensures (suc c.loop-i.i)) (c.lt.ensures ∙ less-told _ _) ∙ c.if-lt.false)

pub returns : goal.returns
returns c =
    let a = c.args in
    let n = length a.loads.now in
    any_of_end (loser_bad a.square a.loads.now) (list_to n suc) c.loop-i.i (omega (arith, length-list_to n suc)) c.loop-i.invariant
