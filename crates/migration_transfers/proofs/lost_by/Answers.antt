-- `lost_by`: what is lost to the LSEs passed.
use mathlib.Core.Path.{◌≡◌, sym, ap, ◌∙◌}
use Rattle.std.proofs.Common.{List, ℕ, ◌<◌, length, get_or, take}
use Rattle.tariff.specs.Units.{max_entities}
use Rattle.tariff.specs.declared.units.Transfer.{Transfer}
use Prim.Native.Nat.{suc, ◌-◌, ◌≤◌}
use native.Mathlib.Numerals.{add-one}
use native.Mathlib.Omega.{arith}
use lib.Seq.{get_or-take}
use Rattle.std.proofs.lemmas.List.{length-take}
use lib.IntN.{ℤ, nat_abs}
use Rattle.integers.specs.Sums.{max0}
use Rattle.integers.proofs.Sizes.{nat_abs_max0}
use Rattle.migration_rules.specs.Transfers.{losses_to}
use Rattle.migration_rules.proofs.Nets.{losses-none, losses-more}
use Rattle.migration_transfers.specs.Squares.{no_transfer, row_losses}
use Rattle.migration_transfers.specs.Inner.{max_net, SizedRow}
use Rattle.migration_transfers.proofs.lost_by.Goals as goal

pub loop-net-init : goal.loop-net-init
loop-net-init c = ((λ i. sym (losses-none (row_losses c.args.row) i)), omega arith)

-- the net in cell j of the LSEs' cells, and that it is small
abbrev cell : List Transfer → ℕ → ℕ → ℤ
cell row n j = (get_or (take n row) j no_transfer).0

cell_is : (row : List Transfer) (n j : ℕ) → j < length (take n row) → cell row n j ≡ (get_or row j no_transfer).0
cell_is row n j h = ap (λ (t : Transfer). t.0) (get_or-take n row j no_transfer (omega (arith, length-take n row)))

small : (row : List Transfer) (n j : ℕ) → n ≤ max_entities → SizedRow row → j < length (take n row) → nat_abs (cell row n j) ≤ max_net
small row n j few fine h = rw (cell_is row n j h) (fine.sized j (omega (arith, length-take n row)))

pub add-lost-requires : goal.add-lost-requires
add-lost-requires c =
    let a = c.args in
    let j = c.loop-net.net-index in
    omega (arith, c.requires.0, c.loop-net.invariant.1, c.lost.ensures, length-take a.entities a.row, nat_abs_max0 (cell a.row a.entities j), small a.row a.entities j c.requires.0 c.requires.1 c.loop-net-test.true)

pub loop-net-preserved : goal.loop-net-preserved
loop-net-preserved c =
    let a = c.args in
    let l = c.loop-net in
    let j = l.net-index in
    let lost = c.lost.ensures ∙ ap (λ (z : ℤ). nat_abs (max0 z)) (cell_is a.row a.entities j c.loop-net-test.true) in
    let place : suc j - 1 ≡ j = omega arith in (
      (λ k. rw (add-one j, losses-more (row_losses a.row) k j, ← l.invariant.0 k, place, ← lost) c.add-lost.ensures),
      omega (arith, l.invariant.1, c.lost.ensures, nat_abs_max0 (cell a.row a.entities j), small a.row a.entities j c.requires.0 c.requires.1 c.loop-net-test.true, c.add-lost.ensures),
    )

pub returns : goal.returns
returns c =
    let l = c.loop-net in
    let a = c.args in
    let last : l.net-index ≡ a.entities = omega (arith, length-take a.entities a.row, c.requires.0) in
    (λ i. l.invariant.0 i ∙ ap (losses_to (row_losses a.row) i) last)
