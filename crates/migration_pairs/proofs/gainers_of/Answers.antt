-- `gainers_of`: those of the first j cells.
use mathlib.Core.Path.{◌≡◌, sym}
use Prim.Native.Nat.{◌<◌}
use native.Mathlib.Omega.{arith}
use lib.Seq.{get_or-take}
use Rattle.std.proofs.lemmas.List.{length-take}
use Rattle.migration_transfers.specs.Squares.{no_transfer}
use Rattle.migration_pairs.proofs.Gaining.{no_gainers}
use Rattle.migration_pairs.proofs.gainers_of.Goals as goal

pub loop-net-init : goal.loop-net-init
loop-net-init c = no_gainers _

pub with_net-gainers-requires : goal.with_net-gainers-requires
with_net-gainers-requires c =
    let a = c.args in
    let l = c.loop-net in
    let j = l.net-index in
    let below : j < a.entities = omega (arith, c.loop-net-test.true, length-take a.entities a.row) in
    let cell = get_or-take a.entities a.row j no_transfer below in
    (rw cell (c.requires.0.sized j (omega (arith, c.requires.1))), l.invariant.size, omega (arith, l.invariant.few, c.requires.1))

pub loop-net-preserved : goal.loop-net-preserved
loop-net-preserved c =
    let a = c.args in
    let l = c.loop-net in
    let j = l.net-index in
    let below : j < a.entities = omega (arith, c.loop-net-test.true, length-take a.entities a.row) in
    c.with_net-gainers.ensures a.row j (sym (get_or-take a.entities a.row j no_transfer below)) l.invariant

pub returns : goal.returns
returns c =
    let a = c.args in
    let l = c.loop-net in
    let last : l.net-index ≡ a.entities = omega (arith, length-take a.entities a.row, c.requires.1) in
    rw last at l.invariant
