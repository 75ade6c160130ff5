-- `pair_count`: how many follow for the first j gainers.
use mathlib.Core.Path.{◌≡◌, sym, ap}
use Prim.Native.Nat.{suc, ◌+◌, ◌<◌}
use native.Mathlib.Numerals.{add-one}
use native.Mathlib.Omega.{arith}
use lib.ListN.{length}
use lib.Seq.{get_or-take}
use Rattle.std.proofs.lemmas.List.{length-take}
use Rattle.migration_rules.specs.ContractRules.{pairs_to}
use Rattle.migration_transfers.specs.Squares.{no_transfer, row_losses}
use Rattle.migration_pairs.proofs.Pairs.{share-by_net, net-ready, no_pairs, length_more, pair_length, pairs-few}
use Rattle.migration_pairs.proofs.pair_count.Goals as goal

pub loop-net-init : goal.loop-net-init
loop-net-init c = let b = c.args.base in sym (ap length (no_pairs (row_losses b.row.now) b.loads.now b.contract))

pub share_of-share-requires : goal.share_of-share-requires
share_of-share-requires c =
    let b = c.args.base in
    let n = length b.loads.now in
    let j = c.loop-net.net-index in
    let below : j < n = omega (arith, c.loop-net-test.true, length-take n b.row.now) in
    (c.requires, rw (get_or-take n b.row.now j no_transfer below) (net-ready b.row.now b.loads.now b.contract j b.ready c.requires below))

counted : (c : goal.After-pair_size-count) → let b = c.args.base in
    let l = c.loop-net in
    l.count + c.pair_size-count.result ≡ length (pairs_to (row_losses b.row.now) b.loads.now b.contract (l.net-index + 1))
counted c =
    let b = c.args.base in
    let n = length b.loads.now in
    let l = c.loop-net in
    let j = l.net-index in
    let below : j < n = omega (arith, c.loop-net-test.true, length-take n b.row.now) in
    let q = c.share_of-share.result.0 in
    let is = share-by_net b.row.now b.loads.now b.contract j q (rw (get_or-take n b.row.now j no_transfer below) at c.share_of-share.ensures.0) in
    rw (add-one j)
    (omega (arith, length_more (row_losses b.row.now) b.loads.now b.contract j q is, pair_length b.contract (suc j) q, c.pair_size-count.ensures, l.invariant))

pub overflow_add-count : goal.overflow_add-count
overflow_add-count c =
    let b = c.args.base in
    let n = length b.loads.now in
    let j = c.loop-net.net-index in
    record { fits = omega (arith, counted c, pairs-few (row_losses b.row.now) b.loads.now b.contract (j + 1), b.ready.few, c.loop-net-test.true, length-take n b.row.now) }

pub loop-net-preserved : goal.loop-net-preserved
loop-net-preserved c = counted c

pub returns : goal.returns
returns c =
    let b = c.args.base in
    let n = length b.loads.now in
    let l = c.loop-net in
    let last : l.net-index ≡ n = omega (arith, length-take n b.row.now, b.ready.few) in
    let is = rw last at l.invariant in
    (is, omega (arith, is, pairs-few (row_losses b.row.now) b.loads.now b.contract n, b.ready.few))
