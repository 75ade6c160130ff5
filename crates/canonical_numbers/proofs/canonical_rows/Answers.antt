-- `canonical-rows`: filled, sorted, walked.
use mathlib.Core.Path.{◌≡◌, ◌∙◌}
use mathlib.Core.List.{flat_map}
use Prim.Native.Nat.{◌≤◌, ◌<◌}
use lib.ListN.{length}
use native.Mathlib.Omega.{arith}
use Rattle.std.proofs.lemmas.List.{length-take-le, take-append-le}
use Rattle.lists.specs.Lists.{list_to}
use Rattle.canonical_rules.specs.Canonical.{merged_rows, canonical}
use Rattle.canonical_numbers.proofs.CanonicalRows.{rising_sized, walked_canonical}
use Rattle.canonical_numbers.proofs.canonical_rows.Goals as goal

pub returns-then-count-eq0 : goal.returns-then-count-eq0
unfolding canonical merged_rows flat_map list_to
returns-then-count-eq0 c =
    let none : c.args.contracts.count ≡ 0 = omega (arith, c.len-count.ensures.0, c.if-count-eq0.true) in
    (rw none, omega arith)

pub walk-requires : goal.walk-requires
walk-requires c =
    let cs = c.args.contracts in
    let size = length-take-le c.len-count.result c.args.cells.now (omega (arith, c.len-count.ensures.0, c.requires.1)) in
    let some : 0 < length c.sort.new.cells = omega (arith, size, c.len-count.ensures.0, c.fill_numbers.auto.cells, c.sort.auto.cells) in
    (some, rising_sized cs.form cs.file.now cs.count c.requires.0 _ _ (rw (size, c.len-count.ensures.0) at c.fill_numbers.ensures) c.sort.ensures)

pub returns : goal.returns
returns c =
    let cs = c.args.contracts in
    let w = c.walk.ensures in
    let size = length-take-le c.len-count.result c.args.cells.now (omega (arith, c.len-count.ensures.0, c.requires.1)) in
    let few : c.walk.result ≤ cs.count = omega (arith, w.1, size, c.len-count.ensures.0, c.fill_numbers.auto.cells, c.sort.auto.cells) in (
      take-append-le c.walk.result c.walk.new.cells _ (omega (arith, w.1, c.walk.auto.cells))
          ∙ walked_canonical cs.form cs.file.now cs.count c.requires.0 _ _ (rw (size, c.len-count.ensures.0) at c.fill_numbers.ensures) c.sort.ensures _ w.0,
      few,
    )
