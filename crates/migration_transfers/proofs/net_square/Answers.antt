-- `net_square`: after the turn of row i the square is that of the first i + 1 rows.
use mathlib.Core.Path.{◌≡◌, ap, ap₂, ◌∙◌}
use Rattle.std.proofs.Common.{List, ℕ}
use Prim.Native.Nat.{◌*◌, ◌-◌, ◌≤◌, ◌<◌}
use native.Mathlib.Omega.{arith}
use native.Mathlib.Nat.{le_refl}
use lib.ListN.{length, get_or}
use lib.IntN.{ℤ, pos, neg_ℤ, nat_abs, ◌+ℤ◌}
use Rattle.integers.proofs.Sizes.{nat_abs_neg}
use Rattle.migration_rules.specs.Transfers.{MigrationRow}
use Rattle.migration_transfers.specs.Squares.{cell_in_of}
use Rattle.migration_transfers.specs.Inner.{max_net, RowsIn, stored, transferred}
use Rattle.migration_transfers.proofs.Netting.{load_sized, cell_sized, nets-more, shape-more, nets-end, no_rows, all-rows}
use Rattle.migration_transfers.proofs.net_square.Goals as goal

pub loop-i-init : goal.loop-i-init
loop-i-init c =
    let a = c.args.lists in
    let none = c.no_transfers-square.ensures in
    (rw (no_rows a.customers.now a.rates.now a.olds.now a.news.now) none.nets, none.shape)

-- the two cells and the load are small
load-small : (cs rs os ns : List ℕ) → RowsIn cs rs os ns → (i : ℕ) → i < length cs → (load : ℤ) → load ≡ pos (get_or cs i 0 * get_or rs i 0) → nat_abs load ≤ max_net
load-small cs rs os ns ok i h load e = rw e (load_sized cs rs os ns ok i h)

-- so is the load the other way
back-small : (load back : ℤ) → back ≡ neg_ℤ load → nat_abs load ≤ max_net → nat_abs back ≤ max_net
back-small load back e small = rw (e, nat_abs_neg load) small

-- the row that was read is row i of the lists
load_is : (x y : MigrationRow) (load : ℤ) → load ≡ pos (x.customers * x.rate) → x ≡ y → load ≡ pos (y.customers * y.rate)
load_is x y load told e = rw e at told

pub add-lost-requires : goal.add-lost-requires
add-lost-requires c =
    let a = c.args.lists in
    let i = c.loop-i.i in
    let row = c.row-row.ensures in
    let old_is = ap (λ (r : MigrationRow). r.old) row in
    let new_is = ap (λ (r : MigrationRow). r.new) row in
    let h : i < length a.customers.now = omega arith in
    let sized = rw (← old_is, ← new_is) at (cell_sized a.customers.now a.rates.now a.olds.now a.news.now c.requires i h c.loop-i.square c.loop-i.invariant.0) in
    omega (arith, sized.0, load-small a.customers.now a.rates.now a.olds.now a.news.now c.requires i h _ (load_is _ _ _ c.of_row-load.ensures row))

pub add-gained-requires : goal.add-gained-requires
add-gained-requires c =
    let a = c.args.lists in
    let i = c.loop-i.i in
    let row = c.row-row.ensures in
    let old_is = ap (λ (r : MigrationRow). r.old) row in
    let new_is = ap (λ (r : MigrationRow). r.new) row in
    let h : i < length a.customers.now = omega arith in
    let sized = rw (← old_is, ← new_is) at (cell_sized a.customers.now a.rates.now a.olds.now a.news.now c.requires i h c.loop-i.square c.loop-i.invariant.0) in
    let small = load-small a.customers.now a.rates.now a.olds.now a.news.now c.requires i h _ (load_is _ _ _ c.of_row-load.ensures row) in
    omega (arith, sized.1, back-small c.of_row-load.result.0 _ c.neg.ensures small)

pub loop-i-preserved : goal.loop-i-preserved
unfolding transferred stored
loop-i-preserved c =
    let l = c.loop-i in
    let cs = c.args.lists.customers.now in
    let rs = c.args.lists.rates.now in
    let os = c.args.lists.olds.now in
    let ns = c.args.lists.news.now in
    let row = c.row-row.ensures in
    let old_is = ap (λ (r : MigrationRow). r.old) row in
    let new_is = ap (λ (r : MigrationRow). r.new) row in
    let h : l.i < length cs = omega arith in
    let from = c.row-row.result.old - 1 in
    let to = c.row-row.result.new - 1 in
    let load : ℤ = pos (get_or cs l.i 0 * get_or rs l.i 0) in
    let moved = load_is _ _ _ c.of_row-load.ensures row in
    let lost : c.add-lost.result.0 ≡ cell_in_of l.square from to +ℤ load =
    c.add-lost.ensures ∙ ap (λ (z : ℤ). cell_in_of l.square from to +ℤ z) moved in
    let gained : c.add-gained.result.0 ≡ cell_in_of l.square to from +ℤ neg_ℤ load =
    c.add-gained.ensures ∙ ap (λ (z : ℤ). cell_in_of l.square to from +ℤ z) (c.neg.ensures ∙ ap neg_ℤ moved) in
    let is = ap₂ (λ (x y : ℤ). stored (stored l.square from to (record { 0 = x })) to from (record { 0 = y })) lost gained in (
      rw (is, old_is, new_is) (nets-more cs rs os ns c.requires l.i h l.square l.invariant.0 l.invariant.1),
      rw (is, old_is, new_is) (shape-more cs rs os ns c.requires l.i h l.square l.invariant.0 l.invariant.1),
    )

pub returns : goal.returns
returns c =
    let a = c.args.lists in
    let l = c.loop-i in
    let last : l.i ≡ length a.customers.now = omega arith in
    rw (← all-rows a.customers.now a.rates.now a.olds.now a.news.now)
    (nets-end a.customers.now a.rates.now a.olds.now a.news.now c.requires (length a.customers.now) (le_refl (length a.customers.now)) l.square (rw last at l.invariant.0) l.invariant.1)
