-- `fill_square`: the rows passed stand one after the other, and the rest is as it was.
use mathlib.Core.Path.{◌≡◌, refl, ap, ◌∙◌}
use Prim.Native.Nat.{ℕ, suc, ◌+◌, ◌*◌, ◌≤◌, ◌<◌}
use native.Mathlib.Nat.{mul-le-mul, suc-mul}
use native.Mathlib.Omega.{arith}
use Rattle.lists.specs.Lent.{overwrite}
use Rattle.tariff.specs.Units.{max_entities}
use Rattle.migration_transfers.proofs.Squares.{row_sized}
use Rattle.migration_square.specs.Inner.{rows_cells}
use Rattle.migration_square.proofs.Cells.{rows_none, rows_more}
use Rattle.migration_square.proofs.fill_square.Goals as goal

-- row i begins within the square, and ends there
row-starts : (n i : ℕ) → n ≤ max_entities → i < n → i * n ≤ max_entities * max_entities
row-starts n i few h =
    let most : i ≤ max_entities = omega arith in
    mul-le-mul most few

row_ends : (n i : ℕ) → i < n → i * n + n ≤ n * n
row_ends n i h =
    let most : suc i ≤ n = omega arith in
    let all : n ≤ n = omega arith in
    rw (← suc-mul i n) (mul-le-mul most all)

pub loop-i-init : goal.loop-i-init
loop-i-init c = (refl, rows_none c.args.entities c.args.square c.args.nets.now)

pub bounds-square-i : goal.bounds-square-i
bounds-square-i c = omega (arith, c.requires.0)

pub overflow_mul-i : goal.overflow_mul-i
overflow_mul-i c =
    let s = c in
    record { fits = omega (arith, row-starts s.args.entities c.loop-i.i s.requires.0 (omega arith)) }

pub fill_row-requires : goal.fill_row-requires
fill_row-requires c =
    let s = c in
    let l = c.loop-i in
    let n = s.args.entities in (
      s.requires.0,
      omega (arith, row_ends n l.i (omega arith), s.requires.1, l.invariant.0),
      row_sized s.args.square s.requires.2 l.i (omega (arith, s.requires.0)),
      row-starts n l.i s.requires.0 (omega arith),
    )

pub loop-i-preserved : goal.loop-i-preserved
loop-i-preserved c =
    let s = c in
    let l = c.loop-i in
    let stored = c.fill_row in (
      stored.auto.nets ∙ l.invariant.0,
      rows_more s.args.entities s.args.square l.i s.args.nets.now l.nets _ l.invariant.1 stored.ensures,
    )

pub returns : goal.returns
returns c =
    let s = c in
    let l = c.loop-i in
    let last : l.i ≡ s.args.entities = omega arith in
    l.invariant.1 ∙ ap (λ (m : ℕ). overwrite (rows_cells s.args.entities s.args.square m) s.args.nets.now) last
