-- `fill_row`: the cells passed hold the row's nets, those before and behind are as they were.
use mathlib.Core.Path.{◌≡◌, refl, sym, ◌∙◌}
use Prim.Native.Nat.{◌+◌}
use native.Mathlib.Omega.{arith}
use lib.ListN.{get_or, length-set}
use lib.IntN.{pos}
use mir.Facts.{to_z-of_z}
use Rattle.lists.proofs.Fill.{fill_turn, rest-turn, fill_front}
use Rattle.migration_transfers.specs.Squares.{no_transfer}
use Rattle.migration_square.proofs.Cells.{fits_cell, target, target_long, target_at, target_starts, target_ends}
use Rattle.migration_square.proofs.fill_row.Goals as goal

pub loop-j-init : goal.loop-j-init
loop-j-init c =
    let a = c.args in
    let start : a.at + 0 ≡ a.at = omega arith in
    (refl, rw start (target_starts a.entities a.at a.nets.now a.row c.requires.1), refl)

pub bounds-row-j : goal.bounds-row-j
bounds-row-j c = omega (arith, c.requires.0)

pub overflow_add-at : goal.overflow_add-at
overflow_add-at c = record { fits = omega (arith, c.requires.0, c.requires.3) }

pub bounds-nets-at : goal.bounds-nets-at
bounds-nets-at c = omega (arith, c.requires.1, c.loop-j.invariant.0)

pub loop-j-preserved : goal.loop-j-preserved
loop-j-preserved c =
    let s = c in
    let a = s.args in
    let l = c.loop-j in
    let room = s.requires.1 in
    let T = target a.entities a.at a.nets.now a.row room in
    let place = a.at + l.j in
    let next : a.at + (l.j + 1) ≡ place + 1 = omega arith in
    let long = target_long a.entities a.at a.nets.now a.row room in
    let small = fits_cell (get_or a.row l.j no_transfer).0 (omega (arith, s.requires.2.sized l.j (omega (arith, s.requires.0)))) in
    let v = to_z-of_z small ∙ sym (target_at a.entities a.at a.nets.now a.row room l.j (omega arith)) in (
      simp length-set l.invariant.0,
      rw next (fill_turn T l.nets place l.invariant.1 _ (pos 0) (omega (arith, room, l.invariant.0)) (omega (arith, long)) v),
      rw next (rest-turn l.nets a.nets.now place _ l.invariant.2),
    )

pub returns : goal.returns
returns c =
    let s = c in
    let a = s.args in
    let l = c.loop-j in
    let room = s.requires.1 in
    let T = target a.entities a.at a.nets.now a.row room in
    target_ends a.entities a.at a.nets.now a.row room l.nets
    (fill_front T l.nets a.nets.now (a.at + l.j) l.invariant.1 l.invariant.2 (omega (arith, target_long a.entities a.at a.nets.now a.row room)))
