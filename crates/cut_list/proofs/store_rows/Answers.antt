-- `store_rows`: the cells passed hold the numbers and cuts of the keys passed, and those behind are as they were.
use mathlib.Core.Path.{refl, sym}
use Prim.Native.Nat.{ℕ, ◌/◌, ◌%◌, ◌<◌}
use native.Mathlib.Omega.{arith}
use lib.ListN.{length, get_or, length-set}
use Rattle.lists.specs.Lists.{list_to}
use Rattle.lists.proofs.Fill.{fill_turn, rest-turn, fill_front}
use Rattle.lists.proofs.Lists.{length-list_to, get_d_list_to}
use Rattle.cut_list.proofs.store_rows.Goals as goal

pub loop-i-init : goal.loop-i-init
loop-i-init c = (refl, refl, refl, refl, refl, refl)

pub loop-i-preserved : goal.loop-i-preserved
loop-i-preserved c =
    let s = c in
    let l = c.loop-i in
    let n : ℕ → ℕ = λ j. get_or s.args.keys.now j 0 % 1024 in
    let t : ℕ → ℕ = λ j. get_or s.args.keys.now j 0 / 1024 in
    let h : l.i < length s.args.keys.now = omega arith in
    let hn : l.i < length l.numbers = omega (arith, s.requires.0, l.invariant.0) in
    let ht : l.i < length l.cuts = omega (arith, s.requires.1, l.invariant.1) in (
      simp length-set l.invariant.0,
      simp length-set l.invariant.1,
      fill_turn (list_to (length s.args.keys.now) n) l.numbers l.i l.invariant.2 _ 0 hn (rw (length-list_to (length s.args.keys.now) n) h)
          (sym (get_d_list_to (length s.args.keys.now) n l.i 0 h)),
      rest-turn l.numbers s.args.numbers.now l.i _ l.invariant.3,
      fill_turn (list_to (length s.args.keys.now) t) l.cuts l.i l.invariant.4 _ 0 ht (rw (length-list_to (length s.args.keys.now) t) h)
          (sym (get_d_list_to (length s.args.keys.now) t l.i 0 h)),
      rest-turn l.cuts s.args.cuts.now l.i _ l.invariant.5,
    )

pub returns : goal.returns
returns c =
    let s = c in
    let l = c.loop-i in
    let n : ℕ → ℕ = λ j. get_or s.args.keys.now j 0 % 1024 in
    let t : ℕ → ℕ = λ j. get_or s.args.keys.now j 0 / 1024 in record {
      numbers_value = fill_front (list_to (length s.args.keys.now) n) l.numbers s.args.numbers.now l.i l.invariant.2 l.invariant.3
          (rw (length-list_to (length s.args.keys.now) n) (omega arith));
      cuts_value = fill_front (list_to (length s.args.keys.now) t) l.cuts s.args.cuts.now l.i l.invariant.4 l.invariant.5 (rw (length-list_to (length s.args.keys.now) t) (omega arith));
    }
