-- `fill_wholes`: the cells passed hold the whole cents and the keys of the coordinators passed, and the sum is that of their whole cents.
use mathlib.Core.Path.{◌≡◌, refl, sym, ap, ◌∙◌}
use Prim.Native.Nat.{ℕ}
use native.Mathlib.Omega.{arith}
use lib.ListN.{length, length-set}
use Rattle.largest_remainders.specs.Ranks.{add_to}
use Rattle.largest_remainders.specs.Shares.{whole, rest}
use Rattle.largest_remainders.specs.Inner.{remainder_key}
use Rattle.largest_remainders.proofs.Counting.{add_to-more, add_to-none}
use Rattle.share_rules.specs.ShareBalance.{demand_of}
use Rattle.share_rules.proofs.Sharing.{product_small, whole_is, wholes_fit, rest-small, key_is, cell_turn}
use Rattle.share_balance.proofs.fill_wholes.Goals as goal

pub loop-i-init : goal.loop-i-init
loop-i-init c =
    let a = c.args in
    (refl, refl, sym (add_to-none (whole (length a.demands.now) (demand_of a.demands.now) a.size)), (λ k b. absurd (omega arith)), (λ k b. absurd (omega arith)))

pub overflow_mul-product : goal.overflow_mul-product
overflow_mul-product c =
    let s = c in
    let i = c.loop-i.i in
    omega (arith, product_small s.args.size s.args.sum s.args.demands.now s.requires.weighed i (omega arith))

pub overflow_add-given : goal.overflow_add-given
overflow_add-given c =
    let s = c in
    let a = s.args in
    let i = c.loop-i.i in
    omega (arith, whole_is a.size a.sum a.demands.now s.requires.weighed i, wholes_fit a.size a.sum a.demands.now s.requires.weighed i (omega arith))

pub overflow_mul-keys : goal.overflow_mul-keys
overflow_mul-keys c =
    let s = c in
    omega (arith, rest-small s.args.size s.args.sum s.args.demands.now s.requires.weighed c.loop-i.i)

pub overflow_add-keys : goal.overflow_add-keys
overflow_add-keys c =
    let s = c in
    omega (arith, rest-small s.args.size s.args.sum s.args.demands.now s.requires.weighed c.loop-i.i)

pub loop-i-preserved : goal.loop-i-preserved
loop-i-preserved c =
    let s = c in
    let a = s.args in
    let l = c.loop-i in
    let n = length a.demands.now in
    let w = whole n (demand_of a.demands.now) a.size in
    let k = remainder_key (rest n (demand_of a.demands.now) a.size) 256 in
    let cents = whole_is a.size a.sum a.demands.now s.requires.weighed l.i in
    let key = key_is a.size a.sum a.demands.now s.requires.weighed l.i in (
      simp length-set (omega arith),
      simp length-set (omega arith),
      omega (arith, cents, add_to-more l.i w),
      cell_turn l.wholes w l.i _ (omega arith) cents l.invariant.3,
      cell_turn l.keys k l.i _ (omega arith) key l.invariant.4,
    )

pub returns : goal.returns
returns c =
    let a = c.args in
    let l = c.loop-i in
    let n = length a.demands.now in
    let last : l.i ≡ n = omega arith in record { value = l.invariant.2 ∙ ap (λ (x : ℕ). add_to x (whole n (demand_of a.demands.now) a.size)) last; rounded_cents = record { whole_cells = omega arith; key_cells = omega arith; whole_is = λ k b. l.invariant.3 k (omega arith); key_is = λ k b. l.invariant.4 k (omega arith) } }
