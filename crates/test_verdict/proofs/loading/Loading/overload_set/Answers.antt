-- `overload_set`: the bits from k on are known.
use mathlib.Core.Path.{◌≡◌, sym, ◌∙◌}
use mathlib.Core.Bool.{Bool}
use mathlib.Core.List.{List}
use Prim.Native.Nat.{ℕ, ◌+◌, ◌-◌, ◌*◌, ◌^◌, ◌<◌, ◌≤◌}
use native.Mathlib.Omega.{arith}
use lib.IntN.{ℤ, pos, nat_abs}
use lib.ListN.{get_or}
use mir.Syntax.{w64}
use mir.Val.{bool_byte, to_z, of_z}
use Rattle.std.specs.Ordering.{is_lt, int_cmp}
use Rattle.lists.specs.Sets.{set_of}
use Rattle.lists.proofs.Sets.{set-start, set-one, set-turn, set-fits}
use Rattle.tariff.specs.declared.processes.Process.{Process}
use Rattle.tariff.specs.Processes.{percent}
use Rattle.tariff.specs.Units.{max_constraints}
use Rattle.test_rules.proofs.Judging.{less-is, over, over-is}
use Rattle.test_verdict.proofs.loading.Loading.overload_set.Goals as goal

pub loop-k-init : goal.loop-k-init
loop-k-init c = set-start c.args.self.constraints (over c.args.self.limits.now c.args.process c.args.self.flows.now.flows)

-- bit k - 1 is what the test found, before the bits from k on
module _ (limits : List ℕ) (process : Process) (cells : List ℤ) (n k s : ℕ) (r : ℤ) (b : Bool) (some : 0 < k) (below : k ≤ n)
    (known : s ≡ set_of (n - k) (λ (j : ℕ). over limits process cells (k + j))) (sized : nat_abs (get_or cells (k - 1) (pos 0)) < 2 ^ 62)
    (limit : r ≡ pos (get_or limits (k - 1) 0 * percent process * 1000)) (found : b ≡ is_lt (int_cmp r (to_z w64 (of_z w64 (get_or cells (k - 1) (pos 0)))))) where
  bit_is : bool_byte b ≡ set_of 1 (λ (j : ℕ). over limits process cells (k - 1 + j))
  bit_is = set-one b (over limits process cells) (k - 1) (sym (over-is limits process cells (k - 1) r b sized limit (found ∙ less-is r _)))

  turn : s * 2 + bool_byte b ≡ set_of (n - (k - 1)) (λ (j : ℕ). over limits process cells (k - 1 + j))
  turn = set-turn 1 n k (k - 1) (over limits process cells) s (bool_byte b) (omega arith) below known bit_is

  fits : n ≤ max_constraints → s * 2 + bool_byte b < 2 ^ 64
  fits few = set-fits 1 n k (k - 1) (over limits process cells) s (bool_byte b) (omega arith) below known bit_is few

pub loop-k-preserved : goal.loop-k-preserved
loop-k-preserved c =
    let k = c.loop-k.k in
    turn c.args.self.limits.now c.args.process c.args.self.flows.now.flows c.args.self.constraints k c.loop-k.set c.released.result.0 c.lt-over.result (omega arith) (omega arith)
    c.loop-k.invariant (c.args.self.judgeable.flows-sized (k - 1) (omega arith)) c.released.ensures c.lt-over.ensures

pub overflow_add-set : goal.overflow_add-set
overflow_add-set c =
    let k = c.loop-k.k in
    let h = fits c.args.self.limits.now c.args.process c.args.self.flows.now.flows c.args.self.constraints k c.loop-k.set c.released.result.0 c.lt-over.result (omega arith) (omega arith)
    c.loop-k.invariant (c.args.self.judgeable.flows-sized (k - 1) (omega arith)) c.released.ensures c.lt-over.ensures c.args.self.judgeable.few in
    omega (arith, h)

pub overflow_mul-set : goal.overflow_mul-set
overflow_mul-set c = let h = overflow_add-set c in omega (arith, h)
