-- `rest_differ`: the bits from k on are known.
use Rattle.std.proofs.Common.{◌≡◌, ap, ◌∙◌, ℕ, ◌+◌, ◌-◌, ◌*◌, ◌/◌, ◌^◌, ◌≤◌, ◌<◌, arith}
use Rattle.lists.specs.Sets.{set_of}
use Rattle.lists.proofs.Sets.{set-start, set-turn, set-fits}
use Rattle.hour_priced.specs.Inner.{differ_at}
use Rattle.hour_priced.proofs.Rows.{row-part, differ_from}
use Rattle.hour_priced.proofs.rest_differ.Goals as goal

pub loop-k-init : goal.loop-k-init
loop-k-init c = let a = c.args in (omega arith, set-start a.table.constraints (differ_at a.table.cells.now a.source a.sink))

pub differ-bit-requires : goal.differ-bit-requires
differ-bit-requires c =
    let a = c.args in
    let i = c.loop-k.k - 1 in
    let inside : i + 1 ≤ a.table.constraints = omega arith in
    (row-part a.table.cells.now a.source a.table.constraints c.requires.0 i 1 inside, row-part a.table.cells.now a.sink a.table.constraints c.requires.1 i 1 inside)

-- bit k − 1 is the one found
bit_is : (c : goal.After-differ-bit)
    → let a = c.args in c.differ-bit.result ≡ set_of 1 (λ (j : ℕ). differ_at a.table.cells.now a.source a.sink (c.loop-k.k - 1 + j))
bit_is c = let a = c.args in c.differ-bit.ensures.0 ∙ differ_from a.table.cells.now a.source a.sink (c.loop-k.k - 1) 1

fits : (c : goal.After-differ-bit) → c.loop-k.set * 2 + c.differ-bit.result < 2 ^ 64
fits c =
    let a = c.args in
    let l = c.loop-k in
    set-fits 1 a.table.constraints l.k (l.k - 1) (differ_at a.table.cells.now a.source a.sink) l.set c.differ-bit.result (omega arith) (omega arith) l.invariant.1 (bit_is c) a.table.good.few

pub overflow_mul-set : goal.overflow_mul-set
overflow_mul-set c = omega (arith, fits c)

pub overflow_add-set : goal.overflow_add-set
overflow_add-set c = omega (arith, fits c)

pub loop-k-preserved : goal.loop-k-preserved
loop-k-preserved c =
    let a = c.args in
    let l = c.loop-k in (
      omega arith,
      set-turn 1 a.table.constraints l.k (l.k - 1) (differ_at a.table.cells.now a.source a.sink) l.set c.differ-bit.result (omega arith) (omega arith) l.invariant.1 (bit_is c),
    )

pub returns : goal.returns
returns c =
    let a = c.args in
    let l = c.loop-k in
    let last : l.k ≡ a.table.constraints / 8 * 8 = omega arith in
    l.invariant.1 ∙ ap (λ (k : ℕ). set_of (a.table.constraints - k) (λ (j : ℕ). differ_at a.table.cells.now a.source a.sink (k + j))) last
