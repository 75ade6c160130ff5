-- `room_short`: the rows are no longer than a row of every contract.
use mathlib.Core.Path.{ap, ap₂, sym, ◌∙◌}
use Prim.Native.Nat.{◌+◌, ◌*◌, ◌≤◌}
use native.Mathlib.Nat.{mul-le-mul_left}
use native.Mathlib.Omega.{arith}
use borrow.Author.Tests.{le-ltb}
use lib.Dec.{ltb}
use Rattle.layouts.specs.Forms.{record_bytes}
use Rattle.layouts.specs.BookFile.{contract_in}
use Rattle.view_holder.proofs.Rows.{length-rows_to, held_most}
use Rattle.view_holder.proofs.room_short.Goals as goal

pub overflow_mul-row : goal.overflow_mul-row
overflow_mul-row c =
    let few : c.len.result ≤ 1024 = omega (arith, c.len.ensures.1) in
    record { fits = omega (arith, mul-le-mul_left c.row_bytes-row.result few, c.row_bytes-row.ensures.1) }

pub returns-else-bytes-row : goal.returns-else-bytes-row
returns-else-bytes-row c =
    let a = c.args in
    let cs = a.contracts in
    let g = contract_in cs.form cs.file.now in
    le-ltb a.bytes _ c.if-bytes-row.false
    ∙ sym (le-ltb a.bytes _ (omega (
      arith,
      c.if-bytes-row.false,
      length-rows_to cs.form a.holder cs.file.now cs.count,
      mul-le-mul_left (2 + record_bytes cs.form) (held_most a.holder g cs.count),
      ap₂ ◌*◌ c.row_bytes-row.ensures.0 c.len.ensures.0,
    )))

pub overflow_mul-result : goal.overflow_mul-result
overflow_mul-result c =
    let few : c.held_count.result ≤ 1024 = omega (arith, c.held_count.ensures.1, c.args.contracts.few) in
    record { fits = omega (arith, mul-le-mul_left c.row_bytes-row.result few, c.row_bytes-row.ensures.1) }

pub returns-then-bytes-row : goal.returns-then-bytes-row
returns-then-bytes-row c =
    let a = c.args in
    let cs = a.contracts in
    ap (ltb a.bytes) (ap₂ ◌*◌ c.row_bytes-row.ensures.0 c.held_count.ensures.0 ∙ sym (length-rows_to cs.form a.holder cs.file.now cs.count))
