-- `check_write`: the node count by the form, the tables' checks, and then the room's.
use Rattle.tariff.specs.Checks.{nodes_outside_of}
use Rattle.layouts.specs.Forms.{most_nodes_of}
use Prim.Native.Nat.{ℕ}
use mathlib.Core.Path.{◌≡◌, sym, ◌∙◌}
use mathlib.Core.Bool.{Bool}
use mathlib.Core.List.{[]}
use borrow.Author.Tests.{lt-ltb, le-ltb}
use Rattle.std.proofs.lemmas.Result.{err_from_is_err_and}
use Rattle.tariff.specs.Refusals.{passed}
use Rattle.tariff.proofs.Checks.{first-refuses, last-passes}
use Rattle.grid_tables.proofs.Passing.{grid-tables}
use Rattle.grid_rules.specs.WriteGrid.{WriteGridCall, write_grid_call, write_grid_checks}
use Rattle.grid_rules.proofs.Passing.{count_check, room_check, write_checks, short-header}
use Rattle.grid_writing.proofs.check_write.Goals as goal

-- the count is held to the form's bound
bad : (q : WriteGridCall) → {most : ℕ} {outside : Bool} → most ≡ most_nodes_of q.form → outside ≡ (nodes_outside_of most q.nodes).fails
    → outside ≡ (count_check q).fails
bad q most is = rw most at is

pub returns-then-nodes_outside : goal.returns-then-nodes_outside
unfolding write_grid_checks
returns-then-nodes_outside c = sym (first-refuses _ _ (sym (bad (write_grid_call c.args.form c.args.nodes c.args.constraints c.args.limits.now c.args.factors.now
    c.args.file.now) c.most_nodes.ensures c.nodes_outside.ensures) ∙ c.if-nodes_outside.true))

pub invariant_of-size : goal.invariant_of-size
invariant_of-size c =
    let t = grid-tables _ _ _ _ _ _ (sym c.check_grid_tables.ensures ∙ c.in_ok-check_grid_tables.was) in
    record { good = (rw c.grid_header_bits.ensures (short-header c.args.form), record { nodes-few = t.good-factors.nodes-few; few = t.good-factors.few }) }

pub returns-then-file-file_bytes : goal.returns-then-file-file_bytes
returns-then-file-file_bytes c =
    let q = write_grid_call c.args.form c.args.nodes c.args.constraints c.args.limits.now c.args.factors.now c.args.file.now in
    sym (write_checks q (sym (bad q c.most_nodes.ensures c.nodes_outside.ensures) ∙ c.if-nodes_outside.false) passed (sym c.check_grid_tables.ensures
    ∙ c.in_ok-check_grid_tables.was)
    ∙ first-refuses (room_check q) [] (lt-ltb _ _ (rw (c.file_bytes.ensures.0, c.grid_header_bits.ensures) at c.if-file-file_bytes.true)))

pub returns-in_err-check_grid_tables : goal.returns-in_err-check_grid_tables
returns-in_err-check_grid_tables c =
    let q = write_grid_call c.args.form c.args.nodes c.args.constraints c.args.limits.now c.args.factors.now c.args.file.now in
    let p = err_from_is_err_and c.from_residual.result c.from_residual.ensures.1 in
    rw (p.1, p.2) (sym (write_checks q (sym (bad q c.most_nodes.ensures c.nodes_outside.ensures) ∙ c.if-nodes_outside.false) _
    (sym c.check_grid_tables.ensures ∙ c.in_err-check_grid_tables.was)))

pub returns : goal.returns
returns c =
    let q = write_grid_call c.args.form c.args.nodes c.args.constraints c.args.limits.now c.args.factors.now c.args.file.now in
    sym (write_checks q (sym (bad q c.most_nodes.ensures c.nodes_outside.ensures) ∙ c.if-nodes_outside.false) passed (sym c.check_grid_tables.ensures
    ∙ c.in_ok-check_grid_tables.was)
    ∙ last-passes (room_check q) (le-ltb _ _ (rw (c.file_bytes.ensures.0, c.grid_header_bits.ensures) at c.if-file-file_bytes.false)))
