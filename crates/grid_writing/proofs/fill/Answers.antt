-- `fill`: the header, the limits, the factors and the padding, one after the other.
use mathlib.Core.Path.{◌≡◌, refl, sym, ap, ap₂, ◌∙◌}
use Prim.Native.Nat.{ℕ, ◌-◌, ◌*◌}
use native.Mathlib.Omega.{arith}
use lib.ListN.{length, take, length-map}
use lib.Seq.{get_or-take, length-take-le}
use Rattle.bits.specs.Inner.{bits_written}
use Rattle.bits.specs.Signed.{of_int}
use Rattle.layouts.specs.declared.forms.Form.{Form}
use Rattle.layouts.specs.Files.{bytes_for}
use Rattle.layouts.specs.Forms.{grid_header_bits_of}
use Rattle.layouts.specs.GridFile.{limit_width, factor_width, bits_behind, grid_bits, grid_bytes}
use Rattle.layouts.proofs.GridHeader.{header-total}
use Rattle.runs.proofs.Written.{written_last, written-run}
use Rattle.grid_rules.specs.Inner.{coded}
use Rattle.grid_rules.proofs.Factors.{cell_small}
use Rattle.grid_rules.proofs.Passing.{length-written}
use Rattle.grid_rules.proofs.Filling.{grid-filled}
use Rattle.grid_writing.proofs.fill.Goals as goal

-- the bits and the bytes of the file, by a header of as many bits as the form's
module _ (form : Form) (nodes constraints header : ℕ) (is : header ≡ grid_header_bits_of form) where
  used : {n : ℕ} → n ≡ bits_behind header nodes constraints → n ≡ grid_bits form nodes constraints
  used e = e ∙ ap (λ (h : ℕ). bits_behind h nodes constraints) is

  size : {n : ℕ} → n ≡ bytes_for (bits_behind header nodes constraints) → n ≡ grid_bytes form nodes constraints
  size e = e ∙ ap (λ (h : ℕ). bytes_for (bits_behind h nodes constraints)) is

pub write_run-past_limits-requires-clause-run_bound : goal.write_run-past_limits-requires-clause-run_bound
write_run-past_limits-requires-clause-run_bound c =
    let ok = c.requires in
    let here : bits_written c.put_header-past_header.result ≡ grid_header_bits_of c.args.form = c.put_header-past_header.ensures.end ∙ header-total _ _ _ in
    omega (arith, ok.room, here, length-take-le c.args.table.constraints c.args.limits.now ok.good-limits.long, c.put_header-past_header.auto.file)

pub write_factors-past_factors-requires-clause-sized : goal.write_factors-past_factors-requires-clause-sized
write_factors-past_factors-requires-clause-sized c k l =
    let m = c.factors in
    let fs = c.args.table.cells.now in
    let ok = c.requires.good-factors in
    let cut = length-take-le m.result fs (omega (arith, m.ensures.0, ok.long)) in
    rw (get_or-take m.result fs k _ (rw cut at l)) (cell_small _ _ fs ok k (rw (cut, m.ensures.0) at l))

pub write_factors-past_factors-requires-clause-run_bound : goal.write_factors-past_factors-requires-clause-run_bound
write_factors-past_factors-requires-clause-run_bound c =
    let ok = c.requires in
    let m = c.factors in
    let here : bits_written c.put_header-past_header.result ≡ grid_header_bits_of c.args.form = c.put_header-past_header.ensures.end ∙ header-total _ _ _ in
    let limit_cut = length-take-le c.args.table.constraints c.args.limits.now ok.good-limits.long in
    let factor_cut = length-take-le m.result c.args.table.cells.now (omega (arith, m.ensures.0, ok.good-factors.long)) in
    omega (
      arith,
      ok.room,
      m.ensures.0,
      here,
      limit_cut,
      factor_cut,
      c.write_run-past_limits.ensures.result_value_2,
      c.write_run-past_limits.auto.buf,
      c.put_header-past_header.auto.file,
    )

pub put_last-requires-clause-width_bound : goal.put_last-requires-clause-width_bound
put_last-requires-clause-width_bound c =
    let a = c.args in
    let ok = c.requires in
    let m = c.factors in
    let here : bits_written c.put_header-past_header.result ≡ grid_header_bits_of a.form = c.put_header-past_header.ensures.end ∙ header-total _ _ _ in
    let limit_cut = length-take-le a.table.constraints a.limits.now ok.good-limits.long in
    let factor_cut = length-take-le m.result a.table.cells.now (omega (arith, m.ensures.0, ok.good-factors.long)) in
    let end : bits_written c.write_factors-past_factors.result ≡ grid_bits a.form a.table.nodes a.table.constraints =
    omega (arith, c.write_factors-past_factors.ensures.result_value_2, factor_cut, c.write_run-past_limits.ensures.result_value_2, limit_cut, here, m.ensures.0) in
    let long : length c.write_factors-past_factors.new.buf ≡ length a.file.now = c.write_factors-past_factors.auto.buf ∙ c.write_run-past_limits.auto.buf
    ∙ c.put_header-past_header.auto.file in
    let bytes = size a.form a.table.nodes a.table.constraints _ c.grid_header_bits.ensures c.file_bytes-bytes.ensures.0 in
    let bits = used a.form a.table.nodes a.table.constraints _ c.grid_header_bits.ensures c.used_bits.ensures.0 in
    omega (arith, bytes, bits, ok.room, end, long)

pub returns-clause-value : goal.returns-clause-value
returns-clause-value c =
    let a = c.args in
    size a.form a.table.nodes a.table.constraints _ c.grid_header_bits.ensures c.file_bytes-bytes.ensures.0
    ∙ sym (length-written a.form a.table.nodes a.table.constraints a.limits.now a.table.cells.now a.file.now c.requires)

pub returns-clause-file_value : goal.returns-clause-file_value
returns-clause-file_value c =
    let a = c.args in
    let m = c.factors in
    let e = c.write_run-past_limits.ensures in
    let f = c.write_factors-past_factors.ensures in
    let g = c.put_last.ensures in
    let limits = written-run c.put_header-past_header.ensures limit_width _ _ (take a.table.constraints a.limits.now) _ refl
    (e.result_value, (e.result_value_2, e.writes_on)) in
    let factors = written-run limits factor_width _ _ (coded m.result a.table.cells.now) _ (length-map (take m.result a.table.cells.now) (of_int factor_width))
    (f.result_value, (f.result_value_2, f.writes_on)) in
    let all = written_last factors _ _ _ 0 (g.result_value, (g.result_value_2, g.writes_on)) in
    let bytes = size a.form a.table.nodes a.table.constraints _ c.grid_header_bits.ensures c.file_bytes-bytes.ensures.0 in
    let bits = used a.form a.table.nodes a.table.constraints _ c.grid_header_bits.ensures c.used_bits.ensures.0 in
    grid-filled a.form a.table.nodes a.table.constraints a.limits.now a.table.cells.now a.file.now c.requires _ _ _ _ m.ensures.0
    (ap₂ (λ (x y : ℕ). 8 * x - y) bytes bits) all g.result_value_2.1
    (λ i. (c.type_inv.file i).fits) (c.put_last.auto.buf ∙ c.write_factors-past_factors.auto.buf ∙ c.write_run-past_limits.auto.buf
    ∙ c.put_header-past_header.auto.file)
