-- `read_tables`: what is read, by the file's own counts, and then what stood behind it.
use mathlib.Core.Path.{◌≡◌, sym, ap, ap₂, ◌∙◌}
use mathlib.Core.List.{List, ◌++◌}
use Prim.Native.Nat.{ℕ, ◌+◌, ◌*◌}
use lib.ListN.{length, drop}
use lib.Seq.{length-take-le}
use Rattle.bits.specs.Bits.{fields}
use Rattle.bits.proofs.Fields.{length_fields}
use Rattle.lists.specs.Lent.{overwrite}
use Rattle.layouts.specs.GridFile.{limit_width}
use Rattle.grid_rules.specs.Inner.{factors_at}
use Rattle.grid_rules.proofs.Factors.{length_run}
use Rattle.grid_rules.proofs.Passing.{limits-are, run_is}
use Rattle.grid_reading.proofs.reading.read_tables.Goals as goal

-- a table whose first n cells are read anew
read_anew : {A : Type 0} (new read all old : List A) (n : ℕ) → new ≡ read → read ≡ all → length read ≡ n → new ++ drop n old ≡ overwrite all old
read_anew new read all old n is same long = ap₂ (λ xs (m : ℕ). xs ++ drop m old) (is ∙ same) (sym long ∙ ap length same)

pub returns-clause-limits_value : goal.returns-clause-limits_value
returns-clause-limits_value c =
    let a = c.args in
    let s = a.grid.bytes.now in
    let cut = length-take-le a.grid.size.constraints a.limits.now c.requires.0 in
    read_anew _ (fields s a.grid.size.header limit_width a.grid.size.constraints) _ a.limits.now a.grid.size.constraints (rw cut at c.read_run.ensures)
    (limits-are s a.grid.size.header a.grid.size.nodes a.grid.size.constraints a.grid.counted) (length_fields s a.grid.size.header limit_width a.grid.size.constraints)

pub returns-clause-factors_value : goal.returns-clause-factors_value
returns-clause-factors_value c =
    let a = c.args in
    let s = a.grid.bytes.now in
    let n = c.factors-count.result in
    let is = c.factors-count.ensures.0 in
    let cut = length-take-le n a.factors.now (rw is c.requires.1) in
    read_anew _ (factors_at s (a.grid.size.header + limit_width * a.grid.size.constraints) n) _ a.factors.now n (rw cut at c.read_factors.ensures)
    (run_is s a.grid.size.header a.grid.size.nodes a.grid.size.constraints a.grid.counted n is) (length_run s (a.grid.size.header + limit_width * a.grid.size.constraints) n)
