-- `runs::field_above`: a search by the fields' numbers is one of the run.
use mathlib.Core.Path.{◌≡◌, refl, ◌∙◌}
use Prim.Native.Nat.{ℕ, ◌+◌, ◌*◌}
use native.Mathlib.Nat.{add-zero, mul-zero}
use native.Mathlib.Omega.{arith}
use borrow.Author.Rules.{rules}
use borrow.Author.Tests.{tests}
use Rattle.bits.specs.Bits.{field}
use Rattle.lists.specs.Lists.{above}
use Rattle.std.proofs.lemmas.Iterator.{YieldsList-from_range}
use Rattle.std.proofs.lemmas.Iterator.Search.{any_from_yields_List}
use Rattle.std.specs.List.{list_any, range_with_len}
use Rattle.runs.proofs.Runs.{search_run}
use Rattle.runs.proofs.field_above.Goals as goal

pub returns : goal.returns
returns c =
    let a = c.args in
    let test = λ (i : ℕ). above a.most (field a.s.now (a.offset + a.width * i) a.width) in
    let by_number : c.any.result ≡ list_any test (range_with_len 0 a.count) =
    any_from_yields_List test _ _ c.any.result c.any.ensures.ran (YieldsList-from_range 0 a.count a.count refl (omega arith)) (λ x b q k. search (rules, tests)) in
    let by_run = search_run (above a.most) a.s.now a.offset a.width 0 a.count (rw (mul-zero, add-zero) c.requires.count_bound) in
    by_number ∙ rw (mul-zero, add-zero) at by_run
