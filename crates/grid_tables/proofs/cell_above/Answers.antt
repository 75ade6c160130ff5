-- `cell_above`: the library's search.
use mathlib.Core.Path.{◌≡◌, ◌∙◌}
use borrow.Author.Rules.{rules}
use borrow.Author.Tests.{tests}
use Rattle.std.specs.List.{list_any}
use Rattle.std.proofs.lemmas.Iterator.{YieldsList-from_slice}
use Rattle.std.proofs.lemmas.Iterator.Search.{any_from_yields_List}
use Rattle.lists.specs.Lists.{above}
use Rattle.grid_tables.proofs.Cells.{searched}
use Rattle.grid_tables.proofs.cell_above.Goals as goal

pub returns : goal.returns
returns c =
    let e : c.any.result ≡ list_any (above c.args.most) c.args.cells.now =
    any_from_yields_List (above c.args.most) _ _ _ c.any.ensures.ran (YieldsList-from_slice c.args.cells.now cc) (λ x b q k. search (rules, tests)) in
    e ∙ searched _ _
