-- `weights_bad`: the library's search.
use mathlib.Core.Path.{◌≡◌, ◌∙◌}
use borrow.Author.Rules.{rules}
use borrow.Author.Tests.{tests}
use Rattle.std.specs.List.{list_any}
use Rattle.std.proofs.lemmas.Iterator.{YieldsList-from_slice}
use Rattle.std.proofs.lemmas.Iterator.Search.{any_from_yields_List}
use Rattle.hub_rules.specs.Hubs.{weight_bad_of}
use Rattle.grid_tables.proofs.Cells.{searched}
use Rattle.hub_checks.proofs.weights_bad.Goals as goal

pub returns : goal.returns
returns c =
    let e : c.any.result ≡ list_any weight_bad_of c.args.weights.now =
    any_from_yields_List weight_bad_of _ _ _ c.any.ensures.ran (YieldsList-from_slice c.args.weights.now cc) (λ x b q k. search (rules, tests)) in
    e ∙ searched _ _
