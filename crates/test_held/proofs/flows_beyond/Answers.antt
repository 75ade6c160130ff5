-- `flows_beyond`: the library's search.
use mathlib.Core.Path.{◌≡◌, ◌∙◌}
use borrow.Author.Rules.{rules}
use borrow.Author.Tests.{tests}
use Rattle.std.specs.List.{list_any}
use Rattle.std.proofs.lemmas.Iterator.{YieldsList-from_slice}
use Rattle.std.proofs.lemmas.Iterator.Search.{any_from_yields_List}
use Rattle.grid_tables.proofs.Cells.{searched}
use Rattle.test_held.specs.Inner.{beyond}
use Rattle.test_held.proofs.flows_beyond.Goals as goal

pub returns : goal.returns
returns c =
    let e : c.any.result ≡ list_any (beyond c.args.count) c.args.flows.now =
    any_from_yields_List (beyond c.args.count) _ _ _ c.any.ensures.ran (YieldsList-from_slice c.args.flows.now cc) (λ x b q k. search (rules, tests)) in
    e ∙ searched _ _
