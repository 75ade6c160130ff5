-- `check_lists`.
use mathlib.Core.Path.{◌≡◌, sym, ◌∙◌}
use mathlib.Core.Bool.{true, false}
use Rattle.tariff.proofs.Checks.{first_passes, first-refuses, last-passes, differs, same}
use Rattle.tariff.specs.Checks.{listed_nodes}
use Rattle.layouts.specs.Forms.{ends_below_of}
use Rattle.layouts.proofs.BookFile.{ends_some}
use Rattle.remap_rules.specs.Inner.{list_checks}
use Rattle.remap_checks.proofs.check_lists.Goals as goal

pub returns-then-listed_outside : goal.returns-then-listed_outside
unfolding list_checks
returns-then-listed_outside c = sym (first-refuses _ _ (sym c.listed_outside.ensures ∙ c.if-listed_outside.true))

pub listed_outside-requires-2 : goal.listed_outside-requires-2
listed_outside-requires-2 c =
    rw c.ends_below.ensures (ends_some c.args.form c.args.nodes c.requires)

pub returns-then-listed_outside-2 : goal.returns-then-listed_outside-2
unfolding list_checks
returns-then-listed_outside-2 c =
    let a = c.args in
    let told : (listed_nodes (ends_below_of a.form a.nodes) a.new.now).fails ≡ true =
    rw (← c.ends_below.ensures) (sym c.listed_outside-2.ensures ∙ c.if-listed_outside-2.true) in
    sym (first_passes _ _ (sym c.listed_outside.ensures ∙ c.if-listed_outside.false) ∙ first-refuses _ _ told)

pub returns-then-old-new : goal.returns-then-old-new
unfolding list_checks
returns-then-old-new c =
    let news-below : (listed_nodes (ends_below_of c.args.form c.args.nodes) c.args.new.now).fails ≡ false = rw (← c.ends_below.ensures) (sym c.listed_outside-2.ensures ∙ c.if-listed_outside-2.false) in
    let olds-below : (listed_nodes c.args.nodes c.args.old.now).fails ≡ false = sym c.listed_outside.ensures ∙ c.if-listed_outside.false in
    sym (first_passes _ _ olds-below ∙ first_passes _ _ news-below ∙ first-refuses _ _ (differs _ _ c.if-old-new.true))

pub returns : goal.returns
unfolding list_checks
returns c =
    let news-below : (listed_nodes (ends_below_of c.args.form c.args.nodes) c.args.new.now).fails ≡ false = rw (← c.ends_below.ensures) (sym c.listed_outside-2.ensures ∙ c.if-listed_outside-2.false) in
    let olds-below : (listed_nodes c.args.nodes c.args.old.now).fails ≡ false = sym c.listed_outside.ensures ∙ c.if-listed_outside.false in
    sym (first_passes _ _ olds-below ∙ first_passes _ _ news-below ∙ last-passes _ (same _ _ c.if-old-new.false))
