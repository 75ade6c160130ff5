-- `check_rows`: each return by the tests that led there.
use mathlib.Core.Path.{◌≡◌, sym, ◌∙◌}
use mathlib.Core.Bool.{not}
use mathlib.Core.List.{[], ◌∷◌}
use borrow.Author.Tests.{lt-ltb, le-ltb}
use lib.Dec.{eqb}
use Rattle.std.proofs.Common.{ℕ, false, ◌≤◌}
use lib.ListN.{length}
use Rattle.tariff.specs.Units.{max_rows}
use Rattle.tariff.specs.Refusals.{first}
use Rattle.tariff.proofs.Checks.{first_passes, first-refuses, last-passes, same_of}
use Rattle.lists.proofs.Search.{neither}
use Rattle.migration_rules.specs.Transfers.{RowLists, entity_count, unequal_row_lists, migration_rows_in, row_range, migration_row_checks}
use Rattle.migration_transfers.specs.Inner.{lists_of}
use Rattle.migration_transfers.proofs.check_rows.Goals as goal

pub returns-then-entity_count_bad : goal.returns-then-entity_count_bad
unfolding migration_row_checks
returns-then-entity_count_bad c = sym (first-refuses _ _ (sym c.entity_count_bad.ensures ∙ c.if-entity_count_bad.true))

pub returns-then-lists-gt-MAX_ROWS : goal.returns-then-lists-gt-MAX_ROWS
unfolding migration_row_checks
returns-then-lists-gt-MAX_ROWS c = sym (first_passes _ _ (sym c.entity_count_bad.ensures ∙ c.if-entity_count_bad.false) ∙ first-refuses _ _ (lt-ltb max_rows _ c.if-lists-gt-MAX_ROWS.true))

pub returns-then-unequal : goal.returns-then-unequal
unfolding migration_row_checks
returns-then-unequal c =
    let e = c in
    sym (first_passes _ _ (sym e.entity_count_bad.ensures ∙ e.if-entity_count_bad.false) ∙ first_passes _ _ (le-ltb max_rows _ e.if-lists-gt-MAX_ROWS.false)
    ∙ first-refuses _ _ (sym c.unequal.ensures ∙ c.if-unequal.true))

pub rows_bad-requires : goal.rows_bad-requires
rows_bad-requires c =
    let a = c.args.lists in
    let m = length a.customers.now in
    let p = neither (not (eqb (length a.classes.now) m)) _ (sym c.unequal.ensures ∙ c.if-unequal.false) in
    let q = neither (not (eqb (length a.rates.now) m)) _ p.1 in
    let r = neither (not (eqb (length a.olds.now) m)) (not (eqb (length a.news.now) m)) q.1 in
    (same_of (length a.rates.now) m q.0, same_of (length a.olds.now) m r.0, same_of (length a.news.now) m r.1)

-- past the counts and the lengths, the rows' figures are left
rows_left : (n : ℕ) (lists : RowLists) → (entity_count n).fails ≡ false → length lists.customers ≤ max_rows
    → (unequal_row_lists (length lists.customers) (length lists.classes) (length lists.rates) (length lists.olds) (length lists.news)).fails ≡ false
    → first (migration_row_checks n lists) ≡ first (row_range n (migration_rows_in lists) ∷ [])
unfolding migration_row_checks
rows_left n lists count few equal = first_passes _ _ count ∙ first_passes _ _ (le-ltb max_rows _ few) ∙ first_passes _ _ equal

pub returns-then-rows_bad : goal.returns-then-rows_bad
returns-then-rows_bad c =
    let a = c.args.lists in
    let left = rows_left c.args.entities (lists_of a) (sym c.entity_count_bad.ensures ∙ c.if-entity_count_bad.false)
    c.if-lists-gt-MAX_ROWS.false (sym c.unequal.ensures ∙ c.if-unequal.false) in
    sym (left ∙ first-refuses _ _ (sym c.rows_bad.ensures ∙ c.if-rows_bad.true))

pub returns : goal.returns
returns c =
    let a = c.args.lists in
    let left = rows_left c.args.entities (lists_of a) (sym c.entity_count_bad.ensures ∙ c.if-entity_count_bad.false)
    c.if-lists-gt-MAX_ROWS.false (sym c.unequal.ensures ∙ c.if-unequal.false) in
    sym (left ∙ last-passes _ (sym c.rows_bad.ensures ∙ c.if-rows_bad.false))
