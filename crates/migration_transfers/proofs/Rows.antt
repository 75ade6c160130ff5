-- Rows by index, and what is known of rows that 22 does not turn down.
use mathlib.Core.Path.{◌≡◌, refl, ap, ◌∙◌}
use mathlib.Core.Bool.{Bool, false, not}
use mathlib.Core.List.{List, [], ◌∷◌}
use Prim.Native.Nat.{ℕ, suc, ◌+◌, ◌≤◌, ◌<◌}
use native.Mathlib.Nat.{le_trans}
use native.Mathlib.Omega.{arith}
use borrow.Author.Tests.{ltb-false, eqb-false}
use lib.Dec.{ltb, eqb}
use lib.ListN.{length}
use Rattle.std.specs.List.{list_any, range_with_len}
use Rattle.lists.specs.Lists.{any_of, above}
use Rattle.lists.proofs.Lists.{length-list_to, get_d_list_to}
use lib.ListN.{get_or}
use Rattle.lists.proofs.Search.{neither, none-bad}
use Rattle.tariff.specs.Refusals.{passed}
use Rattle.tariff.specs.Refusals.{first}
use Rattle.tariff.specs.Units.{max_entities, max_rows, max_customers, max_rate}
use Rattle.tariff.proofs.Checks.{passed_cons, same_of}
use Rattle.migration_rules.specs.Transfers.{MigrationRow, RowLists, row, rows_of, migration_rows_in, entity_bad_of, row_bad_of, migration_row_checks}
use Rattle.migration_transfers.specs.Inner.{RowIn, migration_row_at, RowsIn}

module _ (customers rates olds news : List ℕ) where
  pub rows-many : length (rows_of customers rates olds news) ≡ length customers
  unfolding rows_of
  rows-many = length-list_to (length customers) (migration_row_at customers rates olds news)

  pub rows_at : (i : ℕ) (d : MigrationRow) → i < length customers → get_or (rows_of customers rates olds news) i d ≡ migration_row_at customers rates olds news i
  unfolding rows_of
  rows_at i d h = get_d_list_to (length customers) (migration_row_at customers rates olds news) i d h

-- a search by the elements' numbers, from number k on, is one of the list
pub search_list : {A : Type 0} (bad : A → Bool) (f : ℕ → A) (xs : List A) (d : A) (k : ℕ) → ((j : ℕ) → j < length xs → get_or xs j d ≡ f (k + j))
    → list_any (λ i. bad (f i)) (range_with_len k (length xs)) ≡ any_of bad xs
unfolding any_of
search_list bad f [] d k at = refl
search_list bad f (x ∷ xs) d k at =
    let here : k + 0 ≡ k = omega arith in
    let first : x ≡ f k = at 0 (omega arith) ∙ ap f here in
    let rest = search_list bad f xs d (k + 1) (λ j h. let next : k + suc j ≡ k + 1 + j = omega arith in at (suc j) (omega arith) ∙ ap f next) in
    rw (first, rest) refl

-- an LSE's number
entity_in : (n i : ℕ) → entity_bad_of n i ≡ false → (0 < i) × (i ≤ n)
entity_in n i e = let p = neither (eqb i 0) (ltb n i) e in (omega (arith, eqb-false i 0 p.0), ltb-false n i p.1)

pub row_in : (n : ℕ) → n ≤ max_entities → (r : MigrationRow) → row_bad_of n r ≡ false → RowIn r
unfolding row_bad_of
row_in n few r e =
    let a = neither (above max_customers r.customers) _ e in
    let b = neither (above max_rate r.rate) _ a.1 in
    let c = neither (entity_bad_of n r.old) _ b.1 in
    let d = neither (entity_bad_of n r.new) (eqb r.old r.new) c.1 in
    let old = entity_in n r.old c.0 in
    let new = entity_in n r.new d.0 in
    record {
      customers-most = ltb-false max_customers r.customers a.0;
      rate-most = ltb-false max_rate r.rate b.0;
      old-some = old.0;
      old-most = le_trans old.1 few;
      new-some = new.0;
      new-most = le_trans new.1 few;
      apart = eqb-false r.old r.new d.1;
    }

-- ---- lists that 22 does not turn down

pub record Rowed (n : ℕ) (lists : RowLists) : Type 0 where
  pub few : n ≤ max_entities
  pub rows : RowsIn lists.customers lists.rates lists.olds lists.news

module _ (n : ℕ) (lists : RowLists) where
  pub rowed : first (migration_row_checks n lists) ≡ passed → Rowed n lists
  unfolding migration_row_checks
  rowed e =
      let m = length lists.customers in
      let a = passed_cons _ _ e in
      let b = passed_cons _ _ a.1 in
      let c = passed_cons _ _ b.1 in
      let d = passed_cons _ _ c.1 in
      let few = ltb-false max_entities n (neither (eqb n 0) (ltb max_entities n) a.0).1 in
      let u = neither (not (eqb (length lists.classes) m)) _ c.0 in
      let v = neither (not (eqb (length lists.rates) m)) _ u.1 in
      let w = neither (not (eqb (length lists.olds) m)) (not (eqb (length lists.news) m)) v.1 in
      record {
        few = few;
        rows =
            record {
              few = ltb-false max_rows m b.0;
              rates-many = same_of (length lists.rates) m v.0;
              olds-many = same_of (length lists.olds) m w.0;
              news-many = same_of (length lists.news) m w.1;
              each = λ i h.
                  let long = rows-many lists.customers lists.rates lists.olds lists.news in
                  let at = rows_at lists.customers lists.rates lists.olds lists.news i (row 0 0 0 0) h in
                  row_in n few _ (rw at at (none-bad (row_bad_of n) (migration_rows_in lists) (row 0 0 0 0) d.0 i (omega (arith, long))));
            };
      }
