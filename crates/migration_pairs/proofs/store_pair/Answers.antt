-- `store_pair`: the gainer's contract, then the loser's, where the share is not nought.
use mathlib.Core.Path.{◌≡◌, sym, ap, ◌∙◌}
use mathlib.Core.List.{[], ◌∷◌}
use Prim.Native.Nat.{ℕ, ◌+◌}
use Rattle.tariff.specs.declared.contracts.Contract.{Contract}
use native.Mathlib.Omega.{arith}
use borrow.Author.Tests.{eqb-true, eqb-false}
use lib.ListN.{length}
use Rattle.layouts.specs.Forms.{end_width}
use Rattle.layouts.specs.BookTable.{ContractFits}
use Rattle.layouts.proofs.BookFile.{record_room}
use Rattle.book_growth.proofs.Appending.{none-appended, one_appended, more_appended}
use Rattle.migration_pairs.specs.Inner.{pair_of}
use Rattle.migration_pairs.proofs.Pairs.{fits-gained, fits-countered, pair_none, pair_some}
use Rattle.migration_pairs.proofs.store_pair.Goals as goal

pub returns-then-eq : goal.returns-then-eq
returns-then-eq c =
    let a = c.args in
    rw (pair_none a.c a.gainer a.quantity.0 (eqb-true a.quantity.0 0 (sym c.eq.ensures ∙ c.if-eq.true)))
    (none-appended a.form a.at a.file.now)

-- two contracts, and room for both
two-long : (c : Contract) (gainer quantity : ℕ) → (quantity ≡ 0 → ⊥) → length (pair_of c gainer quantity) ≡ 2
two-long c gainer quantity some = ap length (pair_some c gainer quantity some)

pub store_contract-requires : goal.store_contract-requires
store_contract-requires c =
    let a = c.args in
    let two = two-long a.c a.gainer a.quantity.0 (eqb-false a.quantity.0 0 (sym c.eq.ensures ∙ c.if-eq.false)) in
    let gained : ContractFits (end_width a.form) c.gained_by-gained.result
    = rw c.gained_by-gained.ensures (fits-gained (end_width a.form) a.c c.requires.contract_fits.0 a.quantity.0 c.requires.contract_fits.2 a.gainer c.requires.contract_fits.1) in
    record {
      i_bound = (omega (arith, c.requires.quantity_bound, two), record_room a.form a.at (a.at + 2) _ (omega arith) (rw two at c.requires.quantity_bound.1));
      contract_fits = gained;
    }

pub store_contract-requires-2 : goal.store_contract-requires-2
store_contract-requires-2 c =
    let a = c.args in
    let two = two-long a.c a.gainer a.quantity.0 (eqb-false a.quantity.0 0 (sym c.eq.ensures ∙ c.if-eq.false)) in
    let countered : ContractFits (end_width a.form) c.countered_by-countered.result
    = rw c.countered_by-countered.ensures (fits-countered (end_width a.form) a.c c.requires.contract_fits.0 a.quantity.0 c.requires.contract_fits.2) in
    record {
      i_bound = (omega (arith, c.requires.quantity_bound, two), record_room a.form (a.at + 1) (a.at + 2) _ (omega arith) (rw c.store_contract.auto.file (rw two at c.requires.quantity_bound.1)));
      contract_fits = countered;
    }

pub returns : goal.returns
returns c =
    let a = c.args in
    let gained = c.gained_by-gained in
    let countered = c.countered_by-countered in
    let two_more : a.at + 2 ≡ a.at + 1 + 1 = omega arith in
    rw (
      pair_some a.c a.gainer a.quantity.0
          (eqb-false a.quantity.0 0 (sym c.eq.ensures ∙ c.if-eq.false)),
      ← gained.ensures,
      ← countered.ensures,
    )
    (more_appended a.form a.at (gained.result ∷ []) a.file.now _ (a.at + 1)
    (one_appended a.form a.at gained.result a.file.now _ c.store_contract.ensures)
    (countered.result ∷ []) _ (a.at + 2) (rw two_more (one_appended a.form (a.at + 1) countered.result _ _ c.store_contract-2.ensures)))
