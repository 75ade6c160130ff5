-- Contracts of a base contract: how many, and that they fit.
use mathlib.Core.Path.{◌≡◌, refl, ap, ◌∙◌}
use mathlib.Core.Bool.{Bool, true, false, cond}
use mathlib.Core.List.{List, [], ◌∷◌, ◌++◌}
use Prim.Native.Nat.{ℕ, zero, suc, ◌+◌, ◌-◌, ◌*◌, ◌≤◌, ◌<◌}
use native.Mathlib.Nat.{eq-or-lt_of_le, le_trans}
use native.Mathlib.Omega.{arith}
use mathlib.Core.Logic.{⊎_elim}
use borrow.Author.Tests.{eq-eqb, ne_eqb}
use lib.Dec.{eqb}
use lib.ListN.{length, get_or, length-append}
use lib.IntN.{ℤ}
use Rattle.tariff.specs.declared.contracts.Contract.{Contract}
use Rattle.tariff.specs.declared.contracts.Period.{Period}
use Rattle.tariff.specs.declared.units.Transfer.{Transfer}
use Rattle.tariff.specs.Units.{max_entities, max_quantity}
use Rattle.layouts.specs.BookTable.{ContractFits}
use Rattle.migration_rules.specs.ContractRules.{gained, countered, migrates, gainer_share, pair_for, pairs_to, new_from}
use Rattle.migration_rules.proofs.Books.{base}
use Rattle.migration_transfers.specs.Squares.{no_transfer, of_net, row_losses, lost_in}
use Rattle.migration_transfers.proofs.Squares.{row_sized}
use Rattle.migration_shares.specs.Inner.{NetReady, Held}
use Rattle.migration_pairs.specs.Inner.{MigrationReady, RowReady, pair_of}

-- ---- both contracts fit where the base does

module _ (w : ℕ) (c : Contract) (fits : ContractFits w c) (q : ℕ) (most : q ≤ c.quantity.0) where
  pub fits-gained : (gainer : ℕ) → gainer ≤ 16 → ContractFits w (gained c gainer q)
  fits-gained gainer few =
      record { holder-fits = omega arith; source_fits = fits.source_fits; sink-fits = fits.sink-fits; quantity-fits = omega (arith, fits.quantity-fits) }

  pub fits-countered : ContractFits w (countered c q)
  fits-countered =
      record { holder-fits = fits.holder-fits; source_fits = fits.sink-fits; sink-fits = fits.source_fits; quantity-fits = omega (arith, fits.quantity-fits) }

-- ---- how many

pub pair_length : (c : Contract) (j q : ℕ) → length (pair_of c j q) ≡ cond (eqb q 0) 0 2
pair_length c j q = by (eqb q 0)
  where
    by : (b : Bool) → length (cond b [] (gained c j q ∷ countered c q ∷ [])) ≡ cond b 0 2
    by true = refl
    by false = refl

two_most : (b : Bool) → cond b 0 2 ≤ 2
two_most true = omega arith
two_most false = omega arith

module _ (lost : ℕ → ℕ → ℕ) (loads : List ℕ) (c : Contract) where
  pub no_pairs : pairs_to lost loads c 0 ≡ []
  unfolding pairs_to
  no_pairs = refl

  -- one gainer more, whose share is q
  pub pairs-more : (j q : ℕ) → q ≡ gainer_share lost loads c (suc j) → pairs_to lost loads c (suc j) ≡ pairs_to lost loads c j ++ pair_of c (suc j) q
  unfolding pairs_to pair_for
  pairs-more j q e = rw e

  pub length_more : (j q : ℕ) → q ≡ gainer_share lost loads c (suc j) → length (pairs_to lost loads c (suc j)) ≡ length (pairs_to lost loads c j)
      + length (pair_of c (suc j) q)
  length_more j q e = ap length (pairs-more j q e) ∙ length-append (pairs_to lost loads c j) (pair_of c (suc j) q)

  pub pairs-few : (m : ℕ) → length (pairs_to lost loads c m) ≤ 2 * m
  pairs-few zero = rw no_pairs (omega arith)
  pairs-few (suc m) =
      let q = gainer_share lost loads c (suc m) in
      omega (arith, pairs-few m, length_more m q refl, pair_length c (suc m) q, two_most (eqb q 0))

  pub pairs-grow : (j m : ℕ) → j ≤ m → length (pairs_to lost loads c j) ≤ length (pairs_to lost loads c m)
  pairs-grow zero zero h = omega arith
  pairs-grow (suc j) zero h = absurd (omega arith)
  pairs-grow j (suc m) h =
      ⊎_elim (λ e. rw e (omega arith)) (λ l. le_trans (pairs-grow j m (omega arith)) (omega (arith, length_more m (gainer_share lost loads c (suc m)) refl)))
      (eq-or-lt_of_le h)

-- ---- a share that is nought, and one that is not
pub pair_none : (c : Contract) (j q : ℕ) → q ≡ 0 → pair_of c j q ≡ []
pair_none c j q e = rw (eq-eqb q 0 e)

pub pair_some : (c : Contract) (j q : ℕ) → (q ≡ 0 → ⊥) → pair_of c j q ≡ gained c j q ∷ countered c q ∷ []
pair_some c j q h = rw (ne_eqb q 0 h)

-- ---- a base contract, or none

module _ (lost : ℕ → ℕ → ℕ) (loads : List ℕ) (t : Period) (c : Contract) where
  pub new-some : migrates t (length loads) c ≡ true → new_from lost loads t c ≡ pairs_to lost loads c (length loads)
  unfolding new_from
  new-some e = rw e

  pub new_none : migrates t (length loads) c ≡ false → new_from lost loads t c ≡ []
  unfolding new_from
  new_none e = rw e

  pub base_held : migrates t (length loads) c ≡ true → c.quantity.0 ≤ max_quantity → Held loads c
  base_held e most = let b = base t (length loads) c e in record { numbered = b.numbered; listed = b.listed; quantity-most = most }

-- ---- by the holder's row of a square

-- cell j of a row
module _ (row : List Transfer) (loads : List ℕ) (c : Contract) (j : ℕ) where
  abbrev cell : ℤ
  cell = (get_or row j no_transfer).0

  pub share-by_net : (q : ℕ) → q ≡ gainer_share (of_net cell) loads c 1 → q ≡ gainer_share (row_losses row) loads c (suc j)
  unfolding gainer_share
  share-by_net q e = let place : suc j - 1 ≡ j = omega arith in rw place e

  pub net-ready : RowReady row loads c → Held loads c → j < length loads → NetReady cell loads c
  net-ready ready held h =
      let place : suc j - 1 ≡ j = omega arith in
      record {
        size = ready.size.sized j (omega (arith, ready.few));
        most = ready.most (c.holder - 1) (omega (arith, held.numbered, held.listed));
        losses = rw place at (ready.losses held.numbered held.listed (suc j) (omega arith) (omega arith));
      }

pub pairs-by_row : (square : List (List Transfer)) (loads : List ℕ) (c : Contract) (m : ℕ)
    → pairs_to (row_losses (get_or square (c.holder - 1) [])) loads c m ≡ pairs_to (lost_in square) loads c m
unfolding pairs_to pair_for gainer_share
pairs-by_row square loads c zero = refl
pairs-by_row square loads c (suc m) = rw (pairs-by_row square loads c m)

-- place p is the holder's, where it is an LSE
module _ (square : List (List Transfer)) (loads : List ℕ) (ready : MigrationReady square loads) (c : Contract) (p : ℕ)
    (own : 0 < c.holder → c.holder ≤ max_entities → p ≡ c.holder - 1) where
  same_place : 0 < c.holder → c.holder ≤ length loads → p ≡ c.holder - 1
  same_place a b = own a (omega (arith, ready.few))

  pub row-ready : p < max_entities → RowReady (get_or square p []) loads c
  row-ready h =
      record {
        few = ready.few;
        most = ready.most;
        size = row_sized square ready.size p h;
        losses = λ a b j d e. rw (same_place a b) (ready.losses.within c.holder j a b d e);
      }

  pub new-by_row : (t : Period) → new_from (row_losses (get_or square p [])) loads t c ≡ new_from (lost_in square) loads t c
  unfolding new_from
  new-by_row t = by (migrates t (length loads) c) refl
    where
      by : (b : Bool) → migrates t (length loads) c ≡ b
          → cond b (pairs_to (row_losses (get_or square p [])) loads c (length loads)) [] ≡ cond b (pairs_to (lost_in square) loads c (length loads)) []
      by true e = let h = base t (length loads) c e in rw (same_place h.numbered h.listed) (pairs-by_row square loads c (length loads))
      by false e = refl
