-- THE THEOREMS of load migration (document 02, paper 5), of every list of rows, every list of loads and every book. Statements only: the proofs are in Nets.antt,
-- Pairs.antt and Books.antt. That the new book is accepted stands with the code (migration_book).
use mathlib.Core.Path.{◌≡◌}
use mathlib.Core.Bool.{false}
use mathlib.Core.List.{List}
use Prim.Native.Nat.{ℕ, ◌≤◌}
use lib.ListN.{length, take}
use lib.IntN.{pos, neg_ℤ}
use lib.Signed.{◌≤ℤ◌}
use Rattle.tariff.specs.declared.contracts.Contract.{Contract}
use Rattle.tariff.specs.declared.contracts.Period.{Period}
use Rattle.tariff.specs.ContractRules.{same_period, of_period}
use Rattle.migration_rules.specs.Transfers.{MigrationRow, net, loss, losses_to, load}
use Rattle.migration_rules.specs.ContractRules.{gained, countered, gainer_share, new_book}
use Rattle.migration_rules.specs.Theorems.{manual_rows, nets_of, manual_nets_of, Cancels, MigrationKept, shares_to}
use Rattle.migration_rules.proofs.Nets.{no_loss}
use Rattle.migration_rules.proofs.Pairs.{made, cancels}
use Rattle.migration_rules.proofs.Books as B
use Rattle.migration_rules.proofs.Nets as N

-- "each the opposite of its mirror"
pub net-opposite : (rows : List MigrationRow) (i j : ℕ) → net rows i j ≡ neg_ℤ (net rows j i)
net-opposite = N.net-opposite

-- "001's example nets 3,600 from LSE 2 to LSE 3", and so the others of its matrix
pub manual_nets : nets_of manual_rows ≡ manual_nets_of
manual_nets = N.manual_nets

pub pair_cancels : (c : Contract) (gainer q : ℕ) → Cancels (gained c gainer q) (countered c q)
pair_cancels c gainer q = cancels (gained c gainer q) (countered c q) (made c gainer q)

module _ (t : Period) (rows : List MigrationRow) (loads : List ℕ) where
  -- "Every constraint's flow is unchanged, so the new book passes exactly when the old one did": flows, figures, verdicts and exact totals, in both periods
  pub migration_keeps : (book : List Contract) → MigrationKept book (new_book (loss rows) loads t book)
  migration_keeps = B.migration_keeps t (loss rows) loads

  -- in the other period nothing is added at all
  pub other_period_untouched : (u : Period) → same_period t u ≡ false → (book : List Contract) → of_period u (new_book (loss rows) loads t book) ≡ of_period u book
  other_period_untouched = B.other_period_untouched t (loss rows) loads

  -- "New contracts follow the old ones": these stay in their places
  pub old-stay : (book : List Contract) → take (length book) (new_book (loss rows) loads t book) ≡ book
  old-stay = B.old-stay t (loss rows) loads

  -- a share is at most the base's quantity, and so are the shares of all gainers together, where 23 does not turn the loser's load down
  pub share-at_most : (c : Contract) (j : ℕ) → loss rows c.holder j ≤ load loads c.holder → gainer_share (loss rows) loads c j ≤ c.quantity.0
  share-at_most = B.share-at_most t (loss rows) loads

  pub shares_at_most : (c : Contract) (m : ℕ) → losses_to (loss rows) c.holder m ≤ load loads c.holder → shares_to (loss rows) loads c m ≤ c.quantity.0
  shares_at_most = B.shares_at_most t (loss rows) loads

  -- no net above 0: the book is as it was
  pub nothing_moved : ((i j : ℕ) → net rows i j ≤ℤ pos 0) → (book : List Contract) → new_book (loss rows) loads t book ≡ book
  nothing_moved none = B.nothing_moved t (loss rows) loads (λ i j. no_loss rows i j (none i j))
