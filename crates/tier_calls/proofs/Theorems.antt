-- THE THEOREMS of the running test over what its entries and C functions promise (document 02, papers 4 and 14); the statements are in specs/, the proofs in
-- Runs, Adding and Held, and over the rules alone in tier_rules and tier_reordering.
use Rattle.tier_calls.specs.Runs.{EveryRun}
use Rattle.tier_calls.specs.Adding.{TierAnswers}
use Rattle.tier_calls.specs.Held.{HeldBooks}
use Rattle.tier_calls.proofs.Runs as R
use Rattle.tier_calls.proofs.Adding as A
use Rattle.tier_calls.proofs.Held as H

-- paper 4: any run of calls
pub every_run : EveryRun
every_run = R.every_run

-- paper 14: what adding answers
pub tier-answers : TierAnswers
tier-answers = A.tier-answers

-- paper 4: the awards held as a book
pub held_books : HeldBooks
held_books = H.held_books
