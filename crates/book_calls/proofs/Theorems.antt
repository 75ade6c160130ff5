-- THE THEOREMS over what the entries that take a book, those that write one from it, and their C functions promise (document 02, papers 5, 10 and 11); the
-- statements are in specs/, the proofs in Alike, Canonical, Migration, Square and Market.
use mathlib.Core.List.{List}
use Prim.Native.Nat.{ℕ}
use Rattle.book_calls.specs.Alike.{AlikeBooks, AnsweredAlike}
use Rattle.book_calls.specs.Canonical.{CanonicalCalls}
use Rattle.book_calls.specs.Migration.{MigrationCalls}
use Rattle.book_calls.specs.Market.{MarketCalls}
use Rattle.book_calls.specs.Square.{SquareCalls}
use Rattle.book_calls.proofs.Alike as alike
use Rattle.book_calls.proofs.Canonical as canonical
use Rattle.book_calls.proofs.Migration as migration
use Rattle.book_calls.proofs.Market as market
use Rattle.book_calls.proofs.Square as square

-- two accepted books with equal flows and exact totals draw the same answers, refusals included
pub answered-alike : (n : ℕ) (s t : List ℕ) → AlikeBooks n s t → AnsweredAlike n s t
answered-alike = alike.answered-alike

-- paper 11
pub canonical-calls : CanonicalCalls
canonical-calls = canonical.canonical-calls

-- paper 5
pub migration_calls : MigrationCalls
migration_calls = migration.migration_calls

pub square_calls : SquareCalls
square_calls = square.square_calls

-- paper 10, of the market's view
pub market_calls : MarketCalls
market_calls = market.market_calls
