-- THE THEOREMS of demand 2's round trips; the statements are in specs/, the proofs in Grids, Books and Prices, and for C in ForC.
use Rattle.round_trips.specs.Trips.{RoundTrips}
use Rattle.round_trips.proofs.Grids.{grid-rewritten, grid-reread}
use Rattle.round_trips.proofs.Books.{book-rewritten, book-reread}
use Rattle.round_trips.proofs.Prices.{prices-rewritten, prices-reread}
-- the same of the C functions' figures
pub use Rattle.round_trips.proofs.ForC.{round_trips_for_c}

pub round_trips_lem : RoundTrips
round_trips_lem =
    record {
      grid-read_then_written = grid-rewritten;
      book-read_then_written = book-rewritten;
      prices-read_then_written = prices-rewritten;
      grid-written_then_read = grid-reread;
      book-written_then_read = book-reread;
      prices-written_then_read = prices-reread;
    }
