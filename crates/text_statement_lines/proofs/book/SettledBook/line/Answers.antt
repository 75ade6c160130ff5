-- `SettledBook::line`: the book's bounds are the line's.
use native.Mathlib.Omega.{arith}
use lib.ListN.{get_or}
use lib.IntN.{pos}
use Rattle.layouts.proofs.BookFile.{contract-in_fits}
use Rattle.text_statement_lines.proofs.Figures.{kept-cents}
use Rattle.text_statement_lines.proofs.book.SettledBook.line.Goals as goal

pub invariant_of-result : goal.invariant_of-result
invariant_of-result c =
    let b = c.args.self in
    let i = c.args.i in
    record {
      sized = record {
        number-few = omega (arith, b.sized.few, c.requires);
        holder-fits = rw c.at.ensures (omega (arith, (contract-in_fits b.contracts.form b.contracts.file.now i).holder-fits));
        cents-sized = kept-cents (get_or b.cents.now i (pos 0)) (b.sized.cells-sized i c.requires);
        priced-few = rw c.from.ensures (b.sized.sets-sized i c.requires);
      };
    }
