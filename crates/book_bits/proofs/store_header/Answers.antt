-- `store_header`.
use native.Mathlib.Omega.{arith}
use lib.ListN.{length-set}
use Rattle.book_rules.proofs.Bytes.{header-stored}
use Rattle.book_bits.proofs.store_header.Goals as goal

pub returns : goal.returns
returns c =
    let s = c in
    header-stored s.args.form s.args.file.now s.args.contracts _ s.requires.1 s.requires.0 c.spare_pattern-spare.ensures.0 c.spare_pattern-spare.ensures.1

pub bounds-file-1 : goal.bounds-file-1
bounds-file-1 c = simp length-set (omega arith)
