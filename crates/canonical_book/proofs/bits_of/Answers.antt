-- `bits_of`: terms, source, and sink and quantity as one are the row's bytes; in the wide form the number is.
use Rattle.canonical_book.proofs.Unpacking.{narrow-bytes, wide-bytes}
use Rattle.canonical_book.specs.Inner.{RowOf}
use Rattle.layouts.specs.declared.forms.Form.TheVariants.{Narrow, Wide}
use Rattle.canonical_book.proofs.bits_of.Goals as goal

pub returns-in-Narrow : goal.returns-in-Narrow
returns-in-Narrow c =
    let p = c in
    let s = p in
    let row : RowOf Narrow s.args.v = rw p.in-Narrow.is at s.requires in
    rw p.in-Narrow.is
    (narrow-bytes row.of s.args.v row.is row.fits _ _ _
    c.terms_in-terms.ensures.0 c.source_in-source.ensures.0 c.part-rest.ensures.0)

pub returns-in-Wide : goal.returns-in-Wide
returns-in-Wide c =
    let s = c in
    let row : RowOf Wide s.args.v = rw c.in-Wide.is at s.requires in
    rw c.in-Wide.is (wide-bytes row.of s.args.v row.is row.fits)
