-- `narrow_number_of`: terms, source, and sink and quantity as one make the number.
use Rattle.canonical_numbers.proofs.Packing.{narrow-number_is}
use Rattle.canonical_numbers.proofs.narrow_number_of.Goals as goal

pub returns : goal.returns
returns c =
    narrow-number_is c.args.v _ _ _ c.terms_in-terms.ensures.0 c.source_in-source.ensures.0 c.part-rest.ensures.0
