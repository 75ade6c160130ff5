-- `put_part`.
-- the byte string is the sentences joined
use mathlib.Core.List.{flat_map}
use borrow.Author.Rules.{rules}
use Rattle.text_refusals.specs.Sentences.{sentences}
use Rattle.text_refusals.specs.Inner.{part}
use Rattle.text_refusals.proofs.sentences.put_part.Goals as goal

pub returns : goal.returns
unfolding part sentences flat_map
returns c = let p = c.put.ensures in search rules
