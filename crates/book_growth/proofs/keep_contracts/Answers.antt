-- `keep_contracts`: the bytes copied, with the header stored over theirs.
use mathlib.Core.Path.{refl}
use native.Mathlib.Omega.{arith}
use lib.ListN.{length-set}
use Rattle.std.proofs.Common.{ap, ◌∙◌, length}
use Rattle.lists.specs.Lent.{overwrite}
use Rattle.lists.proofs.Fill.{fill_turn, rest-turn, fill_front}
use Rattle.book_rules.specs.Inner.{header_bytes}
use Rattle.book_growth.proofs.Keeping.{front_kept}
use Rattle.book_growth.proofs.keep_contracts.Goals as goal

pub loop-i-preserved : goal.loop-i-preserved
loop-i-preserved c =
    let a = c.args in
    let l = c.loop-i in (
      simp length-set l.invariant.0,
      fill_turn a.book.now l.file l.i l.invariant.1 _ 0 (omega (arith, l.invariant.0)) (omega arith) refl,
      rest-turn l.file a.file.now l.i _ l.invariant.2,
    )

pub returns : goal.returns
returns c =
    let a = c.args in
    let l = c.loop-i in
    c.store_header.ensures
    ∙ ap (λ x. overwrite (header_bytes a.form a.grown) x) (fill_front a.book.now l.file a.file.now l.i l.invariant.1 l.invariant.2 (omega (arith, l.auto)))
    ∙ front_kept a.form a.grown a.book.now a.file.now (λ i. (c.type_inv.book i).fits) c.requires.0
