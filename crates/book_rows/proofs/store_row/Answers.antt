-- `store_row`.
use Rattle.std.proofs.Common.{◌≡◌, ◌∙◌, refl}
use denote.Enum.Declared.{tag_of}
use Rattle.tariff.specs.declared.contracts.Kind.{Kind}
use Rattle.tariff.specs.declared.contracts.Kind.TheVariants.{Obligation, Option}
use Rattle.tariff.specs.declared.contracts.Period.{Period}
use Rattle.tariff.specs.declared.contracts.Period.TheVariants.{OffPeak, OnPeak}
use Rattle.tariff.specs.contracts.contracts.Kind as kinds
use Rattle.tariff.specs.contracts.contracts.Period as periods
use Rattle.layouts.specs.BookFile.{kind_bit_of, period_bit_of}
use Rattle.layouts.specs.BookTable.{cells_of}
use Rattle.lists.proofs.Blocks.{six_sets}
use Rattle.book_rows.proofs.store_row.Goals as goal

kind-tag : (k : Kind) → tag_of kinds.the_type k ≡ kind_bit_of k
kind-tag Obligation = refl
kind-tag Option = refl

period-tag : (p : Period) → tag_of periods.the_type p ≡ period_bit_of p
period-tag OffPeak = refl
period-tag OnPeak = refl

pub returns : goal.returns
unfolding cells_of
returns c =
    let a = c.args in
    six_sets a.book.now a.at _ _ _ _ _ _ c.requires ∙ rw (kind-tag a.c.kind, period-tag a.c.period, c.from.ensures)
