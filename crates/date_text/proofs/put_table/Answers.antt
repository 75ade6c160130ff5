-- `put_table`: the loop has put the lines of the months passed.
use mathlib.Core.Path.{◌≡◌, sym, ap}
use mathlib.Core.List.{List, flat_map}
use Prim.Native.Nat.{ℕ}
use native.Mathlib.Omega.{arith}
use borrow.Author.Rules.{rules}
use Rattle.lists.specs.Lists.{list_to}
use Rattle.text_format.specs.Inner.{Put}
use Rattle.text_format.proofs.Putting.{◌and◌, puts_none, puts_same, put_same, put_front}
use Rattle.date_rules.specs.OnPeak.{table_entries}
use Rattle.date_rules.proofs.Months.{month_of}
use Rattle.date_text.specs.TableText.{PutsTable}
use Rattle.date_text.proofs.Lines.{lines_to, lines_more}
use Rattle.date_text.proofs.put_table.Goals as goal

pub loop-k-init : goal.loop-k-init
unfolding list_to flat_map
loop-k-init c = (puts_none (omega arith), omega arith)

pub hours_by_rule-hours-requires : goal.hours_by_rule-hours-requires
hours_by_rule-hours-requires c = month_of _ _ (record { year_low = omega arith; year_high = omega arith; month_low = omega arith; month_high = omega arith })

pub put_count-requires : goal.put_count-requires
put_count-requires c = (c.hours_by_rule-hours.ensures.1, omega (arith, c.loop-k.invariant.0.same_length, c.loop-k.invariant.1))

pub loop-k-preserved : goal.loop-k-preserved
loop-k-preserved c =
    let p = c.put_count.ensures in
    let h = c.hours_by_rule-hours in
    let l = c.loop-k in
    (puts_same (lines_more l.k h.result h.ensures.0) (l.invariant.0 and p.put), omega (arith, p.upper_bound, l.invariant.1))

whole : (entry exit : List ℕ) (k bytes : ℕ) → k ≡ table_entries → Put entry 0 (lines_to k) exit bytes → PutsTable entry bytes exit
whole entry exit k bytes last put = let p = put_front (put_same (ap lines_to (sym last)) put) in record { text_put = p.0; bytes-given = p.1 }

pub returns-clause-puts_table : goal.returns-clause-puts_table
returns-clause-puts_table c = whole _ _ c.loop-k.k _ (omega arith) (search rules)
