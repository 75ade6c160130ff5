-- `list_rows`: the room for the rows, then the rows.
use native.Mathlib.Omega.{arith}
use Rattle.cut_list.proofs.Rows.{no_room_numbers, no_room_cuts, stored}
use Rattle.cut_list.proofs.list_rows.Goals as goal

pub returns-then-numbers-listed : goal.returns-then-numbers-listed
returns-then-numbers-listed c = no_room_numbers _ _ _ _ (omega arith)

pub returns-then-cuts-listed : goal.returns-then-cuts-listed
returns-then-cuts-listed c = no_room_cuts _ _ _ _ (omega arith) (omega arith)

pub returns : goal.returns
returns c = let r = c.store_rows.ensures in stored _ _ _ _ (omega arith) (omega arith) _ _ r.numbers_value r.cuts_value
