-- The checks of settling an hour: those of an hour's tables, the book's own, then the places for the cents and for the sets.
use mathlib.Core.Path.{◌≡◌, sym, ap, ◌∙◌}
use mathlib.Core.List.{List, [], ◌∷◌, ◌++◌}
use Prim.Native.Nat.{ℕ, ◌≤◌, ◌<◌}
use native.Mathlib.Omega.{arith}
use borrow.Author.Tests.{ltb-false, lt-ltb, le-ltb}
use Rattle.tariff.specs.declared.refusals.Refusal.{Refusal}
use Rattle.tariff.specs.declared.refusals.Refusal.TheVariants.{ShortTable}
use Rattle.tariff.specs.Refusals.{Checked, passed}
use Rattle.std.specs.Prelude.{Err}
use Rattle.tariff.specs.Refusals.{Check, first, decided}
use Rattle.tariff.specs.Checks.{short_table}
use Rattle.tariff.proofs.Checks.{first-append, passed_cons, passed_append}
use Rattle.layouts.specs.BookFile.{contract_count_in}
use Rattle.grid_tables.specs.Inner.{Hour, hour_table_checks}
use Rattle.grid_tables.proofs.Passing.{hour_tables, hour_of}
use Rattle.book_rules.specs.BookChecks.{book_checks}
use Rattle.hour_rules.specs.SettleHour.{HourCall, settle_checks}

-- ---- settling: as many cells as nodes are never too few

module _ (q : HourCall) where
  abbrev pub table_checked : Checked
  table_checked = first (hour_table_checks q.nodes q.constraints q.period q.factors q.prices q.nodes)

  abbrev pub book_checked : Checked
  book_checked = first (book_checks q.nodes q.book)

  module _ (cells sets : ℕ) where
    abbrev pub found : Checked
    found = first (settle_checks q cells sets)

    abbrev room_checks : List Check
    room_checks = short_table cells (contract_count_in q.book) ∷ short_table sets (contract_count_in q.book) ∷ []

    in_parts : found ≡ first (hour_table_checks q.nodes q.constraints q.period q.factors q.prices q.nodes ++ (book_checks q.nodes q.book ++ room_checks))
    unfolding first settle_checks hour_table_checks
    in_parts = rw (le-ltb q.nodes q.nodes (omega arith))

    one_by_one : found ≡ decided table_checked Err (decided book_checked Err (first room_checks))
    one_by_one =
        in_parts
        ∙ first-append (hour_table_checks q.nodes q.constraints q.period q.factors q.prices q.nodes) (book_checks q.nodes q.book ++ room_checks)
        ∙ ap (λ (x : Checked). decided table_checked Err x) (first-append (book_checks q.nodes q.book) room_checks)

    -- x is what the tables' checks found, y what the book's own did, m how many contracts the book has
    module _ (x : Checked) (tables : x ≡ table_checked) where
      pub tables-refuse : (r : Refusal) → x ≡ Err r → Err r ≡ found
      tables-refuse r told = sym (one_by_one ∙ rw (← tables, told))

      module _ (pass : x ≡ passed) (y : Checked) (own : y ≡ book_checked) where
        pub book-refuses : (r : Refusal) → y ≡ Err r → Err r ≡ found
        book-refuses r told = sym (one_by_one ∙ rw (← tables, pass, ← own, told))

        module _ (own-pass : y ≡ passed) (m : ℕ) (count : m ≡ contract_count_in q.book) where
          pub no_room : cells < m → Err ShortTable ≡ found
          unfolding first
          no_room h = sym (one_by_one ∙ rw (← tables, pass, ← own, own-pass, ← count, lt-ltb cells m h))

          pub no_set_room : m ≤ cells → sets < m → Err ShortTable ≡ found
          unfolding first
          no_set_room h g = sym (one_by_one ∙ rw (← tables, pass, ← own, own-pass, ← count, le-ltb cells m h, lt-ltb sets m g))

          pub all-fits : m ≤ cells → m ≤ sets → passed ≡ found
          unfolding first
          all-fits h g = sym (one_by_one ∙ rw (← tables, pass, ← own, own-pass, ← count, le-ltb cells m h, le-ltb sets m g))

    -- what holds where none refuses
    pub record Ready : Type 0 where
      pub hour : Hour q.nodes q.constraints q.factors q.prices
      pub own : book_checked ≡ passed
      pub room : contract_count_in q.book ≤ cells
      pub set_room : contract_count_in q.book ≤ sets

    pub settle_ready : found ≡ passed → Ready
    settle_ready e =
        let all = passed_append (hour_table_checks q.nodes q.constraints q.period q.factors q.prices q.nodes) (book_checks q.nodes q.book ++ room_checks) (sym in_parts ∙ e) in
        let rest = passed_append (book_checks q.nodes q.book) room_checks all.1 in
        let rooms = passed_cons _ _ rest.1 in
        record {
          hour = hour_of (hour_tables q.nodes q.constraints q.period q.factors q.prices q.nodes all.0);
          own = rest.0;
          room = ltb-false cells (contract_count_in q.book) rooms.0;
          set_room = ltb-false sets (contract_count_in q.book) (passed_cons _ _ rooms.1).0;
        }
