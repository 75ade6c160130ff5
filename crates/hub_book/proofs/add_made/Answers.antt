-- `add_made`: the rows are the contracts made, 10 and 9 are the checks left, and where they pass the rows fit.
use mathlib.Core.Path.{◌≡◌, refl, sym, ap, ap₂, subst, ◌∙◌}
use mathlib.Core.List.{List}
use Prim.Native.Nat.{ℕ, ◌+◌, ◌≤◌}
use Rattle.std.proofs.lemmas.Result.{err_from_is_err_and}
use Rattle.tariff.specs.Refusals.{Checked, passed}
use Rattle.hub_shares.specs.Inner.{RowsTo}
use native.Mathlib.Omega.{arith}
use lib.ListN.{length}
use Rattle.lists.specs.Lent.{overwrite}
use Rattle.tariff.specs.Refusals.{first}
use Rattle.tariff.specs.Units.{max_contracts, max_hub_nodes}
use Rattle.tariff.proofs.Answers.{answer-refused, cells-refused, answer-passed, cells-passed}
use Rattle.layouts.specs.declared.forms.Form.{Form}
use Rattle.layouts.specs.Forms.{end_width}
use Rattle.layouts.specs.BookFile.{book_bytes_of, book_form_in, contract_count_in}
use Rattle.layouts.specs.BookTable.{ContractFits}
use Rattle.book_growth.specs.Inner.{growth_checks}
use Rattle.book_growth.proofs.Keeping.{accepted-whole, room-parts}
use Rattle.hub_book.specs.AddHubContract.{HubCall, count_grown, hub_contract_checked, book_grown}
use Rattle.hub_book.specs.Inner.{terms_call, row_contract, HubRoom, grown_front}
use Rattle.hub_book.proofs.Growing.{terms_of, given_of, Given, given_is, few-nodes, accepted, hub-of_nodes}
use Rattle.hub_book.proofs.Growing.{length-grown, growth_next, rows-at_most, count-is, row_fits, front-is}
use Rattle.hub_book.proofs.add_made.Goals as goal

-- the rows that were made of a call, and what was read of its book
module _ (q : HubCall) (pre : first (given_of q) ≡ passed) (made : ℕ) (sources quantities : List ℕ) (rows : RowsTo q.hub-nodes q.hub-weights q.quantity q.nodes made sources quantities)
    (count : ℕ) (count-told : count ≡ contract_count_in q.book) (form : Form) (form-told : form ≡ book_form_in q.book) where
  given : Given q
  given = given_is q pre

  few-rows : made ≤ max_hub_nodes
  few-rows = rows-at_most q given made sources quantities rows

  -- how many the book then has
  grown-count : count + made ≡ count_grown q
  grown-count = ap (λ (n : ℕ). n + made) count-told ∙ count-is q given made sources quantities rows

  module _ (room : Checked) (room-found : room ≡ first (growth_checks form (count + made) (length q.place))) where
    -- 10 and 9 found what is left of the call's checks
    room-told : room ≡ hub_contract_checked q
    room-told =
        room-found
        ∙ ap₂ (λ (f : Form) (n : ℕ). first (growth_checks f n (length q.place))) form-told grown-count
        ∙ sym (growth_next q pre)

    -- where they pass
    module _ (passed : room ≡ passed) where
      room-left : (count + made ≤ max_contracts) × (book_bytes_of form (count + made) ≤ length q.place)
      room-left = room-parts form (count + made) (length q.place) (sym room-found ∙ passed)

      rows_fit : max_hub_nodes ≤ length sources → max_hub_nodes ≤ length quantities → HubRoom form count (terms_of q) made sources quantities q.place
      rows_fit s t =
          record {
            few = room-left.0;
            source-cells = omega (arith, few-rows);
            quantity-cells = omega (arith, few-rows);
            bytes = room-left.1;
            fits = λ i b. subst (λ (f : Form). ContractFits (end_width f) (row_contract (terms_of q) sources quantities i))
                (sym form-told)
                (row_fits q given made sources quantities rows i b);
          }

      front : grown_front form count (terms_of q) made sources quantities q.book ≡ book_grown q
      front =
          ap₂ (λ (f : Form) (n : ℕ). grown_front f n (terms_of q) made sources quantities q.book)
          form-told count-told
          ∙ front-is q given made sources quantities rows

      sized : book_bytes_of form (count + made) ≡ length (book_grown q)
      sized =
          let few : count_grown q ≤ max_contracts = omega (arith, grown-count, room-left.0) in
          ap₂ book_bytes_of form-told grown-count ∙ sym (length-grown q given few)

pub hub_rows-made-requires : goal.hub_rows-made-requires
hub_rows-made-requires c =
    let a = c.args in
    let q = terms_call a.nodes a.book.now a.terms a.hub.now a.weights.now a.quantity a.file.now in
    let ok = given_is q c.requires in
    record { nodes_le_max_nodes = (few-nodes q ok, hub-of_nodes q ok, ok.sized); max_hub_nodes_in_bounds = (omega arith, omega arith) }

pub of-contracts-requires : goal.of-contracts-requires
of-contracts-requires c =
    let a = c.args in
    let q = terms_call a.nodes a.book.now a.terms a.hub.now a.weights.now a.quantity a.file.now in
    let ok = accepted q (given_is q c.requires) in
    (omega (arith, ok.size), omega (arith, ok.size))

pub overflow_add-grown : goal.overflow_add-grown
overflow_add-grown c =
    let a = c.args in
    let q = terms_call a.nodes a.book.now a.terms a.hub.now a.weights.now a.quantity a.file.now in
    let few = rows-at_most q (given_is q c.requires) c.hub_rows-made.result c.hub_rows-made.new.sources c.hub_rows-made.new.quantities c.hub_rows-made.ensures in
    omega (arith, c.of-contracts.result.few, few)

pub returns-in_err-check_room : goal.returns-in_err-check_room
returns-in_err-check_room c =
    let a = c.args in
    let q = terms_call a.nodes a.book.now a.terms a.hub.now a.weights.now a.quantity a.file.now in
    let m = c.hub_rows-made in
    let told = room-told q c.requires m.result m.new.sources m.new.quantities m.ensures _ c.of-contracts.ensures.2 _ c.of-contracts.ensures.1 _ c.check_room.ensures in
    let refused = c.in_err-check_room.was in
    let p = err_from_is_err_and c.from_residual.result c.from_residual.ensures.1 in
    rw (p.1, p.2) (record { length-given = answer-refused _ _ told _ refused _; bytes-written = cells-refused _ _ told _ refused (book_grown q) _ })

pub book_bytes-bytes-requires : goal.book_bytes-bytes-requires
book_bytes-bytes-requires c =
    let a = c.args in
    let q = terms_call a.nodes a.book.now a.terms a.hub.now a.weights.now a.quantity a.file.now in
    let m = c.hub_rows-made in
    (room-left q c.requires m.result m.new.sources m.new.quantities m.ensures _ c.of-contracts.ensures.2 _ c.of-contracts.ensures.1 _ c.check_room.ensures c.in_ok-check_room.was).0

pub write_grown-requires : goal.write_grown-requires
write_grown-requires c =
    let a = c.args in
    let q = terms_call a.nodes a.book.now a.terms a.hub.now a.weights.now a.quantity a.file.now in
    let m = c.hub_rows-made in
    let whole = accepted-whole q.nodes q.book (accepted q (given_is q c.requires)) in
    let fit = rows_fit q c.requires m.result m.new.sources m.new.quantities m.ensures _ c.of-contracts.ensures.2 _ c.of-contracts.ensures.1 _ c.check_room.ensures c.in_ok-check_room.was
    (omega (arith, m.auto.sources)) (omega (arith, m.auto.quantities)) in
    let of = c.of-contracts.ensures in
    record { whole = rw (of.0, of.1, of.2) (whole, refl); room = fit }

pub returns : goal.returns
returns c =
    let a = c.args in
    let q = terms_call a.nodes a.book.now a.terms a.hub.now a.weights.now a.quantity a.file.now in
    let m = c.hub_rows-made in
    let passed = c.in_ok-check_room.was in
    let told = room-told q c.requires m.result m.new.sources m.new.quantities m.ensures _ c.of-contracts.ensures.2 _ c.of-contracts.ensures.1 _ c.check_room.ensures in
    let size = sized q c.requires m.result m.new.sources m.new.quantities m.ensures _ c.of-contracts.ensures.2 _ c.of-contracts.ensures.1 _ c.check_room.ensures passed in
    let is = front q c.requires m.result m.new.sources m.new.quantities m.ensures _ c.of-contracts.ensures.2 _ c.of-contracts.ensures.1 _ c.check_room.ensures passed in
    record {
      length-given = rw (c.book_bytes-bytes.ensures ∙ size) (answer-passed _ _ told passed _);
      bytes-written = cells-passed _ _ told passed (book_grown q) q.place _
          (rw c.of-contracts.ensures.0 at c.write_grown.ensures ∙ ap (λ (l : List ℕ). overwrite l q.place) is);
    }
