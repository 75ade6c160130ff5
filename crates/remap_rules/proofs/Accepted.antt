-- What is known of a call that remapping's checks accept.
use mathlib.Core.Path.{◌≡◌, sym, ap, ◌∙◌}
use mathlib.Core.Bool.{false}
use mathlib.Core.List.{List, [], ◌∷◌, map}
use Prim.Native.Nat.{ℕ, ◌^◌, ◌≤◌, ◌<◌}
use native.Mathlib.Omega.{arith}
use borrow.Author.Tests.{ltb-false, lt-leb}
use lib.Dec.{leb}
use lib.ListN.{length}
use Rattle.lists.specs.Lists.{any_of, list_to}
use Rattle.lists.proofs.Lists.{length-list_to, list_to-cong, map-list_to, each-list_to}
use Rattle.lists.proofs.Search.{all-below}
use Rattle.tariff.specs.declared.contracts.Contract.{Contract}
use Rattle.tariff.specs.Refusals.{passed}
use Rattle.tariff.specs.Refusals.{first}
use Rattle.tariff.specs.Checks.{node_number, short_table, listed_nodes}
use Rattle.tariff.proofs.Checks.{first_passes, passed_cons, passed_append, nodes-few_of, same_of}
use Rattle.layouts.specs.declared.forms.Form.{Form}
use Rattle.layouts.specs.Forms.{end_width, ends_below_of}
use Rattle.layouts.specs.BookFile.{book_bytes_of, contract_count_in, book_form_in, contract_at, book_in}
use Rattle.layouts.specs.BookTable.{ContractFits}
use Rattle.layouts.proofs.BookFile.{contract-in_fits, ends-fewer, end_below, end_fits}
use Rattle.book_rules.specs.BookChecks.{contract_checks, book_checks}
use Rattle.book_rules.proofs.Accepted.{Accepted, contracts-pass, book-accepted}
use Rattle.book_rules.proofs.Making.{Made, book-made}
use Rattle.remap_rules.specs.RemapBook.{moved_end, remapped, RemapBookCall, unequal_lists, remap_book_checks, remap_book_checked, book_remapped}
use Rattle.remap_rules.specs.Inner.{moved_by, Moves, Listed, Movable}
use Rattle.remap_rules.proofs.Moving.{moved-below}

pub record Remappable (q : RemapBookCall) : Type 0 where
  pub accepted : first (book_checks q.nodes q.book) ≡ passed
  pub listed : Listed q.nodes q.olds q.news
  pub new-good : any_of (leb (ends_below_of (book_form_in q.book) q.nodes)) q.news ≡ false
  pub room : book_bytes_of (book_form_in q.book) (contract_count_in q.book) ≤ length q.place

pub remappable : (q : RemapBookCall) → remap_book_checked q ≡ passed → Remappable q
unfolding remap_book_checks
remappable q e =
    let form = book_form_in q.book in
    let room = short_table (length q.place) (book_bytes_of form (contract_count_in q.book)) ∷ [] in
    let a = passed_cons _ _ e in
    let b = passed_append (book_checks q.nodes q.book) (listed_nodes q.nodes q.olds ∷ listed_nodes (ends_below_of form q.nodes) q.news ∷ unequal_lists q.olds q.news ∷ room) a.1 in
    let c = passed_cons _ _ b.1 in
    let d = passed_cons _ _ c.1 in
    let f = passed_cons _ _ d.1 in
    record {
      accepted = b.0;
      listed =
          record {
            few = nodes-few_of q.nodes a.0;
            pairs = same_of (length q.olds) (length q.news) f.0;
            old_below = all-below q.nodes q.olds c.0;
            new-below = λ i h. omega (arith, all-below (ends_below_of form q.nodes) q.news d.0 i h, ends-fewer form q.nodes);
          };
      new-good = d.0;
      room = ltb-false (length q.place) (book_bytes_of form (contract_count_in q.book)) (passed_cons _ _ f.1).0;
    }

module _ (q : RemapBookCall) (ok : Remappable q) where
  own : Accepted q.nodes q.book
  own = book-accepted q.nodes q.book ok.accepted

  -- contract i, moved
  abbrev moved_at : ℕ → Contract
  moved_at i = remapped q.olds q.news (contract_at q.book i)

  abbrev form : Form
  form = book_form_in q.book

  -- an end of the book, moved, is one that its form has room for
  moved-end : (e : ℕ) → e < q.nodes → e < 2 ^ end_width form → moved_end q.olds q.news e < ends_below_of form q.nodes
  moved-end e h fits = moved-below (ends_below_of form q.nodes) q.olds q.news e ok.new-good (end_below form q.nodes e h fits)

  pub moved-fits : (i : ℕ) → i < contract_count_in q.book → ContractFits (end_width form) (moved_at i)
  unfolding remapped
  moved-fits i h =
      let r = own.each i h in
      let f = contract-in_fits form q.book i in
      record {
        holder-fits = f.holder-fits;
        source_fits = end_fits form q.nodes _ ok.listed.few (moved-end _ r.source-below f.source_fits);
        sink-fits = end_fits form q.nodes _ ok.listed.few (moved-end _ r.sink-below f.sink-fits);
        quantity-fits = f.quantity-fits;
      }

  moved_passes : (i : ℕ) → i < contract_count_in q.book → first (contract_checks q.nodes (moved_at i)) ≡ passed
  unfolding remapped contract_checks
  moved_passes i h =
      let r = own.each i h in
      let f = contract-in_fits form q.book i in
      let m = moved_at i in
      let from : m.source < q.nodes = omega (arith, moved-end _ r.source-below f.source_fits, ends-fewer form q.nodes) in
      let to : m.sink < q.nodes = omega (arith, moved-end _ r.sink-below f.sink-fits, ends-fewer form q.nodes) in
      let ends : (node_number q.nodes m.source m.sink).fails ≡ false = rw (lt-leb _ _ from, lt-leb _ _ to) in
      first_passes _ _ ends ∙ (passed_cons _ _ (contracts-pass q.nodes q.book ok.accepted i h)).1

  -- the moved contracts, by index
  pub moved-list : map (remapped q.olds q.news) (book_in q.book) ≡ list_to (contract_count_in q.book) moved_at
  moved-list = map-list_to (contract_count_in q.book) (contract_at q.book) (remapped q.olds q.news)

  moved-many : length (map (remapped q.olds q.news) (book_in q.book)) ≡ contract_count_in q.book
  moved-many = ap length moved-list ∙ length-list_to (contract_count_in q.book) moved_at

  pub book-remade : Made form q.nodes (map (remapped q.olds q.news) (book_in q.book))
  book-remade =
      book-made form q.nodes _ (omega (arith, moved-many, own.few))
      (rw moved-list (each-list_to (ContractFits (end_width form)) (contract_count_in q.book) moved_at moved-fits))
      (rw moved-list (each-list_to (λ c. first (contract_checks q.nodes c) ≡ passed) (contract_count_in q.book) moved_at moved_passes))

  pub length-remade : length (book_remapped q) ≡ length q.book
  length-remade = book-remade.size ∙ ap (book_bytes_of form) moved-many ∙ sym own.size

  -- ---- with the table of where each node goes
  module _ (ends : List ℕ) (t : Moves q.nodes q.olds q.news ends) where
    pub looked_up : (i : ℕ) → i < contract_count_in q.book → moved_by ends (contract_at q.book i) ≡ moved_at i
    unfolding remapped moved_by
    looked_up i h =
        let r = own.each i h in
        let c = contract_at q.book i in
        λ j. record {
          kind = c.kind;
          period = c.period;
          holder = c.holder;
          source = t.each c.source r.source-below j;
          sink = t.each c.sink r.sink-below j;
          quantity = c.quantity;
        }

    pub movable : (i : ℕ) → i < contract_count_in q.book → Movable form ends (contract_at q.book i)
    movable i h =
        let r = own.each i h in
        record {
          source_known = omega (arith, r.source-below, ok.listed.few, t.size);
          sink-known = omega (arith, r.sink-below, ok.listed.few, t.size);
          fits = rw (looked_up i h) (moved-fits i h);
        }

    pub looked_up_list : list_to (contract_count_in q.book) (λ i. moved_by ends (contract_at q.book i)) ≡ map (remapped q.olds q.news) (book_in q.book)
    looked_up_list = list_to-cong (contract_count_in q.book) _ moved_at looked_up ∙ sym moved-list
