-- THE THEOREMS of remapping (document 02, paper 6), each for every call that the checks accept. What they stand on is in Accepted.antt and Moving.antt.
use mathlib.Core.Path.{◌≡◌, refl, sym, ap, ◌∙◌}
use mathlib.Core.List.{List, [], ◌++◌, map, map-id, map-map}
use Prim.Native.Nat.{ℕ}
use lib.ListN.{length}
use Rattle.bits.proofs.Bytes.{bytes_below}
use Rattle.bits.specs.Bits.{Bytes}
use Rattle.tariff.specs.declared.contracts.Contract.{Contract}
use Rattle.tariff.specs.Refusals.{passed}
use Rattle.tariff.specs.Refusals.{first}
use Rattle.layouts.specs.declared.forms.Form.{Form}
use Rattle.layouts.specs.BookFile.{book_file, book_form_in, book_in}
use Rattle.layouts.proofs.BookFile.{book-read}
use Rattle.book_rules.specs.BookChecks.{book_checks}
use Rattle.book_rules.proofs.Accepted.{book-accepted}
use Rattle.remap_rules.specs.RemapBook.{moved_end, remapped, RemapBookCall, remap_book_call, remap_book_checked, book_remapped}
use Rattle.remap_rules.proofs.Moving.{moved-append}
use Rattle.remap_rules.proofs.Accepted.{remappable, book-remade, length-remade}
use Rattle.remap_rules.specs.Theorems.{RemapKept}

pub remap_keeps : (olds news : List ℕ) (c : Contract) → RemapKept c (remapped olds news c)
unfolding remapped
remap_keeps olds news c = record { kind = refl; period = refl; holder = refl; quantity = refl }

module _ (q : RemapBookCall) (pass : remap_book_checked q ≡ passed) where
  -- the new book is accepted for the same node count, and is as long
  pub remap_is_accepted : first (book_checks q.nodes (book_remapped q)) ≡ passed
  remap_is_accepted = (book-remade q (remappable q pass)).accepted

  pub remap_keeps_length : length (book_remapped q) ≡ length q.book
  remap_keeps_length = length-remade q (remappable q pass)

  -- "a book made from a book keeps its form"
  pub remap_keeps_form : book_form_in (book_remapped q) ≡ book_form_in q.book
  remap_keeps_form = (book-remade q (remappable q pass)).form

  -- its contracts are those of the book given, in their order, with their ends moved
  pub remap_contracts : book_in (book_remapped q) ≡ map (remapped q.olds q.news) (book_in q.book)
  remap_contracts = (book-remade q (remappable q pass)).contracts

-- no pairs change nothing: the book's own bytes
pub remap_none : (n : ℕ) (s place : List ℕ) → Bytes s → remap_book_checked (remap_book_call n s [] [] place) ≡ passed → book_remapped (remap_book_call n s [] [] place) ≡ s
unfolding moved_end remapped
remap_none n s place b pass =
    let own = book-accepted n s (remappable (remap_book_call n s [] [] place) pass).accepted in
    ap (book_file (book_form_in s)) (map-id (book_in s)) ∙ book-read s (bytes_below s b) own.size own.spare

-- pairs behind pairs: one pair after another, so the first list's, then the second's
two_lists : (xs us ys vs : List ℕ) → length xs ≡ length us → remapped (xs ++ ys) (us ++ vs) ≡ (λ (c : Contract). remapped ys vs (remapped xs us c))
unfolding remapped
two_lists xs us ys vs same =
    λ t c. record {
      kind = c.kind;
      period = c.period;
      holder = c.holder;
      source = moved-append xs us ys vs c.source same t;
      sink = moved-append xs us ys vs c.sink same t;
      quantity = c.quantity;
    }

pub remap_append : (n : ℕ) (s xs us ys vs place : List ℕ) → remap_book_checked (remap_book_call n s xs us place) ≡ passed
    → book_remapped (remap_book_call n s (xs ++ ys) (us ++ vs) place) ≡ book_remapped (remap_book_call n (book_remapped (remap_book_call n s xs us place)) ys vs place)
remap_append n s xs us ys vs place pass =
    let q = remap_book_call n s xs us place in
    ap (λ (f : Contract → Contract). book_file (book_form_in s) (map f (book_in s))) (two_lists xs us ys vs (remappable q pass).listed.pairs)
    ∙ ap (book_file (book_form_in s)) (sym (map-map (remapped ys vs) (remapped xs us) (book_in s)) ∙ ap (map (remapped ys vs)) (sym (remap_contracts q pass)))
    ∙ ap (λ (f : Form). book_file f (map (remapped ys vs) (book_in (book_remapped q)))) (sym (remap_keeps_form q pass))
