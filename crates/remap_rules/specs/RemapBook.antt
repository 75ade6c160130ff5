-- Remapping a book (document 02, papers 6 and 9): "apply a list of old and new node numbers to a book, one pair after another".
use Rattle.std.specs.Prelude.{not, cond, List, [], ◌∷◌, ◌++◌, map, ℕ, eqb, length}
use Rattle.lists.specs.Lent.{Lent, before, after}
use Rattle.tariff.specs.declared.contracts.Contract.{Contract}
use Rattle.tariff.specs.Refusals.{Checked}
use Rattle.tariff.specs.declared.refusals.Refusal.TheVariants.{ShortTable}
use Rattle.tariff.specs.Refusals.{Check, first}
use Rattle.tariff.specs.Checks.{node_count, short_table, listed_nodes}
use Rattle.layouts.specs.Writing.{WriteAnswer}
use Rattle.layouts.specs.Forms.{ends_below_of}
use Rattle.layouts.specs.BookFile.{book_bytes_of, book_file, contract_count_in, book_form_in, book_in}
use Rattle.layouts.specs.Writing.{Writes, WritesForC}
use Rattle.book_rules.specs.BookChecks.{book_checks}

-- where an end goes: each pair acts on what those before it made
unfoldable pub moved_end : List ℕ → List ℕ → ℕ → ℕ
moved_end [] news end = end
moved_end (old ∷ olds) [] end = end
moved_end (old ∷ olds) (new ∷ news) end = moved_end olds news (cond (eqb end old) new end)

-- both ends moved, all else kept
unfoldable pub remapped : List ℕ → List ℕ → Contract → Contract
remapped olds news c =
    record {
      kind = c.kind;
      period = c.period;
      holder = c.holder;
      source = moved_end olds news c.source;
      sink = moved_end olds news c.sink;
      quantity = c.quantity;
    }

-- 9: "for unequal lists too"
abbrev pub unequal_lists : List ℕ → List ℕ → Check
unequal_lists olds news = record { fails = not (eqb (length olds) (length news)); refusal = ShortTable }

-- the node count, the book's bytes, the two lists, and the place for the new book's bytes as it is at entry
pub record RemapBookCall : Type 0 where
  pub nodes : ℕ
  pub book : List ℕ
  pub olds : List ℕ
  pub news : List ℕ
  pub place : List ℕ

abbrev pub remap_book_call : ℕ → List ℕ → List ℕ → List ℕ → List ℕ → RemapBookCall
remap_book_call n book olds news place = record { nodes = n; book = book; olds = olds; news = news; place = place }

module _ (q : RemapBookCall) where
  -- "after the book's own checks a listed number not below the node count draws 11, then 9, for unequal lists too"; "a narrow book's writer refuses an end
  -- above 255 by 11, as its remapping does a new number"
  unfoldable pub remap_book_checks : List Check
  remap_book_checks =
      node_count q.nodes
      ∷ book_checks q.nodes q.book
      ++ listed_nodes q.nodes q.olds
      ∷ listed_nodes (ends_below_of (book_form_in q.book) q.nodes) q.news
      ∷ unequal_lists q.olds q.news
      ∷ short_table (length q.place) (book_bytes_of (book_form_in q.book) (contract_count_in q.book))
      ∷ []

  abbrev pub remap_book_checked : Checked
  remap_book_checked = first remap_book_checks

  -- the file written: the same contracts in their order, with their ends moved; "a book made from a book keeps its form"
  abbrev pub book_remapped : List ℕ
  book_remapped = book_file (book_form_in q.book) (map (remapped q.olds q.news) (book_in q.book))

-- the promise: the answer, and the place at exit
abbrev pub RemapsBook : RemapBookCall → WriteAnswer → List ℕ → Type 0
RemapsBook q answer exit = Writes (remap_book_checked q) (book_remapped q) q.place answer exit

abbrev pub RemapsBookForC : RemapBookCall → ℕ → List ℕ → Lent ℕ → Type 0
RemapsBookForC q number exit bytes = WritesForC (remap_book_checked q) (book_remapped q) q.place (before bytes) number exit (after bytes)
