-- A file that is cut one byte past its largest length is answered as the whole file is.
use mathlib.Core.Path.{◌≡◌, refl, sym, ap, ◌∙◌}
use mathlib.Core.Bool.{Bool, true, false}
use mathlib.Core.List.{List, [], ◌∷◌, ◌++◌}
use Prim.Native.Nat.{ℕ, ◌+◌, ◌*◌, ◌≤◌, ◌<◌}
use native.Mathlib.Omega.{arith}
use borrow.Author.Tests.{ltb-true, ltb-false, lt-ltb, le-ltb}
use lib.Dec.{ltb}
use lib.ListN.{length, take}
use lib.Seq.{take_all, length-take-le}
use Rattle.bits.specs.Bits.{field, Bytes}
use Rattle.bits.proofs.Bytes.{bytes_below}
use Rattle.bits.proofs.Fields.{field-window}
use Rattle.tariff.specs.declared.contracts.Contract.{Contract}
use Rattle.tariff.specs.declared.contracts.Period.{Period}
use Rattle.tariff.specs.declared.refusals.Refusal.{Refusal}
use Rattle.tariff.specs.declared.refusals.Refusal.TheVariants.{FileLength}
use Rattle.tariff.specs.Refusals.{Checked, passed}
use Rattle.std.specs.Prelude.{Ok, Err}
use Rattle.tariff.specs.Units.{Grid, max_constraints, max_contracts}
use Rattle.tariff.specs.Refusals.{Check, first, decided}
use Rattle.tariff.specs.Checks.{nodes_outside_of, constraint_count, contract_count}
use Rattle.tariff.proofs.Checks.{first-append, first_passes, first-refuses, passed_cons, differs}
use Rattle.layouts.specs.Files.{short_file, spare_other, file_length, file_too_long}
use Rattle.layouts.specs.declared.forms.Form.{Form}
use Rattle.layouts.specs.declared.forms.Form.TheVariants.{Narrow, Wide}
use Rattle.layouts.specs.Forms.{grid_header_bytes_of, grid_spare_of, most_nodes_of, spare_pattern_of}
use Rattle.layouts.specs.GridFile.{grid_bytes, grid_form_in, nodes_of, nodes_in, constraints_in_of, grid_spare_in}
use Rattle.layouts.proofs.FormLaws.{header-most}
use Rattle.layouts.specs.BookFile.{book_bytes_of, contract_count_in, book_spare_in, book_form_in}
use Rattle.layouts.proofs.BookFile.{book-bytes_most}
use Rattle.layouts.specs.PriceFile.{price_bytes, price_count}
use Rattle.grid_rules.specs.ReadGrid.{grid_size_checks, grid_figure_checks, capped_checks, program_bytes}
use Rattle.book_rules.specs.BookChecks.{book_checks}
use Rattle.price_rules.specs.ReadPrices.{price_file_checks}
use Rattle.text_files.specs.WithFiles.{with_grid, with_book, with_prices}

-- what a program reads of a file: one byte more than the most that it takes, `PROGRAM_GRID_BYTES`, `MAX_BOOK_BYTES` and `MAX_PRICE_BYTES` of layouts
abbrev pub grid_cut : ℕ
grid_cut = program_bytes + 1

abbrev pub book_cut : ℕ
book_cut = 7002 + 1

abbrev pub price_cut : ℕ
price_cut = 153 + 1

-- a field of the first m bytes
field_cut : (s : List ℕ) (m o w : ℕ) → Bytes s → m ≤ length s → o + w ≤ 8 * m → field (take m s) o w ≡ field s o w
unfolding field
field_cut s m o w b le in-first =
    let front : length (take m s) ≡ m = length-take-le m s le in
    let all : 0 + m ≡ m = omega arith in
    rw front (sym (rw all at (field-window s o w 0 m (bytes_below s b) (omega arith) (omega arith) (omega arith))))

-- checks that a file and its cut share, behind which the length refuses both
module _ (head : List Check) (size m : ℕ) (s : List ℕ) (most : first head ≡ passed → size < m) (long : m ≤ length s) where
  too_long : {A : Type 0} (xs ys : List Check) (f : Refusal → A) (x y : A)
      → decided (first (head ++ file_length (take m s) size ∷ xs)) f x ≡ decided (first (head ++ file_length s size ∷ ys)) f y
  too_long xs ys f x y = rw (first-append head (file_length (take m s) size ∷ xs), first-append head (file_length s size ∷ ys)) (by (first head) refl)
    where
      by : (c : Checked) → first head ≡ c
          → decided (decided c Err (first (file_length (take m s) size ∷ xs))) f x ≡ decided (decided c Err (first (file_length s size ∷ ys))) f y
      by (Err r) e = refl
      by (Ok _) e =
          let less = most e in
          rw (
            first-refuses (file_length (take m s) size) xs (differs (length (take m s)) size (λ q. omega (arith, length-take-le m s long))),
            first-refuses (file_length s size) ys (differs (length s) size (λ q. omega arith)),
          )

-- a header that is there in both
short_cut : (s : List ℕ) (m h : ℕ) → m ≤ length s → h ≤ m → ltb (length (take m s)) h ≡ ltb (length s) h
short_cut s m h le there = rw (length-take-le m s le, le-ltb m h there, le-ltb (length s) h (omega arith))

-- only a file of m bytes and more is to be looked at
cut-or_whole : {A : Type 0} (s : List ℕ) (m : ℕ) (f : List ℕ → A) → (m ≤ length s → f (take m s) ≡ f s) → f (take m s) ≡ f s
cut-or_whole {A} s m f cut = by (ltb (length s) m) refl
  where
    by : (short : Bool) → ltb (length s) m ≡ short → f (take m s) ≡ f s
    by true e = ap f (take_all m s (omega (arith, ltb-true (length s) m e)))
    by false e = cut (ltb-false (length s) m e)

-- ---- a grid's header in the first bytes

-- the checks before its length
head_checks : List ℕ → List Check
head_checks s =
    short_file s (grid_header_bytes_of (grid_form_in s))
    ∷ nodes_outside_of (most_nodes_of (grid_form_in s)) (nodes_in s)
    ∷ constraint_count (constraints_in_of s)
    ∷ spare_other (grid_spare_of (grid_form_in s)) (grid_spare_in s)
    ∷ []

module _ (s : List ℕ) (m : ℕ) (b : Bytes s) (le : m ≤ length s) (there : 4 ≤ m) where
  form-cut : grid_form_in (take m s) ≡ grid_form_in s
  unfolding grid_form_in
  form-cut = rw (field_cut s m 0 8 b le (omega arith), field_cut s m 15 1 b le (omega arith))

  nodes-cut : (f : Form) → nodes_of f (take m s) ≡ nodes_of f s
  nodes-cut Narrow = field_cut s m 0 8 b le (omega arith)
  nodes-cut Wide = field_cut s m 16 16 b le (omega arith)

  head_cut : first (head_checks (take m s)) ≡ first (head_checks s)
  unfolding head_checks
  head_cut =
      let f = grid_form_in s in
      rw (
        form-cut,
        short_cut s m (grid_header_bytes_of f) le (omega (arith, header-most f)),
        nodes-cut f,
        field_cut s m 8 7 b le (omega arith),
        field_cut s m 15 1 b le (omega arith),
      )

-- a file that is too long is refused by its length, right or not
capped-long : (s : List ℕ) → program_bytes < length s → first (capped_checks program_bytes s) ≡ decided (first (head_checks s)) Err (Err FileLength)
unfolding capped_checks grid_size_checks head_checks
capped-long s long = first-append (head_checks s) behind ∙ ap (decided (first (head_checks s)) Err) length-refuses
  where
    own : Check
    own = file_length s (grid_bytes (grid_form_in s) (nodes_in s) (constraints_in_of s))

    behind : List Check
    behind = own ∷ file_too_long s program_bytes ∷ grid_figure_checks s

    by : (b : Bool) → own.fails ≡ b → first behind ≡ Err FileLength
    by true e = first-refuses own _ e
    by false e = first_passes own _ e ∙ first-refuses (file_too_long s program_bytes) _ (lt-ltb program_bytes (length s) long)

    length-refuses : first behind ≡ Err FileLength
    length-refuses = by own.fails refl

-- ---- the three files

module _ (s : List ℕ) (m : ℕ) (b : Bytes s) where
  pub cut-grid : grid_cut ≤ m → (text : Grid → List ℕ) → with_grid (take m s) text ≡ with_grid s text
  unfolding with_grid
  cut-grid most text = cut-or_whole s m (λ x. with_grid x text) cut
    where
      refused : (c : Checked) (f : Refusal → List ℕ) (x y : List ℕ)
          → decided (decided c Err (Err FileLength)) f x ≡ decided (decided c Err (Err FileLength)) f y
      refused (Ok _) f x y = refl
      refused (Err r) f x y = refl

      cut : m ≤ length s → with_grid (take m s) text ≡ with_grid s text
      cut long =
          rw (capped-long (take m s) (omega (arith, length-take-le m s long)), capped-long s (omega arith), head_cut s m b long (omega arith))
          (refused (first (head_checks s)) _ _ _)

  pub cut-book : book_cut ≤ m → (n : ℕ) (text : List Contract → List ℕ) → with_book n (take m s) text ≡ with_book n s text
  unfolding with_book book_checks book_form_in
  cut-book most n text = cut-or_whole s m (λ x. with_book n x text) cut
    where
      head : List Check
      head = short_file s 2 ∷ contract_count (contract_count_in s) ∷ spare_other (spare_pattern_of (book_form_in s)) (book_spare_in s) ∷ []

      size : first head ≡ passed → book_bytes_of (book_form_in s) (contract_count_in s) < m
      size e =
          let few : contract_count_in s ≤ max_contracts = ltb-false max_contracts (contract_count_in s) (passed_cons _ _ (passed_cons _ _ e).1).0 in
          omega (arith, book-bytes_most (book_form_in s) (contract_count_in s) few)

      cut : m ≤ length s → with_book n (take m s) text ≡ with_book n s text
      cut long =
          rw (short_cut s m 2 long (omega arith), field_cut s m 0 10 b long (omega arith), field_cut s m 10 6 b long (omega arith))
          (too_long head (book_bytes_of (book_form_in s) (contract_count_in s)) m s size long _ _ _ _ _)

  pub cut-prices : price_cut ≤ m → (k : ℕ) (text : Period → List ℕ → List ℕ) → with_prices k (take m s) text ≡ with_prices k s text
  unfolding with_prices price_file_checks
  cut-prices most k text = cut-or_whole s m (λ x. with_prices k x text) cut
    where
      head : List Check
      head = constraint_count k ∷ short_file s 1 ∷ price_count s k ∷ []

      size : first head ≡ passed → price_bytes k < m
      size e = omega (arith, ltb-false max_constraints k (passed_cons _ _ e).0)

      cut : m ≤ length s → with_prices k (take m s) text ≡ with_prices k s text
      cut long =
          rw (short_cut s m 1 long (omega arith), field_cut s m 1 7 b long (omega arith))
          (too_long head (price_bytes k) m s size long _ _ _ _ _)
