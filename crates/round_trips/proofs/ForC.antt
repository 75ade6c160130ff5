-- The round trips for C, from the entries': what a C function leaves is what its entry leaves with some answer.
use mathlib.Core.Path.{◌≡◌, refl, sym, ap, subst, ◌∙◌}
use mathlib.Core.List.{List, [], ◌∷◌}
use Prim.Native.Nat.{ℕ}
use native.Mathlib.Omega.{arith}
use lib.ListN.{length}
use lib.IntN.{ℤ, pos}
use Rattle.lists.specs.Lent.{Lent, before, after}
use Rattle.tariff.specs.declared.refusals.Refusal.{Refusal}
use Rattle.tariff.specs.Refusals.{Checked}
use Rattle.std.specs.Prelude.{Ok, Err}
use Rattle.tariff.specs.Refusals.{given, answered, number_after}
use Rattle.tariff.specs.ContractRules.{period_of}
use Rattle.tariff.proofs.Answers.{never_given, none-refused, figure-is}
use Rattle.layouts.specs.Writing.{WriteAnswer}
use Rattle.layouts.specs.Forms.{form_number, form_of}
use Rattle.layouts.specs.BookFile.{contract_count_in, book_form_in}
use Rattle.layouts.specs.GridFile.{grid_form_in, nodes_in, constraints_in_of}
use Rattle.layouts.specs.PriceFile.{period_in}
use Rattle.layouts.specs.Writing.{Writes, WritesForC, IsWritten}
use Rattle.layouts.proofs.FormLaws.{form-of_number}
use Rattle.layouts.proofs.Writing.{one_given, written-by}
use Rattle.grid_rules.specs.declared.GridRead.{GridRead}
use Rattle.book_rules.specs.declared.BookRead.{BookRead}
use Rattle.grid_rules.specs.ReadGrid.{GridAnswer, grid_read}
use Rattle.grid_rules.specs.ReadGrid.{ReadGridCall, read_grid_checked, grid_values, ReadsGrid, ReadsGridForC}
use Rattle.book_rules.specs.ReadBook.{BookAnswer, book_read}
use Rattle.book_rules.specs.ReadBook.{ReadBookCall, read_book_checked, book_values, ReadsBook, ReadsBookForC}
use Rattle.price_rules.specs.ReadPrices.{PriceAnswer}
use Rattle.price_rules.specs.ReadPrices.{ReadPricesCall, read_prices_checked, period_number, ReadsPrices, ReadsPricesForC}
use Rattle.price_rules.specs.WritePrices.{write_prices_call, WritesPrices}
use Rattle.price_rules.proofs.PriceLaws.{number-of_period}
use Rattle.bits.proofs.Fields.{field_lt}
use Rattle.round_trips.specs.Trips.{GridIs, BookIs, PricesAre}
use Rattle.round_trips.specs.ForC.{WrittenForC, GridForC, BookForC, PricesForC, RoundTripsForC}
use Rattle.round_trips.proofs.Grids.{grid-rewritten, grid-reread}
use Rattle.round_trips.proofs.Books.{book-rewritten, book-reread}
use Rattle.round_trips.proofs.Prices.{prices-rewritten, prices-reread}

-- whatever the entry answers, the file is written: so for C
written-for_c : (c : Checked) (file place s : List ℕ) (number : ℕ) (exit : List ℕ) (bytes : Lent ℕ) → WritesForC c file place (before bytes) number exit
    (after bytes)
    → ((a : WriteAnswer) → Writes c file place a exit → IsWritten s place a exit) → WrittenForC s place number exit bytes
written-for_c (Ok _) file place s number exit bytes w h =
    let r = h (Ok (length file)) (record { length-given = refl; bytes-written = w.bytes-written }) in
    let told : Ok (length file) ≡ Ok (length s) = r.length-is in
    let size : length file ≡ length s = cc in
    record { number-0 = w.refusal-number; length-is = w.length-given ∙ size; bytes-are = r.bytes-are }
written-for_c (Err q) file place s number exit bytes w h =
    let told : Err q ≡ Ok (length s) = (h (Err q) (record { length-given = refl; bytes-written = w.bytes-written })).length-is in
    absurd (never told)
  where
    never : {r : Refusal} {n : ℕ} → Err r ≡ Ok n → ⊥
    never e = let z : ◌≡◌ {A = ℕ} 0 1 = cc in omega arith

-- ---- the readers that answered 0, as their entries

grid-by : (q : ReadGridCall) (ls : List ℕ) (fs : List ℤ) (nodes constraints form : Lent ℕ) → ReadsGridForC q 0 ls fs nodes constraints form
    → ReadsGrid q (grid_read (after nodes) (after constraints) (form_of (after form))) ls fs
grid-by q ls fs nodes constraints form h =
    let ok = none-refused (read_grid_checked q) h.refusal-number in
    let n = figure-is (read_grid_checked q) ok _ _ _ h.nodes-given in
    let k = figure-is (read_grid_checked q) ok _ _ _ h.constraints-given in
    let f = ap form_number (ap form_of (figure-is (read_grid_checked q) ok _ _ _ h.form-given) ∙ form-of_number (grid_form_in q.file)) in
    record {
      values-given = (λ i. given (pos (n i) ∷ pos (k i) ∷ pos (f i) ∷ [])) ∙ sym (ap (λ (c : Checked). answered c (grid_values q)) ok);
      limits-read = h.limits-read;
      factors-read = h.factors-read;
    }

book-by : (q : ReadBookCall) (table : List ℕ) (contracts form : Lent ℕ) → ReadsBookForC q 0 table contracts form
    → ReadsBook q (book_read (after contracts) (form_of (after form))) table
book-by q table contracts form h =
    let ok = none-refused (read_book_checked q) h.refusal-number in
    let m = figure-is (read_book_checked q) ok _ _ _ h.count-given in
    let f = ap form_number (ap form_of (figure-is (read_book_checked q) ok _ _ _ h.form-given) ∙ form-of_number (book_form_in q.file)) in
    record {
      values-given = (λ i. given (pos (m i) ∷ pos (f i) ∷ [])) ∙ sym (ap (λ (c : Checked). answered c (book_values q)) ok);
      contracts-read = h.contracts-read;
    }

-- a file's period is the number of one
period_is : (q : ReadPricesCall) → period_number (period_of (period_in q.file)) ≡ period_in q.file
period_is q = number-of_period (period_in q.file) (field_lt q.file 0 1)

told-period : (q : ReadPricesCall) (table : List ℕ) (period : Lent ℕ) → ReadsPricesForC q 0 table period → period_number (period_of (after period)) ≡ after period
told-period q table period h =
    let t = figure-is (read_prices_checked q) (none-refused (read_prices_checked q) h.refusal-number) _ _ _ h.period-given in
    rw t (period_is q)

prices-by : (q : ReadPricesCall) (table : List ℕ) (period : Lent ℕ) → ReadsPricesForC q 0 table period → ReadsPrices q (Ok (period_of (after period))) table
prices-by q table period h =
    let ok = none-refused (read_prices_checked q) h.refusal-number in
    let t = told-period q table period h ∙ figure-is (read_prices_checked q) ok _ _ _ h.period-given in
    record {
      period-given = (λ i. given (pos (t i) ∷ [])) ∙ sym (ap (λ (c : Checked). answered c (pos (period_in q.file) ∷ [])) ok);
      prices-read = h.prices-read;
    }

-- ---- whatever the entry answers, it gives what was written: so for C

-- equal answers have equal figures
same_grid : (x y : GridRead) → ◌≡◌ {A = GridAnswer} (Ok x) (Ok y) → (x.nodes ≡ y.nodes) × (x.constraints ≡ y.constraints) × (x.form ≡ y.form)
same_grid x y e = let same : x ≡ y = cc in (λ i. (same i).nodes, λ i. (same i).constraints, λ i. (same i).form)

same_book : (x y : BookRead) → ◌≡◌ {A = BookAnswer} (Ok x) (Ok y) → (x.contracts ≡ y.contracts) × (x.form ≡ y.form)
same_book x y e = let same : x ≡ y = cc in (λ i. (same i).contracts, λ i. (same i).form)

module _ (q : ReadGridCall) (number : ℕ) (ls : List ℕ) (fs : List ℤ) (nodes constraints told : Lent ℕ) (r : ReadsGridForC q number ls fs nodes constraints told)
    (form n k : ℕ) (limits : List ℕ) (factors : List ℤ) (ls₀ : List ℕ) (fs₀ : List ℤ)
    (h : (a : GridAnswer) → ReadsGrid q a ls fs → GridIs (form_of form) n k limits factors ls₀ fs₀ a ls fs) where
  grid-for_c : (c : Checked) → read_grid_checked q ≡ c → GridForC form n k limits factors ls₀ fs₀ number ls fs nodes constraints told
  grid-for_c (Ok _) e =
      let g = h (grid_read (nodes_in q.file) (constraints_in_of q.file) (grid_form_in q.file))
      (record { values-given = sym (ap (λ (c : Checked). answered c (grid_values q)) e); limits-read = r.limits-read; factors-read = r.factors-read }) in
      let are = same_grid _ _ g.counts-are in
      record {
        number-0 = r.refusal-number ∙ ap number_after e;
        nodes-are = figure-is (read_grid_checked q) e _ _ _ r.nodes-given ∙ are.0;
        constraints-are = figure-is (read_grid_checked q) e _ _ _ r.constraints-given ∙ are.1;
        form-is = figure-is (read_grid_checked q) e _ _ _ r.form-given ∙ ap form_number are.2;
        limits-are = g.limits-are;
        factors-are = g.factors-are;
      }
  grid-for_c (Err x) e =
      let g = h (Err x) (record {
        values-given = sym
            (ap (λ (c : Checked). answered c (grid_values q)) e);
        limits-read = r.limits-read;
        factors-read = r.factors-read;
      }) in
      let are : Err x ≡ grid_read n k (form_of form) = g.counts-are in
      let z : ◌≡◌ {A = ℕ} 0 1 = cc in
      absurd (omega arith)

module _ (q : ReadBookCall) (number : ℕ) (table : List ℕ) (contracts told : Lent ℕ) (r : ReadsBookForC q number table contracts told)
    (form m : ℕ) (rows entry : List ℕ) (h : (a : BookAnswer) → ReadsBook q a table → BookIs (form_of form) m rows entry a table) where
  book-for_c : (c : Checked) → read_book_checked q ≡ c → BookForC form m rows entry number table contracts told
  book-for_c (Ok _) e =
      let b = h (book_read (contract_count_in q.file) (book_form_in q.file))
      (record { values-given = sym (ap (λ (c : Checked). answered c (book_values q)) e); contracts-read = r.contracts-read }) in
      let are = same_book _ _ b.count-is in
      record {
        number-0 = r.refusal-number ∙ ap number_after e;
        count-is = figure-is (read_book_checked q) e _ _ _ r.count-given ∙ are.0;
        form-is = figure-is (read_book_checked q) e _ _ _ r.form-given ∙ ap form_number are.1;
        rows_are = b.rows_are;
      }
  book-for_c (Err x) e =
      let are : Err x ≡ book_read m (form_of form)
      = (h (Err x) (record { values-given = sym (ap (λ (c : Checked). answered c (book_values q)) e); contracts-read = r.contracts-read })).count-is in
      let z : ◌≡◌ {A = ℕ} 0 1 = cc in
      absurd (omega arith)

module _ (q : ReadPricesCall) (number : ℕ) (table : List ℕ) (period : Lent ℕ) (r : ReadsPricesForC q number table period) (t k : ℕ) (list entry : List ℕ)
    (h : (a : PriceAnswer) → ReadsPrices q a table → PricesAre t k list entry a table) where
  prices-for_c : (c : Checked) → read_prices_checked q ≡ c → PricesForC t k list entry number table period
  prices-for_c (Ok _) e =
      let is = period_is q in
      let p = h (Ok (period_of (period_in q.file)))
      (record {
        period-given = (λ i. given (pos (is i) ∷ [])) ∙ sym (ap (λ (c : Checked). answered c (pos (period_in q.file) ∷ [])) e);
        prices-read = r.prices-read;
      }) in
      record {
        number-0 = r.refusal-number ∙ ap number_after e;
        period-is = figure-is (read_prices_checked q) e _ _ _ r.period-given ∙ sym is ∙ one_given _ t p.period-is;
        prices-are = p.prices-are;
      }
  prices-for_c (Err x) e =
      absurd (never_given x (pos t ∷ []) (h (Err x) (record {
        period-given = sym
            (ap (λ (c : Checked). answered c (pos (period_in q.file) ∷ [])) e);
        prices-read = r.prices-read;
      })).period-is)

pub round_trips_for_c : RoundTripsForC
round_trips_for_c =
    record {
      crr_grid_read_then_written = λ s ls₀ fs₀ bytes ls fs nodes constraints form h place room number exit length-cell w.
          written-for_c _ _ place s number exit length-cell w
          (λ a. grid-rewritten s ls₀ fs₀ bytes _ _ _ ls fs (grid-by _ ls fs nodes constraints form h) place room a exit);
      crr_book_read_then_written = λ n s entry bytes table contracts form h place room number exit length-cell w.
          written-for_c _ _ place s number exit length-cell w (λ a. book-rewritten n s entry bytes _ _ table (book-by _ table contracts form h) place room a exit);
      crr_prices_read_then_written = λ k s entry bytes table period h place room number exit length-cell w.
          written-for_c _ _ place s number exit length-cell w
          (λ a v. prices-rewritten k s entry bytes _ table (prices-by _ table period h) place room a exit
          (subst (λ t. WritesPrices (write_prices_call t k table place) a exit) (sym (told-period _ table period h)) v));
      crr_grid_written_then_read = λ form n k limits factors place exit bytes w ls₀ fs₀ cells places number ls fs nodes constraints told r.
          grid-for_c _ number ls fs nodes constraints told r form n k limits factors ls₀ fs₀
          (λ a. grid-reread (form_of form) n k limits factors place (after bytes) exit
          (written-by _ _ place (before bytes) exit (after bytes) w) ls₀ fs₀ cells places a ls fs)
          _ refl;
      crr_book_written_then_read = λ form n m rows place exit bytes w entry room number table contracts told r.
          book-for_c _ number table contracts told r form m rows entry
          (λ a. book-reread (form_of form) n m rows place (after bytes) exit (written-by _ _ place (before bytes) exit (after bytes) w) entry room a table) _ refl;
      crr_prices_written_then_read = λ t k list place exit bytes w entry room number table period r.
          prices-for_c _ number table period r t k list entry
          (λ a. prices-reread t k list place (after bytes) exit (written-by _ _ place (before bytes) exit (after bytes) w) entry room a table) _ refl;
    }
