-- What settling gives fits its places in the lines, and the lines by tables of cents and of sets are the hour's.
use mathlib.Core.Path.{◌≡◌, refl, sym, ap, ap₂, ◌∙◌}
use mathlib.Core.Bool.{Bool, true, false, cond}
use mathlib.Core.List.{List, [], ◌∷◌, ◌++◌, map, append_assoc, append-nil}
use Prim.Native.Nat.{ℕ, zero, suc, ◌+◌, ◌≤◌, ◌<◌}
use native.Mathlib.Omega.{arith}
use lib.Count.{ones}
use lib.ListN.{length, get_or, take, get_or-append}
use lib.IntN.{ℤ, pos}
use Rattle.lists.specs.Lists.{list_to}
use Rattle.tariff.specs.declared.contracts.Contract.{Contract}
use Rattle.tariff.specs.declared.contracts.Period.{Period}
use Rattle.tariff.specs.Units.{Factors, factors_of, max_contracts}
use Rattle.tariff.specs.ContractRules.{same_period}
use Rattle.tariff.specs.Settlement.{amount, priced_set_of, priced_count, cents, whole_cents, parts}
use Rattle.tariff.proofs.Theorems.{priced-size_is_ones}
use Rattle.lists.proofs.Lists.{length-list_to, get_d_list_to, map-list_to}
use Rattle.layouts.specs.BookFile.{contract_count_in, contract_at, book_in}
use Rattle.hour_rules.specs.declared.Totals.{Totals}
use Rattle.hour_rules.specs.SettleHour.{cents_of, priced_of, cents_sum, hour_total}
use Rattle.hour_rules.specs.Inner.{Settles}
use Rattle.hour_rules.proofs.HourSums.{values-are}
use Rattle.text_statement_lines.specs.Lines.{heading, contract_line, line_of, sum_line, exact_line, contract_lines, lines}
use Rattle.text_statement_lines.specs.Sized.{SizedCells}
use Rattle.text_statement_lines.specs.Inner.{lines_to}

-- ---- one contract more at the end

module _ (f : Factors) (p : List ℕ) (t : Period) where
  -- contract i's line
  abbrev line_at : ℕ → Contract → List ℕ
  line_at i c = line_of t i c (cents (amount f p c)) (priced_count f p c)

  lines-last : (i : ℕ) (xs : List Contract) (c : Contract) → contract_lines f p t i (xs ++ c ∷ []) ≡ contract_lines f p t i xs ++ line_at (i + length xs) c
  unfolding contract_lines
  lines-last i [] c = append-nil (line_at i c) ∙ ap (λ (j : ℕ). line_at j c) {x = i} {y = i + 0} (omega arith)
  lines-last i (x ∷ xs) c =
      ap (λ (l : List ℕ). line_at i x ++ l) (lines-last (suc i) xs c)
      ∙ sym (append_assoc (line_at i x) (contract_lines f p t (suc i) xs) (line_at (suc i + length xs) c))
      ∙ ap (λ (j : ℕ). line_at i x ++ contract_lines f p t (suc i) xs ++ line_at j c) {x = suc i + length xs} {y = i + suc (length xs)} (omega arith)

  -- cells of cents and of sets are the contract's wherever it has a line
  line-by_cell : (i : ℕ) (c : Contract) (z : ℤ) (s : ℕ) → z ≡ cents_of f p t c → s ≡ priced_of f p t c → line_of t i c z (ones s) ≡ line_at i c
  unfolding line_of cents_of priced_of
  line-by_cell i c z s e d = rw (e, d) (by (same_period c.period t))
    where
      by : (b : Bool) → cond b (contract_line i c (cond b (cents (amount f p c)) (pos 0)) (ones (cond b (priced_set_of f p c) 0))) []
          ≡ cond b (contract_line i c (cents (amount f p c)) (priced_count f p c)) []
      by true = ap (contract_line i c (cents (amount f p c))) (priced-size_is_ones f p c)
      by false = refl

  lines-by_cells : (at : ℕ → Contract) (cells : List ℤ) (sets : List ℕ) (m : ℕ) → ((i : ℕ) → i < m → get_or cells i (pos 0) ≡ cents_of f p t (at i))
      → ((i : ℕ) → i < m → get_or sets i 0 ≡ priced_of f p t (at i)) → lines_to t at cells sets m ≡ contract_lines f p t 0 (list_to m at)
  unfolding lines_to list_to contract_lines
  lines-by_cells at cells sets zero h g = refl
  lines-by_cells at cells sets (suc m) h g =
      ap₂ ◌++◌ (lines-by_cells at cells sets m (λ i b. h i (omega arith)) (λ i b. g i (omega arith)))
      (line-by_cell m (at m) (get_or cells m (pos 0)) (get_or sets m 0) (h m (omega arith)) (g m (omega arith)))
      ∙ ap (λ (j : ℕ). contract_lines f p t 0 (list_to m at) ++ line_at j (at m)) {x = m} {y = 0 + length (list_to m at)} (omega (arith, length-list_to m at))
      ∙ sym (lines-last 0 (list_to m at) (at m))

-- a cell whose table begins with the values of all contracts
cell_is : {A : Type 0} (g : Contract → A) (at : ℕ → Contract) (cells rest : List A) (m : ℕ) (d : A) → cells ≡ map g (list_to m at) ++ rest → (i : ℕ) → i < m → get_or cells i d ≡ g (at i)
cell_is g at cells rest m d e i b =
    rw (e, map-list_to m at g) (get_or-append (list_to m (λ j. g (at j))) rest d i (rw (length-list_to m (λ j. g (at j))) b) ∙ get_d_list_to m (λ j. g (at j)) i d b)

-- ---- a book as it was settled

module _ {n k : ℕ} {t : Period} {fs : List ℤ} {ps book : List ℕ} {entry exit : List ℤ} {sets handed : List ℕ} {r : Totals} (s : Settles n k t fs ps book entry exit sets handed r) where
  pub settled_sized : contract_count_in book ≤ max_contracts → contract_count_in book ≤ length exit → contract_count_in book ≤ length handed
      → SizedCells (contract_count_in book) exit handed
  settled_sized few cells sets = record { few = few; cells-long = cells; sets-long = sets; cells-sized = s.cells-sized; sets-sized = s.priced-sized }

  pub settled_lines : lines (factors_of n k fs) (take k ps) t (book_in book)
      ≡ heading ++ lines_to t (contract_at book) exit handed (contract_count_in book) ++ sum_line r.sum ++ exact_line r.whole r.parts
  unfolding lines
  settled_lines =
      let f = factors_of n k fs in
      let p = take k ps in
      let total = hour_total f p t (book_in book) in
      let values = values-are f p t (book_in book) r s.bounded.parts-small s.sum s.exact in
      let sum : r.sum ≡ cents_sum f p t (book_in book) = s.sum in
      let whole : r.whole ≡ whole_cents total = cc in
      let part : r.parts ≡ parts total = cc in
      let cents-are = cell_is (cents_of f p t) (contract_at book) exit _ (contract_count_in book) (pos 0) s.cells in
      let sets-are = cell_is (priced_of f p t) (contract_at book) handed _ (contract_count_in book) 0 s.priced in
      let each = lines-by_cells f p t (contract_at book) exit handed (contract_count_in book) cents-are sets-are in
      sym (λ j. heading ++ each j ++ sum_line (sum j) ++ exact_line (whole j) (part j))
