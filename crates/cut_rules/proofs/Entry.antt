-- The entry: the checks in parts, the rows taken apart into cells, and the rows that stand in the tables then.
use mathlib.Core.Path.{◌≡◌, refl, sym, ap, ap₂, ◌∙◌, subst}
use mathlib.Core.List.{List, [], ◌∷◌, map}
use Prim.Native.Nat.{ℕ, ◌/◌, ◌%◌, ◌≤◌, ◌<◌}
use native.Mathlib.Omega.{arith}
use lib.ListN.{length, get_or, take, length-map, get_or-map}
use lib.Seq.{length-take-le}
use lib.IntN.{pos}
use Rattle.lists.specs.Lists.{list_to}
use Rattle.lists.specs.Lent.{Lent, before, after, overwrite}
use Rattle.lists.proofs.Lists.{length-list_to, list_to-is, map-list_to, take-is_list_to}
use Rattle.lists.proofs.Fronts.{front_at}
use Rattle.tariff.specs.declared.refusals.Refusal.{Refusal}
use Rattle.tariff.specs.Refusals.{Checked, passed}
use Rattle.std.specs.Prelude.{Err}
use Rattle.tariff.specs.Refusals.{first, answered, cells_after}
use Rattle.tariff.proofs.Answers.{answer-refused, cells-refused}
use Rattle.tariff.specs.Units.{max_contracts}
use Rattle.tariff.proofs.Checks.{append_refuses, append_passes}
use Rattle.layouts.specs.BookFile.{book_in, contract_count_in, contract_at}
use Rattle.test_rules.specs.TestBook.{TestCall, test_checks, test_checked, tested_grid, tested_process}
use Rattle.cut_rules.specs.Cuts.{CutRow}
use Rattle.cut_rules.specs.Theorems.{LeastCuts}
use Rattle.cut_rules.specs.Inner.{row_key}
use Rattle.cut_rules.proofs.Keys.{Few, few-rows, key_numbers, key_cuts}
use Rattle.cut_rules.proofs.Theorems.{least-cuts}
use Rattle.cut_rules.specs.FindCuts.{CutsAnswer}
use Rattle.cut_rules.specs.FindCuts.{CutsCall, cuts_call, cuts_outcome, cut_rows_in, tested_period, listed_rows, cut_room_checks, find_cuts_checks, find_cuts_checked}
use Rattle.cut_rules.specs.FindCuts.{number_cells, cut_cells_of, HoldLeastCuts, FindsCuts}

-- ---- the checks: x is what the test's found
module _ (q : CutsCall) (x : Checked) (found : x ≡ test_checked q.test) where
  pub test-refuses : (r : Refusal) → x ≡ Err r → Err r ≡ find_cuts_checked q
  unfolding find_cuts_checks
  test-refuses r told = sym (append_refuses (test_checks q.test) (cut_room_checks q) r (sym found ∙ told))

  pub then_room : x ≡ passed → find_cuts_checked q ≡ first (cut_room_checks q)
  unfolding find_cuts_checks
  then_room told = append_passes (test_checks q.test) (cut_room_checks q) (sym found ∙ told)

-- ---- keys taken apart

pub few-listed : (q : CutsCall) → contract_count_in q.test.book ≤ max_contracts → Few (listed_rows q)
few-listed q h =
    few-rows (tested_grid q.test) (tested_process q.test) (tested_period q) (book_in q.test.book)
    (omega (arith, length-list_to (contract_count_in q.test.book) (contract_at q.test.book)))

module _ (rows : List CutRow) (few : Few rows) (keys : List ℕ) (listed : ℕ) (long : listed ≤ length keys) (are : take listed keys ≡ map row_key rows) where
  pub how_many : listed ≡ length rows
  how_many = sym (length-take-le listed keys long) ∙ ap length are ∙ length-map rows row_key

  apart : (f : ℕ → ℕ) → list_to listed (λ (j : ℕ). f (get_or keys j 0)) ≡ map f (map row_key rows)
  apart f = sym (map-list_to listed (λ (j : ℕ). get_or keys j 0) f) ∙ ap (map f) (sym (take-is_list_to listed keys 0 long) ∙ are)

  pub number-cells : list_to listed (λ (j : ℕ). get_or keys j 0 % 1024) ≡ map (λ (r : CutRow). r.number) rows
  number-cells = apart (λ (x : ℕ). x % 1024) ∙ key_numbers rows few

  pub cut_cells : list_to listed (λ (j : ℕ). get_or keys j 0 / 1024) ≡ map (λ (r : CutRow). r.cut) rows
  cut_cells = apart (λ (x : ℕ). x / 1024) ∙ key_cuts rows few

-- ---- the rows that stand in the tables

rows-stand : (rows : List CutRow) (numbers cuts : List ℕ)
    → cut_rows_in (length rows) (overwrite (map (λ (r : CutRow). r.number) rows) numbers) (overwrite (map (λ (r : CutRow). r.cut) rows) cuts) ≡ rows
rows-stand rows numbers cuts = list_to-is rows _ (record { number = 0; cut = 0 }) at
  where
    none : CutRow
    none = record { number = 0; cut = 0 }

    cell : (f : CutRow → ℕ) (entry : List ℕ) (i : ℕ) → i < length rows → f none ≡ 0 → get_or (overwrite (map f rows) entry) i 0 ≡ f (get_or rows i none)
    cell f entry i h z =
        front_at (map f rows) entry (length rows) (length-map rows f) i 0 h ∙ ap (get_or (map f rows) i) (sym z) ∙ get_or-map f rows i none

    at : (i : ℕ) → i < length rows
        → record { number = get_or (overwrite (map (λ (r : CutRow). r.number) rows) numbers) i 0; cut = get_or (overwrite (map (λ (r : CutRow). r.cut) rows) cuts) i 0 }
        ≡ get_or rows i (record { number = 0; cut = 0 })
    at i h = λ t. record { number = cell (λ r. r.number) numbers i h refl t; cut = cell (λ r. r.cut) cuts i h refl t }

-- the theorem of paper 12, of the rows in the tables where no check refuses
hold_least_cuts : (q : CutsCall) (numbers cuts : List ℕ) → numbers ≡ cells_after (find_cuts_checked q) (number_cells q) q.numbers → cuts ≡ cells_after (find_cuts_checked q) (cut_cells_of q) q.cuts
    → find_cuts_checked q ≡ passed → HoldLeastCuts q (length (listed_rows q)) numbers cuts
hold_least_cuts q numbers cuts en ec passed = subst (LeastCuts _ _ _ _) (sym stand) (least-cuts _ _ _ _)
  where
    stand : cut_rows_in (length (listed_rows q)) numbers cuts ≡ listed_rows q
    stand =
        ap₂ (cut_rows_in (length (listed_rows q))) (en ∙ ap (λ (x : Checked). cells_after x (number_cells q) q.numbers) passed) (ec ∙ ap (λ (x : Checked). cells_after x (cut_cells_of q) q.cuts) passed)
        ∙ rows-stand (listed_rows q) q.numbers q.cuts

-- ---- the promise

module _ (test : TestCall) (numbers cuts : Lent (List ℕ)) where
  abbrev q : CutsCall
  q = cuts_call test numbers cuts

  module _ (answer : CutsAnswer) (given_so : cuts_outcome answer ≡ answered (find_cuts_checked q) (pos (length (listed_rows q)) ∷ []))
      (en : after numbers ≡ cells_after (find_cuts_checked q) (number_cells q) (before numbers)) (ec : after cuts ≡ cells_after (find_cuts_checked q) (cut_cells_of q) (before cuts)) where
    pub promised : FindsCuts test numbers cuts answer
    promised = record { listed-given = given_so; numbers-listed = en; cuts-listed = ec; least-cuts = hold_least_cuts q (after numbers) (after cuts) en ec }

  pub refuses : (r : Refusal) → Err r ≡ find_cuts_checked q → after numbers ≡ before numbers → after cuts ≡ before cuts → FindsCuts test numbers cuts (Err r)
  refuses r found kn kc =
      promised (Err r) (answer-refused _ (find_cuts_checked q) found r refl _)
      (kn ∙ cells-refused _ (find_cuts_checked q) found r refl (number_cells q) (before numbers)) (kc ∙ cells-refused _ (find_cuts_checked q) found r refl (cut_cells_of q) (before cuts))
