-- Rows stored where either table has room, and the entry's promise from them.
use mathlib.Core.Path.{◌≡◌, refl, sym, ap, ap₂, ◌∙◌}
use mathlib.Core.List.{List, [], ◌∷◌}
use Prim.Native.Nat.{ℕ, ◌≤◌, ◌<◌}
use borrow.Author.Tests.{lt-ltb, le-ltb}
use lib.ListN.{length}
use lib.IntN.{pos}
use Rattle.lists.specs.Lent.{Lent, before, after, overwrite}
use Rattle.tariff.specs.declared.refusals.Refusal.TheVariants.{ShortTable}
use Rattle.tariff.specs.Refusals.{Checked, passed}
use Rattle.std.specs.Prelude.{Ok, Err}
use Rattle.tariff.specs.Refusals.{first, answered, cells_after}
use Rattle.tariff.proofs.Answers.{answer-refused, cells-refused, answer-passed, cells-passed}
use Rattle.tariff.proofs.Checks.{first_passes, first-refuses, last-passes}
use Rattle.test_rules.specs.TestBook.{TestCall}
use Rattle.cut_rules.specs.FindCuts.{CutsAnswer}
use Rattle.cut_rules.specs.FindCuts.{cuts_call, listed_rows, cut_room_checks, find_cuts_checked, number_cells, cut_cells_of, FindsCuts}
use Rattle.cut_rules.proofs.Entry.{promised}
use Rattle.cut_list.specs.Inner.{room_checked, numbers_of, cuts_of, ListsRows}

module _ (keys : List ℕ) (listed : ℕ) (numbers cuts : List ℕ) where
  -- ---- no room in one of the tables

  refuses : Err ShortTable ≡ room_checked listed numbers cuts → ListsRows keys listed numbers cuts (Err ShortTable) numbers cuts
  refuses found = record {
    listed-given = answer-refused _ _ found ShortTable refl _;
    numbers-stored = cells-refused _ _ found ShortTable refl (numbers_of keys listed) numbers;
    cuts-stored = cells-refused _ _ found ShortTable refl (cuts_of keys listed) cuts;
  }

  pub no_room_numbers : length numbers < listed → ListsRows keys listed numbers cuts (Err ShortTable) numbers cuts
  no_room_numbers h = refuses (sym (first-refuses _ _ (lt-ltb (length numbers) listed h)))

  pub no_room_cuts : listed ≤ length numbers → length cuts < listed → ListsRows keys listed numbers cuts (Err ShortTable) numbers cuts
  no_room_cuts a h = refuses (sym (first_passes _ _ (le-ltb (length numbers) listed a) ∙ first-refuses _ _ (lt-ltb (length cuts) listed h)))

  -- ---- room in both

  pub stored : listed ≤ length numbers → listed ≤ length cuts → (numbers_after cuts-after : List ℕ) → numbers_after ≡ overwrite (numbers_of keys listed) numbers
      → cuts-after ≡ overwrite (cuts_of keys listed) cuts → ListsRows keys listed numbers cuts (Ok listed) numbers_after cuts-after
  stored a b numbers_after cuts-after en ec = record {
    listed-given = answer-passed _ _ told refl _;
    numbers-stored = cells-passed _ _ told refl (numbers_of keys listed) numbers numbers_after en;
    cuts-stored = cells-passed _ _ told refl (cuts_of keys listed) cuts cuts-after ec;
  }
    where
      told : passed ≡ room_checked listed numbers cuts
      told = sym (first_passes _ _ (le-ltb (length numbers) listed a) ∙ last-passes _ (le-ltb (length cuts) listed b))

-- ---- the entry: behind the test's checks, where the keys are those of the rows

pub finds : (keys : List ℕ) (listed : ℕ) (numbers cuts : Lent (List ℕ)) (test : TestCall) (answer : CutsAnswer) → let q = cuts_call test numbers cuts in
    find_cuts_checked q ≡ first (cut_room_checks q) → listed ≡ length (listed_rows q) → numbers_of keys listed ≡ number_cells q → cuts_of keys listed ≡ cut_cells_of q
    → ListsRows keys listed (before numbers) (before cuts) answer (after numbers) (after cuts) → FindsCuts test numbers cuts answer
finds keys listed numbers cuts test answer room many en ec rows = promised test numbers cuts answer
    (rows.listed-given ∙ ap₂ (λ (x : Checked) (n : ℕ). answered x (pos n ∷ [])) checked many)
    (rows.numbers-stored ∙ ap₂ (λ (x : Checked) (values : List ℕ). cells_after x values (before numbers)) checked en)
    (rows.cuts-stored ∙ ap₂ (λ (x : Checked) (values : List ℕ). cells_after x values (before cuts)) checked ec)
  where
    checked : room_checked listed (before numbers) (before cuts) ≡ find_cuts_checked (cuts_call test numbers cuts)
    checked = ap (λ (n : ℕ). room_checked n (before numbers) (before cuts)) many ∙ sym room
