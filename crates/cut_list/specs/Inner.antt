-- What storing the rows of keys says: both tables, where either has a cell for each row, and 9 where one has not.
use Rattle.std.specs.Prelude.{◌≡◌, List, [], ◌∷◌, ℕ, ◌/◌, ◌%◌, length, get_or, pos}
use Rattle.lists.specs.Lists.{list_to}
use Rattle.tariff.specs.Refusals.{Checked}
use Rattle.tariff.specs.Refusals.{first, answered, cells_after}
use Rattle.tariff.specs.Checks.{short_table}
use Rattle.cut_rules.specs.FindCuts.{CutsAnswer}
use Rattle.cut_rules.specs.FindCuts.{cuts_outcome}

abbrev pub room_checked : ℕ → List ℕ → List ℕ → Checked
room_checked listed numbers cuts = first (short_table (length numbers) listed ∷ short_table (length cuts) listed ∷ [])

-- the rows' numbers and cuts, from the first keys
abbrev pub numbers_of : List ℕ → ℕ → List ℕ
numbers_of keys listed = list_to listed (λ (j : ℕ). get_or keys j 0 % 1024)

abbrev pub cuts_of : List ℕ → ℕ → List ℕ
cuts_of keys listed = list_to listed (λ (j : ℕ). get_or keys j 0 / 1024)

-- both tables as they are, and as they are then
pub record ListsRows (keys : List ℕ) (listed : ℕ) (numbers cuts : List ℕ) (answer : CutsAnswer) (numbers_after cuts-after : List ℕ) : Type 0 where
  pub listed-given : cuts_outcome answer ≡ answered (room_checked listed numbers cuts) (pos listed ∷ [])
  pub numbers-stored : numbers_after ≡ cells_after (room_checked listed numbers cuts) (numbers_of keys listed) numbers
  pub cuts-stored : cuts-after ≡ cells_after (room_checked listed numbers cuts) (cuts_of keys listed) cuts
