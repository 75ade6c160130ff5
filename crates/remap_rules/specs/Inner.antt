-- What inner functions say of a remapping: a table of where each node goes, lists that pass their checks, and contracts whose ends the table has.
use Rattle.std.specs.Prelude.{◌≡◌, List, [], ◌∷◌, ℕ, ◌≤◌, ◌<◌, length, get_or}
use Rattle.tariff.specs.declared.contracts.Contract.{Contract}
use Rattle.tariff.specs.Refusals.{Check}
use Rattle.tariff.specs.Units.{max_nodes}
use Rattle.tariff.specs.Checks.{listed_nodes}
use Rattle.layouts.specs.declared.forms.Form.{Form}
use Rattle.layouts.specs.Forms.{end_width, ends_below_of}
use Rattle.layouts.specs.BookTable.{ContractFits}
use Rattle.remap_rules.specs.RemapBook.{moved_end, unequal_lists}

-- the lists' checks: 11, 11, 9
unfoldable pub list_checks : Form → ℕ → List ℕ → List ℕ → List Check
list_checks f n olds news = listed_nodes n olds ∷ listed_nodes (ends_below_of f n) news ∷ unequal_lists olds news ∷ []

-- a contract with its ends looked up in a table
unfoldable pub moved_by : List ℕ → Contract → Contract
moved_by ends c =
    record {
      kind = c.kind;
      period = c.period;
      holder = c.holder;
      source = get_or ends c.source 0;
      sink = get_or ends c.sink 0;
      quantity = c.quantity;
    }

-- a table that has, for each of n nodes, where the pairs send it
pub record Moves (n : ℕ) (olds news ends : List ℕ) : Type 0 where
  pub size : length ends ≡ max_nodes
  pub each : (e : ℕ) → e < n → get_or ends e 0 ≡ moved_end olds news e

-- as many new numbers as old ones, of n nodes each
pub record Listed (n : ℕ) (olds news : List ℕ) : Type 0 where
  pub few : n ≤ max_nodes
  pub pairs : length olds ≡ length news
  pub old_below : (i : ℕ) → i < length olds → get_or olds i 0 < n
  pub new-below : (i : ℕ) → i < length news → get_or news i 0 < n

pub record Movable (f : Form) (ends : List ℕ) (c : Contract) : Type 0 where
  pub source_known : c.source < length ends
  pub sink-known : c.sink < length ends
  pub fits : ContractFits (end_width f) (moved_by ends c)
