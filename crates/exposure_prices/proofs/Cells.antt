-- The cells of a loop over the constraints: an excess as the machine reads it, and prices filled in, one more.
use mathlib.Core.Path.{◌≡◌, refl, sym, ap, ap₂, ◌∙◌}
use mathlib.Core.Bool.{Bool, cond}
use mathlib.Core.List.{List, ◌++◌}
use Prim.Native.Nat.{ℕ, ◌+◌, ◌≤◌, ◌<◌}
use native.Mathlib.Omega.{arith}
use lib.ListN.{length, take, drop, set, length-set}
use lib.Seq.{take_all, length-take-le}
use lib.IntN.{ℤ, nat_abs}
use mir.Syntax.{w64}
use mir.Val.{to_z, of_z}
use Rattle.integers.proofs.Machine.{back}
use Rattle.lists.specs.Lists.{list_to}
use Rattle.lists.specs.Lent.{overwrite}
use Rattle.lists.proofs.Fill.{fill_turn}
use Rattle.lists.proofs.Lists.{length-list_to, get_d_list_to}
use Rattle.tariff.specs.Units.{max_price}
use Rattle.exposure_rules.specs.Exposure.{highest_where}
use Rattle.test_excesses.specs.Inner.{cell_at}
use Rattle.exposure_prices.specs.Inner.{Excesses, max_excess}

-- an excess is read as it stands, and is of its size
pub read_excess : (n : ℕ) (cells : List ℤ) → Excesses n cells → (k : ℕ) → k < n
    → (to_z w64 (of_z w64 (cell_at cells k)) ≡ cell_at cells k) × (nat_abs (cell_at cells k) ≤ max_excess)
read_excess n cells e k h = let sized = e.sized k h in (back (cell_at cells k) (omega (arith, sized)), sized)

pub sized-read : (n : ℕ) (cells : List ℤ) → Excesses n cells → (k : ℕ) → k < n → nat_abs (to_z w64 (of_z w64 (cell_at cells k))) ≤ max_excess
sized-read n cells e k h = let read = read_excess n cells e k h in rw read.0 read.1

-- of n cells the first k hold the prices of the first k constraints
pub record Filling (n : ℕ) (chosen : ℕ → Bool) (k : ℕ) (cells : List ℕ) : Type 0 where
  pub long : length cells ≡ n
  pub front : take k cells ≡ take k (highest_where n chosen)

module _ (n : ℕ) (chosen : ℕ → Bool) where
  abbrev price : ℕ → ℕ
  price j = cond (chosen j) max_price 0

  pub fill_start : (prices : List ℕ) → n ≤ length prices → Filling n chosen 0 (take n prices)
  fill_start prices h = record { long = length-take-le n prices h; front = refl }

  pub fill_next : (k : ℕ) (cells : List ℕ) (v : ℕ) → k < n → v ≡ cond (chosen k) max_price 0 → Filling n chosen k cells → Filling n chosen (k + 1) (set cells k v)
  unfolding highest_where
  fill_next k cells v h e f =
      record {
        long = simp length-set f.long;
        front = fill_turn (list_to n price) cells k f.front v 0 (omega (arith, f.long)) (rw (length-list_to n price) h) (e ∙ sym (get_d_list_to n price k 0 h));
      }

  -- in front of the cells behind them
  pub fill_end : (k : ℕ) (cells entry : List ℕ) → n ≤ k → Filling n chosen k cells → cells ++ drop n entry ≡ overwrite (highest_where n chosen) entry
  unfolding highest_where
  fill_end k cells entry h f =
      let long = length-list_to n price in
      let all : cells ≡ list_to n price = sym (take_all k cells (omega (arith, f.long))) ∙ f.front ∙ take_all k (list_to n price) (omega (arith, long)) in
      ap₂ ◌++◌ all (ap (λ (m : ℕ). drop m entry) (sym long))
