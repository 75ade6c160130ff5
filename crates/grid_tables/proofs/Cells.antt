-- Laws of a table of limits or prices that no check refuses, and of listed numbers.
use mathlib.Core.Path.{◌≡◌, refl, ap}
use mathlib.Core.Bool.{Bool, false, ◌||◌}
use mathlib.Core.List.{List, [], ◌∷◌}
use Rattle.std.specs.List.{list_any}
use Prim.Native.Nat.{ℕ, zero, suc, ◌-◌, ◌≤◌, ◌<◌}
use native.Mathlib.Omega.{arith}
use borrow.Author.Tests.{ltb-false}
use lib.Dec.{leb}
use lib.ListN.{length, get_or, take}
use lib.Seq.{get_or-take}
use Rattle.lists.specs.Lists.{any_of, above}
use Rattle.lists.proofs.Search.{none-bad, cell_in}
use Rattle.grid_tables.specs.Inner.{GoodCells}

-- the library's search
pub searched : {A : Type 0} (bad : A → Bool) (xs : List A) → list_any bad xs ≡ any_of bad xs
unfolding any_of
searched bad [] = refl
searched bad (x ∷ xs) = ap (λ b. bad x || b) (searched bad xs)

pub good-cells : (most k : ℕ) (table : List ℕ) → k ≤ length table → any_of (above most) (take k table) ≡ false → GoodCells most k table
good-cells most k table long none =
    record {
      long = long;
      sized = λ j h. rw (get_or-take k table j 0 h) at
          (ltb-false most (get_or (take k table) j 0) (none-bad (above most) (take k table) 0 none j (cell_in table k j long h)));
    }

-- the cells of the cut table are in range too
pub cut-sized : (most k : ℕ) (table : List ℕ) → GoodCells most k table → (j : ℕ) → j < k → get_or (take k table) j 0 ≤ most
cut-sized most k table g j h = rw (get_or-take k table j 0 h) (g.sized j h)

-- ---- listed numbers

-- not below n is above n − 1
pub listed_above : (n : ℕ) → 0 < n → (xs : List ℕ) → any_of (above (n - 1)) xs ≡ any_of (leb n) xs
listed_above zero h xs = absurd (omega arith)
listed_above (suc n) h xs = ap (λ (m : ℕ). any_of (above m) xs) {x = suc n - 1} {y = n} (omega arith)
