-- Sums of naturals, the rank of a place in an order, and keys. Definitions only.
use Rattle.std.specs.Prelude.{◌≡◌, Bool, ℕ, zero, suc, ◌+◌, ◌<◌, leb, ltb}
use Rattle.lists.specs.Sets.{count_of}

-- g 0 + g 1 + … + g (n − 1)
unfoldable pub add_to : ℕ → (ℕ → ℕ) → ℕ
add_to zero g = 0
add_to (suc n) g = add_to n g + g n

-- how many places below n come before i
unfoldable pub rank_of : ℕ → (ℕ → ℕ → Bool) → ℕ → ℕ
rank_of n before i = count_of n (λ j. before j i)

-- the greater key comes first
abbrev pub above_by : (ℕ → ℕ) → ℕ → ℕ → Bool
above_by key j i = ltb (key i) (key j)

-- the keys of n places differ from each other
abbrev pub Different : ℕ → (ℕ → ℕ) → Type 0
Different n key = (i j : ℕ) → i < n → j < n → key i ≡ key j → i ≡ j

-- how many of the first n keys are x or above
abbrev pub keys_from_of : ℕ → (ℕ → ℕ) → ℕ → ℕ
keys_from_of n key x = count_of n (λ j. leb x (key j))
