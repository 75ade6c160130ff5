-- Terms that only the search for a key and proofs use: an order as one number, and how many keys there are from a number on.
use Rattle.std.specs.Prelude.{ℕ, suc, ◌+◌, ◌-◌, ◌*◌, ◌^◌, ◌≤◌, ◌<◌, length, get_or, List}
use Rattle.largest_remainders.specs.Ranks.{Different}

-- remainder and place in one number, for w places at most: the greater number comes before
abbrev pub remainder_key : (ℕ → ℕ) → ℕ → ℕ → ℕ
remainder_key rest w i = rest i * w + (w - suc i)

-- the key of place i in a table
abbrev pub key_at : List ℕ → ℕ → ℕ
key_at keys i = get_or keys i 0

-- keys of a table that is searched are below this
abbrev pub key_limit : ℕ
key_limit = 2 ^ 63

-- a table of which l keys are wanted, the largest: enough of them, all below top, and no two alike
pub record Searchable (keys : List ℕ) (n top l : ℕ) : Type 0 where
  pub cells : n ≤ length keys
  pub limited : top ≤ key_limit
  pub small : (i : ℕ) → i < n → key_at keys i < top
  pub apart : Different n (key_at keys)
  pub enough : l ≤ n
