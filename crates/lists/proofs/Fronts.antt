-- A table whose first cells were written: they hold the values, and there is room for them.
use mathlib.Core.Path.{◌≡◌}
use mathlib.Core.List.{List}
use Prim.Native.Nat.{ℕ, ◌≤◌, ◌<◌}
use native.Mathlib.Omega.{arith}
use lib.ListN.{length, get_or, take, drop, length-append, get_or-append}
use lib.Seq.{take_at}
use Rattle.lists.specs.Lent.{overwrite}

module _ {A : Type 0} (values entry : List A) (n : ℕ) (long : length values ≡ n) where
  pub front-is : take n (overwrite values entry) ≡ values
  front-is = take_at values (drop (length values) entry) n long

  pub front-room : n ≤ length (overwrite values entry)
  front-room = omega (arith, length-append values (drop (length values) entry), long)

  pub front_at : (i : ℕ) (d : A) → i < n → get_or (overwrite values entry) i d ≡ get_or values i d
  front_at i d h = get_or-append values (drop (length values) entry) d i (rw long h)
