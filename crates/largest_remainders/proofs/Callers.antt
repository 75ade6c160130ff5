-- For callers: the first n keys of a table, lent as a slice, are searched as the n keys of the table.
use Rattle.std.proofs.Common.{◌≡◌, ℕ, ◌<◌, ◌≤◌, List, length, take, ◌∙◌, sym, ap, length-take-le, arith}
use lib.Dec.{leb}
use lib.Seq.{get_or-take}
use Rattle.largest_remainders.specs.Inner.{key_at, Searchable}
use Rattle.largest_remainders.specs.Ranks.{keys_from_of}
use Rattle.largest_remainders.proofs.Counting.{count_same}

module _ (keys : List ℕ) (n : ℕ) (h : n ≤ length keys) where
  size : length (take n keys) ≡ n
  size = length-take-le n keys h

  key_is : (i : ℕ) → i < n → key_at (take n keys) i ≡ key_at keys i
  key_is i b = get_or-take n keys i 0 b

  pub keys_from_front : (x : ℕ) → keys_from_of (length (take n keys)) (key_at (take n keys)) x ≡ keys_from_of n (key_at keys) x
  keys_from_front x =
      ap (λ (m : ℕ). keys_from_of m (key_at (take n keys)) x) size
      ∙ count_same n (λ j. leb x (key_at (take n keys) j)) (λ j. leb x (key_at keys j)) (λ j b. ap (leb x) (key_is j b))

  pub searchable_front : (top l : ℕ) → Searchable keys n top l → Searchable (take n keys) (length (take n keys)) top l
  searchable_front top l s = record {
    cells = omega arith;
    limited = s.limited;
    small = λ i b. let c : i < n = omega (arith, size) in rw (key_is i c) (s.small i c);
    apart = λ i j b c e.
        let p : i < n = omega (arith, size) in
        let q : j < n = omega (arith, size) in
        s.apart i j p q (sym (key_is i p) ∙ e ∙ key_is j q);
    enough = omega (arith, size, s.enough);
  }
