-- The grid's reader of document 01, as it was before request 9: its list of checks over the narrow layout, by numbers.
use Rattle.std.specs.Prelude.{◌≡◌, not, ◌||◌, List, [], ◌∷◌, ℕ, ◌*◌, ltb, eqb, length}
use Rattle.lists.specs.Lists.{any_of}
use Rattle.bits.specs.Bits.{field}
use Rattle.tariff.specs.Checks.{limit_bad, factor_bad_of}
use Rattle.tariff.specs.Former.{FormerCheck, formerly}
use Rattle.layouts.specs.Files.{bytes_for, pad_for}
use Rattle.layouts.specs.GridFile.{bits_behind, nodes_in, constraints_in_of, limits_from, factors_from, limits_in, factors_in}
use Rattle.grid_rules.specs.ReadGrid.{ReadGridCall}

-- "nodes 8 bits, constraints 7, spare 1", then the limits, the factors and the padding
module _ (s : List ℕ) where
  abbrev pub former_nodes : ℕ
  former_nodes = field s 0 8

  abbrev pub former_constraints : ℕ
  former_constraints = field s 8 7

  abbrev pub former_bits : ℕ
  former_bits = bits_behind 16 former_nodes former_constraints

-- "1: under two bytes. 2: nodes 0 or above 200. 3: constraints above 64. 4: spare bit set. 5: length differs from what the counts fix. 6: a limit too large.
-- 7: a factor out of range. 8: a padding bit set. 9: a lent table too short."
unfoldable pub former_grid_checks : ReadGridCall → List FormerCheck
former_grid_checks q =
    formerly (ltb (length q.file) 2) 1
    ∷ formerly (eqb (former_nodes q.file) 0 || ltb 200 (former_nodes q.file)) 2
    ∷ formerly (ltb 64 (former_constraints q.file)) 3
    ∷ formerly (not (eqb (field q.file 15 1) 0)) 4
    ∷ formerly (not (eqb (length q.file) (bytes_for (former_bits q.file)))) 5
    ∷ formerly (any_of limit_bad (limits_from q.file 16 (former_constraints q.file))) 6
    ∷ formerly (any_of factor_bad_of (factors_from q.file 16 (former_nodes q.file) (former_constraints q.file))) 7
    ∷ formerly (not (eqb (field q.file (former_bits q.file) (pad_for (former_bits q.file))) 0)) 8
    ∷ formerly (ltb (length q.limits) (former_constraints q.file)) 9
    ∷ formerly (ltb (length q.factors) (former_nodes q.file * former_constraints q.file)) 9
    ∷ []

-- what is read from a narrow file
pub record ReadAsBefore (s : List ℕ) : Type 0 where
  pub nodes-as_before : nodes_in s ≡ former_nodes s
  pub limits-as_before : limits_in s ≡ limits_from s 16 (constraints_in_of s)
  pub factors-as_before : factors_in s ≡ factors_from s 16 (former_nodes s) (constraints_in_of s)
