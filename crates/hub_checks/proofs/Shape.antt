-- 24 by its four conditions, one after another.
use mathlib.Core.Path.{◌≡◌}
use mathlib.Core.Bool.{true, false, not}
use mathlib.Core.List.{List}
use Prim.Native.Nat.{ℕ, ◌≤◌, ◌<◌}
use borrow.Author.Tests.{lt-ltb, le-ltb, eq-eqb, ne_eqb}
use lib.Dec.{eqb}
use lib.ListN.{length}
use Rattle.lists.specs.Lists.{any_of}
use Rattle.tariff.specs.Units.{max_hub_nodes, hub_weight}
use Rattle.hub_rules.specs.Hubs.{sum_by_of, weight_bad_of, shape_bad_of}

module _ (ns ws : List ℕ) where
  pub shape-empty : length ns ≡ 0 → true ≡ shape_bad_of ns ws
  shape-empty e = rw (eq-eqb (length ns) 0 e)

  module _ (one : length ns ≡ 0 → ⊥) where
    pub shape-many : max_hub_nodes < length ns → true ≡ shape_bad_of ns ws
    shape-many h = rw (ne_eqb (length ns) 0 one, lt-ltb max_hub_nodes (length ns) h)

    module _ (few : length ns ≤ max_hub_nodes) where
      pub shape-unequal : (length ns ≡ length ws → ⊥) → true ≡ shape_bad_of ns ws
      shape-unequal h = rw (ne_eqb (length ns) 0 one, le-ltb max_hub_nodes (length ns) few, ne_eqb (length ns) (length ws) h)

      module _ (equal : length ns ≡ length ws) where
        pub shape-weight : any_of weight_bad_of ws ≡ true → true ≡ shape_bad_of ns ws
        shape-weight h = rw (ne_eqb (length ns) 0 one, le-ltb max_hub_nodes (length ns) few, eq-eqb (length ns) (length ws) equal, h)

        pub shape-total : any_of weight_bad_of ws ≡ false → (total : ℕ) → total ≡ sum_by_of (λ w. w) ws → not (eqb total hub_weight) ≡ shape_bad_of ns ws
        shape-total h total e = rw (ne_eqb (length ns) 0 one, le-ltb max_hub_nodes (length ns) few, eq-eqb (length ns) (length ws) equal, h, e)
