-- Every test can be cut into slices that the entries take.
use mathlib.Core.Path.{◌≡◌, refl, sym, ap, ap₂, ◌∙◌}
use mathlib.Core.List.Perm
use mathlib.Core.List.{List, [], ◌∷◌, ◌++◌, map, flat_map}
use Prim.Native.Nat.{ℕ, zero, suc, ◌+◌, ◌-◌, ◌*◌, ◌/◌, ◌%◌, ◌≤◌, ◌<◌}
use native.Mathlib.Nat.{mul-le-mul_right, mul-add-div_right, div-eq_of_lt, add-zero, mul-add-mod_self_left, mod-eq_of_lt, mul_comm, min-le_left, min-le_right}
use native.Mathlib.Omega.{arith}
use native.Mathlib.Decide.{ℕ_discrete}
use borrow.Author.Tests.{eq-eqb, ne_eqb}
use lib.ListN.{length, get_or, take, drop, length-map, length-take, length-drop, take-append-drop}
use lib.IntN.{pos}
use Rattle.lists.specs.Lists.{list_to, Each}
use Rattle.lists.proofs.Lists.{get_d_list_to}
use Rattle.tariff.specs.declared.contracts.Contract.{Contract}
use Rattle.tariff.specs.Units.{Factors, factor, Grid, limit, max_constraints, max_contracts}
use Rattle.slice_rules.specs.Slices.{Block, StandsFor, Pairwise, AllStandFor, Slice, Cut, Sliced}
use Rattle.slice_rules.specs.Cutting.{block_of, renumbered, At, Renumbered, place_in, numbered_by, Has, HasEnds, EndsNumbered, ends_for, chunks}
use Rattle.slice_rules.specs.Cutting.{SliceFits, CanBeSliced}

-- ---- nodes numbered anew

place-in : (n k s j : ℕ) → s < n → j < k → s * k + j < n * k
place-in n k s j h i = omega (arith, mul-le-mul_right k h)

row_is : (k n j : ℕ) → j < k → (n * k + j) / k ≡ n
row_is k n j h = mul-add-div_right {m = k} (omega arith) n j ∙ ap (λ (x : ℕ). n + x) (div-eq_of_lt h) ∙ add-zero n

column_is : (k n j : ℕ) → j < k → (n * k + j) % k ≡ j
column_is k n j h = ap (λ (x : ℕ). (x + j) % k) (mul_comm n k) ∙ mul-add-mod_self_left k n j ∙ mod-eq_of_lt h

module _ (whole : Factors) (b : Block) (nodes : List ℕ) where
  pub renumbered-factor : (n j : ℕ) → n < length nodes → j < b.size → factor (renumbered whole b nodes) n j ≡ factor whole (get_or nodes n 0) (b.number j)
  unfolding renumbered
  renumbered-factor n j hn hj =
      get_d_list_to (length nodes * b.size) (λ x. factor whole (get_or nodes (x / b.size) 0) (b.number (x % b.size))) (n * b.size + j) (pos 0)
      (place-in (length nodes) b.size n j hn hj)
      ∙ ap₂ (λ (s c : ℕ). factor whole (get_or nodes s 0) (b.number c)) (row_is b.size n j hj) (column_is b.size n j hj)

  pub renumbered-stands : (c d : Contract) → Renumbered nodes c d → StandsFor whole b (renumbered whole b nodes) c d
  renumbered-stands c d r =
      record {
        kind-same = r.kind-same;
        period-same = r.period-same;
        quantity-same = r.quantity-same;
        source-same = λ j h. renumbered-factor d.source j r.source-at.below h ∙ ap (λ (n : ℕ). factor whole n (b.number j)) r.source-at.is-node;
        sink-same = λ j h. renumbered-factor d.sink j r.sink-at.below h ∙ ap (λ (n : ℕ). factor whole n (b.number j)) r.sink-at.is-node;
      }

  pub all-stand : (cs ds : List Contract) → Pairwise (Renumbered nodes) cs ds → AllStandFor whole b (renumbered whole b nodes) cs ds
  all-stand [] [] r = tt
  all-stand [] (d ∷ ds) r = absurd r
  all-stand (c ∷ cs) [] r = absurd r
  all-stand (c ∷ cs) (d ∷ ds) r = (renumbered-stands c d r.0, all-stand cs ds r.1)

-- ---- a node's place in a list that has it

place_at : (nodes : List ℕ) (n i : ℕ) → At nodes n i → At nodes n (place_in nodes n)
unfolding place_in
place_at [] n i h = absurd (omega (arith, h.below))
place_at (m ∷ ms) n zero h = rw (eq-eqb m n h.is-node) (record { below = omega arith; is-node = h.is-node })
place_at (m ∷ ms) n (suc i) h =
    elim (ℕ_discrete m n) [
      | yes e ↦ rw (eq-eqb m n e) (record { below = omega arith; is-node = e })
      | no ne ↦
          let there = place_at ms n i (record { below = omega (arith, h.below); is-node = h.is-node }) in
          rw (ne_eqb m n ne) (record { below = omega (arith, there.below); is-node = there.is-node })
    ]

module _ (nodes : List ℕ) where
  numbered : (c : Contract) → HasEnds nodes c → Renumbered nodes c (numbered_by nodes c)
  numbered c h =
      record {
        kind-same = refl;
        period-same = refl;
        quantity-same = refl;
        source-at = place_at nodes c.source h.0.place h.0.at_place;
        sink-at = place_at nodes c.sink h.1.place h.1.at_place;
      }

  -- contracts numbered by any list that has their ends
  all-numbered : (cs : List Contract) → Each (HasEnds nodes) cs → Pairwise (Renumbered nodes) cs (map (numbered_by nodes) cs)
  all-numbered [] h = tt
  all-numbered (c ∷ cs) h = (numbered c h.0, all-numbered cs h.1)

  pub ends-numbered : EndsNumbered nodes
  ends-numbered =
      record {
        numbered = all-numbered;
        only_so = λ distinct n m h.
            let p = place_at nodes n m h in
            distinct m (place_in nodes n) h.below p.below (h.is-node ∙ sym p.is-node);
      }

  ends-below : (cs ds : List Contract) → Pairwise (Renumbered nodes) cs ds → Each (λ (d : Contract). (d.source < length nodes) × (d.sink < length nodes)) ds
  ends-below [] [] r = tt
  ends-below [] (d ∷ ds) r = absurd r
  ends-below (c ∷ cs) [] r = absurd r
  ends-below (c ∷ cs) (d ∷ ds) r = ((r.0.source-at.below, r.0.sink-at.below), ends-below cs ds r.1)

-- ---- a slice of any contracts, with their ends for its nodes

pub length-ends : (cs : List Contract) → length (ends_for cs) ≡ 2 * length cs
unfolding ends_for
length-ends [] = refl
length-ends (c ∷ cs) = omega (arith, length-ends cs)

-- behind another node
has_more : (m : ℕ) (nodes : List ℕ) (n : ℕ) → Has nodes n → Has (m ∷ nodes) n
has_more m nodes n h = record { place = suc h.place; at_place = record { below = omega (arith, h.at_place.below); is-node = h.at_place.is-node } }

two_more : (a b : ℕ) (nodes : List ℕ) (cs : List Contract) → Each (HasEnds nodes) cs → Each (HasEnds (a ∷ b ∷ nodes)) cs
two_more a b nodes [] h = tt
two_more a b nodes (c ∷ cs) h = (
  (has_more a (b ∷ nodes) c.source (has_more b nodes c.source h.0.0), has_more a (b ∷ nodes) c.sink (has_more b nodes c.sink h.0.1)),
  two_more a b nodes cs h.1,
)

pub has_ends : (cs : List Contract) → Each (HasEnds (ends_for cs)) cs
unfolding ends_for
has_ends [] = tt
has_ends (c ∷ cs) = (
  (record { place = 0; at_place = record { below = omega arith; is-node = refl } }, record { place = 1; at_place = record { below = omega arith; is-node = refl } }),
  two_more c.source c.sink (ends_for cs) cs (has_ends cs),
)

module _ (whole : Factors) (b : Block) where
  pub slice_of : List Contract → Slice whole b
  slice_of cs =
      record {
        contracts = cs;
        factors = renumbered whole b (ends_for cs);
        book = map (numbered_by (ends_for cs)) cs;
        stands = all-stand whole b (ends_for cs) cs _ (all-numbered (ends_for cs) cs (has_ends cs));
      }

  pub slice_fits : (cs : List Contract) → b.size ≤ max_constraints → 0 < length cs → length cs ≤ max_contracts → SliceFits whole b (slice_of cs)
  unfolding renumbered slice_of
  slice_fits cs few some h =
      record {
        constraints-few = few;
        constraints-are = refl;
        nodes-some = omega (arith, length-ends cs);
        nodes-few = omega (arith, length-ends cs);
        contracts-few = omega (arith, length-map cs (numbered_by (ends_for cs)));
        ends-below = ends-below (ends_for cs) cs _ (all-numbered (ends_for cs) cs (has_ends cs));
      }

  -- ---- contracts by thousands

  pub thousands : ℕ → List Contract → List (Slice whole b)
  thousands n cs = map slice_of (chunks n cs)

  thousands_all : (n : ℕ) (cs : List Contract) → length cs ≤ n * max_contracts → flat_map (λ (s : Slice whole b). s.contracts) (thousands n cs) ≡ cs
  unfolding thousands chunks flat_map slice_of
  thousands_all zero [] h = refl
  thousands_all zero (c ∷ cs) h = absurd (omega arith)
  thousands_all (suc n) cs h =
      ap (λ (l : List Contract). take max_contracts cs ++ l) (thousands_all n (drop max_contracts cs) (omega (arith, length-drop max_contracts cs)))
      ∙ take-append-drop max_contracts cs

  -- no list is empty where there are no more than the contracts fill
  thousands_fit : b.size ≤ max_constraints → (n : ℕ) (cs : List Contract) → n * max_contracts < length cs + max_contracts → Each (SliceFits whole b) (thousands n cs)
  unfolding thousands chunks
  thousands_fit few zero cs h = tt
  thousands_fit few (suc n) cs h =
      let taken = length-take max_contracts cs in (
        slice_fits (take max_contracts cs) few (omega (arith, taken)) (omega (arith, taken, min-le_left max_contracts (length cs))),
        thousands_fit few n (drop max_contracts cs) (omega (arith, length-drop max_contracts cs)),
      )

-- ---- constraints 64 by 64

pub by_64 : (k : ℕ) → Cut k
by_64 k =
    record {
      blocks = (k + 63) / 64;
      block = block_of k;
      inside = λ i j hi hj. omega (arith, min-le_right 64 (k - 64 * i));
      covers = λ c h.
          record {
            in_block = c / 64;
            at = c % 64;
            block-below = omega arith;
            at-below = omega arith;
            is-there = omega arith;
          };
    }

pub by_64_few : (k i : ℕ) → ((by_64 k).block i).size ≤ max_constraints
unfolding by_64
by_64_few k i = min-le_left max_constraints (k - max_constraints * i)

pub by_64_inside : (k i j : ℕ) → j < ((by_64 k).block i).size → ((by_64 k).block i).number j < k
unfolding by_64
by_64_inside k i j h = omega (arith, min-le_right 64 (k - 64 * i))

module _ (g : Grid) (book : List Contract) where
  abbrev k : ℕ
  k = g.factors.constraints

  -- a block's limits
  limits_of : ℕ → List ℕ
  limits_of i = list_to (block_of k i).size (λ j. limit g.limits ((block_of k i).number j))

  abbrev lists : ℕ
  lists = (length book + 999) / 1000

  in_slices : Sliced g book
  unfolding limits_of by_64
  in_slices =
      record {
        cut = by_64 k;
        limits = limits_of;
        limits-same = λ i j hi hj. get_d_list_to (block_of k i).size (λ j. limit g.limits ((block_of k i).number j)) j 0 hj;
        slices = λ i. thousands g.factors (block_of k i) lists book;
        all-contracts = λ i h. rw (thousands_all g.factors (block_of k i) lists book (omega arith)) (Perm.refl book);
      }

  pub can_be_sliced : CanBeSliced g book
  unfolding in_slices by_64
  can_be_sliced =
      record {
        sliced = in_slices;
        all_fit = λ i. thousands_fit g.factors (block_of k i) (min-le_left max_constraints (k - max_constraints * i)) lists book (omega arith);
      }
