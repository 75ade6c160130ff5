-- The keys that code lists are those of the least cuts, in order.
use mathlib.Core.Path.{◌≡◌, refl, sym, ap, ◌∙◌}
use mathlib.Core.Bool.{Bool, true, false, cond}
use mathlib.Core.List.{List, [], map}
use Prim.Native.Nat.{ℕ, ◌+◌, ◌*◌, ◌≤◌, ◌<◌}
use native.Mathlib.Omega.{arith}
use borrow.Author.Tests.{eq-eqb, ne_eqb}
use lib.ListN.{length, take}
use lib.Seq.{get_or-take}
use lib.IntN.{ℤ, pos, ◌-ℤ◌}
use Rattle.integers.proofs.Linear.{*ℤ-pos1}
use Rattle.lists.specs.Lists.{list_to}
use Rattle.lists.specs.Lent.{overwrite}
use Rattle.lists.specs.Sets.{set_of}
use Rattle.lists.proofs.Lists.{length-list_to, get_d_list_to}
use Rattle.lists.proofs.Fronts.{front_at, front-room}
use Rattle.sorting.specs.Sorted.{sorted, front_sorted}
use Rattle.sorting.proofs.Callers.{cells-front}
use Rattle.tariff.specs.declared.contracts.Contract.{Contract}
use Rattle.tariff.specs.declared.contracts.Period.{Period}
use Rattle.tariff.specs.declared.processes.Process.{Process}
use Rattle.tariff.specs.Refusals.{passed}
use Rattle.tariff.specs.Units.{Grid, factors_of, grid_of, max_limit}
use Rattle.tariff.specs.ContractRules.{InRange, counted, same_period, of_period}
use Rattle.tariff.specs.Refusals.{first}
use Rattle.tariff.specs.Feasibility.{released, excess, overload_set}
use Rattle.layouts.specs.BookFile.{book_in, contract_count_in, contract_at}
use Rattle.grid_tables.specs.Inner.{GoodCells, GoodFactors}
use Rattle.book_rules.specs.BookChecks.{book_checks}
use Rattle.book_rules.proofs.Accepted.{book-accepted}
use Rattle.test_rules.specs.declared.Flows.{Flows}
use Rattle.test_rules.specs.Inner.{Judgeable}
use Rattle.test_rules.specs.Carried.{Carries}
use Rattle.test_rules.proofs.Flowing.{part, own_flow, carried_judgeable}
use Rattle.test_rules.proofs.Judging.{over, set_is}
use Rattle.test_flow_laws.specs.Quantities.{with_quantity}
use Rattle.cut_rules.specs.Cuts.{nth_contract, CutRow, passing, cut_rows_to, least_cuts}
use Rattle.cut_rules.specs.Inner.{closed, cut_flow, slope, cut_or0, row_key, keys_to}
use Rattle.cut_rules.proofs.Turns.{closed-cong}
use Rattle.cut_rules.proofs.Rows.{each_row, numbers-rise}
use Rattle.cut_rules.proofs.Keys.{Few, keys_in_order, keys_are}
use Rattle.cut_rules.proofs.Theorems.{failing-rows, passing-rows}
use Rattle.cut_needs.specs.Inner.{Excesses, cell_at, slope_from, slope_in, cut_in}
use Rattle.cut_keys.specs.Inner.{period_cut}
use Rattle.test_excesses.specs.Inner.{excess_in}
use Rattle.test_excesses.proofs.Excesses.{excess-sized}

-- ---- the slope that a table gives is the contract's

slope-is : (n k : ℕ) (fs : List ℤ) (t : Period) (c : Contract) → InRange n c → same_period c.period t ≡ true → (j : ℕ) → j < k → slope_in k fs c j ≡ slope (factors_of n k fs) t c j
unfolding slope_from cut_flow part
slope-is n k fs t c h s j b =
    let d = cell_at fs (c.source * k + j) -ℤ cell_at fs (c.sink * k + j) in
    let one : InRange n (with_quantity 1 c) = record { source-below = h.source-below; sink-below = h.sink-below; quantity-sized = omega arith } in
    rw s (ap (counted c.kind) (sym (*ℤ-pos1 d)) ∙ own_flow n k fs (with_quantity 1 c) one j b)

module _ (n k : ℕ) (ls : List ℕ) (fs : List ℤ) (process : Process) (t : Period) (book : List ℕ)
    (gl : GoodCells max_limit k ls) (gf : GoodFactors n k fs) (accepted : first (book_checks n book) ≡ passed)
    (f : Flows) (carried : Carries (factors_of n k fs) (of_period t (book_in book)) f) where
  abbrev g : Grid
  g = grid_of n k ls fs

  abbrev cs : List Contract
  cs = book_in book

  abbrev judged : Judgeable k ls f
  judged = carried_judgeable n k ls fs t book gl gf accepted f carried

  -- ---- the test: s is the overload set
  module _ (s : ℕ) (is : s ≡ set_of k (over ls process f.flows)) where
    pub passes : s ≡ 0 → [] ≡ map row_key (least_cuts g process t cs)
    unfolding passing
    passes z = sym (ap (map row_key) (passing-rows g process t cs (eq-eqb (overload_set g process (of_period t cs)) 0 (sym (set_is n k ls fs process t cs f carried s is) ∙ z))))

    pub fails : (s ≡ 0 → ⊥) → passing g process t cs ≡ false
    unfolding passing
    fails out = ne_eqb (overload_set g process (of_period t cs)) 0 (λ z. out (set_is n k ls fs process t cs f carried s is ∙ z))

  -- ---- the excesses, in the first cells of a table
  module _ (entry cells : List ℤ) (filled : cells ≡ overwrite (list_to k (excess_in ls process f.flows)) entry) where
    values : (j : ℕ) → j < k → cell_at cells j ≡ excess_in ls process f.flows j
    values j b =
        let F = list_to k (excess_in ls process f.flows) in
        ap (λ (xs : List ℤ). cell_at xs j) filled ∙ front_at F entry k (length-list_to k (excess_in ls process f.flows)) j (pos 0) b ∙ get_d_list_to k (excess_in ls process f.flows) j (pos 0) b

    pub excesses : Excesses k cells
    excesses = record {
      long = rw filled (front-room (list_to k (excess_in ls process f.flows)) entry k (length-list_to k (excess_in ls process f.flows)));
      sized = λ j b. rw (values j b) (excess-sized ls process f.flows j (judged.flows-sized j b) (gl.sized j b));
    }

    excess-is : (j : ℕ) → j < k → cell_at cells j ≡ excess g process (of_period t cs) j
    unfolding excess released
    excess-is j b = values j b ∙ rw (carried.flows-are j b, get_or-take k ls j 0 b)

    -- ---- a contract's cut
    at-index : (i : ℕ) → i < contract_count_in book → nth_contract cs i ≡ contract_at book i
    at-index i b = get_d_list_to (contract_count_in book) (contract_at book) i _ b

    cut-is : (c : Contract) → InRange n c
        → period_cut k fs cells t c ≡ cond (same_period c.period t) (closed k (excess g process (of_period t cs)) (slope (factors_of n k fs) t c) c.quantity.0 0) 0
    unfolding period_cut cut_in
    cut-is c h = by (same_period c.period t) refl
      where
        by : (s : Bool) → same_period c.period t ≡ s
            → cond s (closed k (cell_at cells) (slope_in k fs c) c.quantity.0 0) 0 ≡ cond s (closed k (excess g process (of_period t cs)) (slope (factors_of n k fs) t c) c.quantity.0 0) 0
        by true s = closed-cong (cell_at cells) (slope_in k fs c) (excess g process (of_period t cs)) (slope (factors_of n k fs) t c) k c.quantity.0 0 excess-is (slope-is n k fs t c h s)
        by false s = refl

    cuts_are : (i : ℕ) → i < contract_count_in book → period_cut k fs cells t (contract_at book i) ≡ cut_or0 g process t cs i
    unfolding cut_or0
    cuts_are i b =
        cut-is (contract_at book i) ((book-accepted n book accepted).each i b)
        ∙ ap (λ (c : Contract). cond (same_period c.period t) (closed k (excess g process (of_period t cs)) (slope (factors_of n k fs) t c) c.quantity.0 0) 0) (sym (at-index i b))

    -- ---- all of them, in order
    abbrev own : List CutRow
    own = cut_rows_to g process t cs (length cs)

    few : Few own
    few = each_row g process t cs (λ r. r.number < 1024) (length cs) (λ i b c. omega (arith, length-list_to (contract_count_in book) (contract_at book), (book-accepted n book accepted).few))

    collected : passing g process t cs ≡ false → keys_to (λ (i : ℕ). period_cut k fs cells t (contract_at book i)) (contract_count_in book) ≡ map row_key own
    collected out =
        keys_are g process t cs out (λ (i : ℕ). period_cut k fs cells t (contract_at book i)) (contract_count_in book) cuts_are
        ∙ ap (λ (m : ℕ). map row_key (cut_rows_to g process t cs m)) (sym (length-list_to (contract_count_in book) (contract_at book)))

    -- the collected keys, sorted
    pub listed-keys : passing g process t cs ≡ false → (count : ℕ) (keys last : List ℕ) → count ≤ length keys
        → take count keys ≡ keys_to (λ (i : ℕ). period_cut k fs cells t (contract_at book i)) (contract_count_in book) → last ≡ front_sorted count keys
        → take count last ≡ map row_key (least_cuts g process t cs)
    listed-keys out count keys last h e sort =
        cells-front count keys last h sort ∙ ap sorted (e ∙ collected out)
        ∙ sym (ap (map row_key) (failing-rows g process t cs out) ∙ keys_in_order own (numbers-rise g process t cs (length cs)) few)
