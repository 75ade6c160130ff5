-- The entry: the excesses that the flows carried make, the checks in parts, and the promise.
use mathlib.Core.Path.{◌≡◌, refl, sym, ap, ap₂, ◌∙◌, subst}
use mathlib.Core.List.{List, [], ◌∷◌}
use Prim.Native.Nat.{ℕ, ◌*◌, ◌≤◌, ◌<◌}
use native.Mathlib.Omega.{arith}
use borrow.Author.Tests.{lt-ltb, le-ltb}
use lib.ListN.{length, get_or, take}
use lib.Seq.{get_or-take, length-take-le}
use lib.IntN.{ℤ, pos, ◌-ℤ◌}
use Rattle.integers.proofs.Sizes.{nat_abs_sub}
use Rattle.lists.specs.Lists.{list_to}
use Rattle.lists.specs.Lent.{Lent, before, after, overwrite}
use Rattle.lists.proofs.Lists.{length-list_to, get_d_list_to}
use Rattle.lists.proofs.Fronts.{front-is, front-room, front_at}
use Rattle.tariff.specs.declared.contracts.Contract.{Contract}
use Rattle.tariff.specs.declared.contracts.Period.{Period}
use Rattle.tariff.specs.declared.processes.Process.{Process}
use Rattle.tariff.specs.declared.refusals.Refusal.{Refusal}
use Rattle.tariff.specs.declared.refusals.Refusal.TheVariants.{ShortTable}
use Rattle.tariff.specs.Refusals.{Checked, passed}
use Rattle.std.specs.Prelude.{Ok, Err}
use Rattle.tariff.specs.Units.{Grid, factors_of, grid_of, max_limit}
use Rattle.tariff.specs.ContractRules.{of_period}
use Rattle.tariff.specs.Processes.{percent}
use Rattle.tariff.specs.Refusals.{Check, first, given, cells_after}
use Rattle.tariff.specs.Checks.{short_table}
use Rattle.tariff.specs.Feasibility.{released, excess}
use Rattle.tariff.proofs.Answers.{answer-refused, cells-refused, answer-passed, cells-passed}
use Rattle.tariff.proofs.Checks.{append_refuses, append_passes, first-refuses, last-passes}
use Rattle.layouts.specs.BookFile.{book_in, contract_count_in, contract_at}
use Rattle.grid_tables.specs.Inner.{GoodFactors, GoodCells}
use Rattle.book_rules.specs.BookChecks.{book_checks}
use Rattle.book_rules.proofs.Accepted.{book-accepted}
use Rattle.test_rules.specs.declared.Flows.{Flows}
use Rattle.test_rules.specs.TestBook.{TestCall, test_checks, test_checked, tested_grid, tested_process, tested_contracts}
use Rattle.test_rules.specs.Carried.{Carries}
use Rattle.test_rules.proofs.Flowing.{count_most, flow-most}
use Rattle.test_rules.proofs.Judging.{released-small}
use Rattle.exposure_rules.specs.Theorems.{Exposes}
use Rattle.exposure_rules.proofs.Theorems.{exposes, exposure_list}
use Rattle.exposure_figures.proofs.Figures.{figures}
use Rattle.exposure_bounds.specs.declared.Exposure.{Exposure}
use Rattle.grid_tables.specs.Grids.{grid_by}
use Rattle.test_terms.specs.declared.tested.Tested.{Tested}
use Rattle.test_verdict.specs.declared.loading.Loading.{Loading}
use Rattle.test_excesses.specs.Inner.{cell_at, excess_in}
use Rattle.exposure_prices.specs.Inner.{Excesses}
use Rattle.exposure_bounds.specs.Inner.{contracts_by, AreExcesses, Exposed}
use Rattle.exposure_bounds.specs.FindExposure.{exposure_checks, exposure_checked, least, most, price_cells, exposure_values, FindsExposure}

-- ---- the excesses

module _ (n k : ℕ) (ls : List ℕ) (fs : List ℤ) (process : Process) (t : Period) (book : List ℕ) (gl : GoodCells max_limit k ls) (gf : GoodFactors n k fs)
    (own : first (book_checks n book) ≡ passed) (carried : Flows) (carries : Carries (factors_of n k fs) (of_period t (book_in book)) carried)
    (entry cells : List ℤ) (fills : cells ≡ overwrite (list_to k (excess_in ls process carried.flows)) entry) where
  cell_is : (j : ℕ) → j < k → cell_at cells j ≡ excess_in ls process carried.flows j
  cell_is j h =
      let f = excess_in ls process carried.flows in
      ap (λ (xs : List ℤ). cell_at xs j) fills ∙ front_at (list_to k f) entry k (length-list_to k f) j (pos 0) h ∙ get_d_list_to k f j (pos 0) h

  -- the first cells alone
  pub front-long : length (take k cells) ≡ k
  front-long = length-take-le k cells (rw fills (front-room (list_to k (excess_in ls process carried.flows)) entry k (length-list_to k (excess_in ls process carried.flows))))

  pub are_excesses : AreExcesses (grid_of n k ls fs) process (of_period t (book_in book)) (take k cells)
  unfolding excess released
  are_excesses =
      record {
        each = λ j h. get_or-take k cells j (pos 0) h ∙ cell_is j h ∙ ap₂ ◌-ℤ◌ (carries.flows-are j h) (ap (λ (x : ℕ). pos (x * percent process * 1000)) (sym (get_or-take k ls j 0 h)));
      }

  pub excesses : Excesses (length (take k cells)) (take k cells)
  excesses =
      let b = book-accepted n book own in
      record {
        few = rw front-long gf.few;
        long = omega arith;
        sized = λ j within.
            let h : j < k = rw front-long at within in
            rw (get_or-take k cells j (pos 0) h, cell_is j h) (omega (
              arith,
              b.few,
              nat_abs_sub (cell_at carried.flows j) (pos (get_or ls j 0 * percent process * 1000)),
              count_most (factors_of n k fs) (contract_count_in book) t (contract_at book) carried b.each carries,
              flow-most (factors_of n k fs) (contract_count_in book) t (contract_at book) carried b.each carries gf.in_range j h,
              released-small (pos (get_or ls j 0 * percent process * 1000)) (get_or ls j 0) process (gl.sized j h) refl,
            ));
      }

-- what the cells are of what is tested, by the loading that was made of the flows
pub record Filled (t : Tested) (cells : List ℤ) : Type 0 where
  pub long : length cells ≡ t.grid.factors.constraints
  pub sized : Excesses (length cells) cells
  pub are : AreExcesses (grid_by t.grid) t.process (contracts_by t) cells

pub filled : (t : Tested) (carried : Flows) → Carries (factors_of t.grid.factors.nodes t.grid.factors.constraints t.grid.factors.cells.now) (contracts_by t) carried
    → (l : Loading) → l.constraints ≡ t.grid.factors.constraints → l.limits.now ≡ t.grid.limits.now → l.flows.now ≡ carried → (entry cells : List ℤ)
    → cells ≡ overwrite (list_to l.constraints (excess_in l.limits.now t.process l.flows.now.flows)) entry → Filled t (take t.grid.factors.constraints cells)
filled t carried carries l same-constraints same-limits same-flows entry cells e =
    let g = t.grid in
    let n = g.factors.nodes in
    let k = g.factors.constraints in
    let ls = g.limits.now in
    let fs = g.factors.cells.now in
    let book = t.book.now in
    let fills : cells ≡ overwrite (list_to k (excess_in ls t.process carried.flows)) entry =
    e ∙ (λ i. overwrite (list_to (same-constraints i) (excess_in (same-limits i) t.process (same-flows i).flows)) entry) in
    record {
      long = front-long n k ls fs t.process t.period book g.good g.factors.good t.accepted carried carries entry cells fills;
      sized = excesses n k ls fs t.process t.period book g.good g.factors.good t.accepted carried carries entry cells fills;
      are = are_excesses n k ls fs t.process t.period book g.good g.factors.good t.accepted carried carries entry cells fills;
    }

-- ---- the checks: x is what the test's found

module _ (q : TestCall) (place : List ℕ) where
  abbrev room : List Check
  room = short_table (length place) q.constraints ∷ []

  module _ (x : Checked) (found : x ≡ test_checked q) where
    pub test-refuses : (r : Refusal) → x ≡ Err r → Err r ≡ exposure_checked q place
    unfolding exposure_checks
    test-refuses r told = sym (append_refuses (test_checks q) room r (sym found ∙ told))

    then_room : x ≡ passed → exposure_checked q place ≡ first room
    unfolding exposure_checks
    then_room told = append_passes (test_checks q) room (sym found ∙ told)

    pub no_room : x ≡ passed → length place < q.constraints → Err ShortTable ≡ exposure_checked q place
    no_room told h = sym (then_room told ∙ first-refuses _ _ (lt-ltb (length place) q.constraints h))

    pub all-fits : x ≡ passed → q.constraints ≤ length place → passed ≡ exposure_checked q place
    all-fits told h = sym (then_room told ∙ last-passes _ (le-ltb (length place) q.constraints h))

-- ---- the promise

-- what is exposed of what is equal
pub exposed-kept : {g h : Grid} {p q : Process} {cs ds : List Contract} → g ≡ h → p ≡ q → cs ≡ ds → (entry exit : List ℕ) (r : Exposure)
    → Exposed g p cs entry exit r → Exposed h q ds entry exit r
exposed-kept {g} {h} {p} {q} {cs} {ds} same-grid same-process same-contracts entry exit r exposed =
    let grids = subst (λ (x : Grid). Exposed x p cs entry exit r) same-grid exposed in
    let processes = subst (λ (x : Process). Exposed h x cs entry exit r) same-process grids in
    subst (λ (x : List Contract). Exposed h q x entry exit r) same-contracts processes

module _ (q : TestCall) (prices : Lent (List ℕ)) where
  exposed : after prices ≡ cells_after (exposure_checked q (before prices)) (price_cells q) (before prices) → exposure_checked q (before prices) ≡ passed
      → Exposes (tested_grid q) (tested_process q) (tested_contracts q) (take q.constraints (after prices)) (least q) (most q)
  exposed e passed =
      subst (λ (p : List ℕ). Exposes (tested_grid q) (tested_process q) (tested_contracts q) p (least q) (most q)) (sym stands)
      (exposes (tested_grid q) (tested_process q) (tested_contracts q))
    where
      stands : take q.constraints (after prices) ≡ price_cells q
      stands =
          ap (take q.constraints) (e ∙ ap (λ (x : Checked). cells_after x (price_cells q) (before prices)) passed)
          ∙ front-is (price_cells q) (before prices) q.constraints (exposure_list (tested_grid q) (tested_process q) (tested_contracts q)).one_each

  pub refuses : (x : Checked) → x ≡ exposure_checked q (before prices) → (r : Refusal) → x ≡ Err r → after prices ≡ before prices
      → FindsExposure q prices (Err r)
  refuses x found r told kept =
      let cells = kept ∙ cells-refused x (exposure_checked q (before prices)) found r told (price_cells q) (before prices) in
      record { figures-given = answer-refused x (exposure_checked q (before prices)) found r told _; prices-found = cells; exposes = exposed cells }

  pub finds : (x : Checked) → x ≡ exposure_checked q (before prices) → x ≡ passed → (r : Exposure)
      → Exposed (tested_grid q) (tested_process q) (tested_contracts q) (before prices) (after prices) r
      → FindsExposure q prices (Ok r)
  finds x found told r e =
      let a = figures (least q) r.least e.least in
      let b = figures (most q) r.most e.most in
      let cells = cells-passed x (exposure_checked q (before prices)) found told (price_cells q) (before prices) (after prices) e.prices in
      record {
        figures-given =
            (λ i. given (a.0 i ∷ pos (a.1 i) ∷ b.0 i ∷ pos (b.1 i) ∷ []))
            ∙ answer-passed x (exposure_checked q (before prices)) found told (exposure_values q);
        prices-found = cells;
        exposes = exposed cells;
      }
