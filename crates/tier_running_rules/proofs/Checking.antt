-- What the checks of opening and adding find, and what holds where none refuses.
use mathlib.Core.Path.{◌≡◌, refl, sym, ap, ◌∙◌}
use mathlib.Core.Bool.{Bool, true, false, cond, ◌||◌}
use mathlib.Core.List.{List, [], ◌∷◌, ◌++◌, append_assoc}
use Prim.Native.Nat.{ℕ, ◌+◌, ◌*◌, ◌≤◌, ◌<◌}
use native.Mathlib.Omega.{arith}
use borrow.Author.Tests.{lt-ltb, le-ltb, ltb-false}
use lib.Dec.{ltb}
use lib.ListN.{length, take}
use lib.IntN.{ℤ}
use Rattle.lists.proofs.Search.{neither}
use Rattle.tariff.specs.declared.refusals.Refusal.{Refusal}
use Rattle.tariff.specs.declared.refusals.Refusal.TheVariants.{ShortTable, ContractCount}
use Rattle.tariff.specs.Refusals.{Checked, passed}
use Rattle.std.specs.Prelude.{Ok, Err}
use Rattle.tariff.specs.Units.{max_contracts}
use Rattle.tariff.specs.Refusals.{Check, first}
use Rattle.tariff.specs.Checks.{node_count, constraint_count, process_number, period_number, short_table, limit_range, factor_range, contract_count}
use Rattle.tariff.proofs.Checks.{first_passes, first-refuses, first_under, append_refuses, append_passes, passed_cons, passed_append}
use Rattle.grid_tables.specs.TableChecks.{grid_table_checks}
use Rattle.grid_tables.proofs.Passing.{GridTables, grid-tables}
use Rattle.layouts.specs.BookTable.{contract_cells}
use Rattle.book_rules.specs.WriteBook.{row_checks}
use Rattle.tier_rules.specs.Checks.{running_checks, award_checks}
use Rattle.tier_rules.specs.Cells.{awards_cells, state_numbers, state_flows, state_buffers}
use Rattle.tier_running_rules.specs.OpenRunning.{OpenRunningCall, open_running_checks, open_running_checked}
use Rattle.tier_running_rules.specs.AddAward.{AddAwardCall, add_listed}
use Rattle.tier_running_rules.specs.Inner.{counts_bad_of, state_short_of, short_if, up_to13}

-- ---- the tables, with one 9 for the buffers

module _ (n k process period : ℕ) (limits : List ℕ) (factors : List ℤ) where
  decided-early : (w x y z : Bool) (r s t u p q : Checked) → (w || (x || (y || z))) ≡ true → cond w r (cond x s (cond y t (cond z u p))) ≡ cond w r (cond x s (cond y t (cond z u q)))
  decided-early true x y z r s t u p q e = refl
  decided-early false true y z r s t u p q e = refl
  decided-early false false true z r s t u p q e = refl
  decided-early false false false true r s t u p q e = refl
  decided-early false false false false r s t u p q e = cc

  abbrev listed : List Check → List Check
  listed buffers = running_checks n k process period limits factors buffers

  abbrev plain : List Check
  plain = grid_table_checks n k process period limits factors

  -- a count or number that is refused is refused before any table is looked at
  pub counts-first : counts_bad_of n k process period ≡ true → (b : Bool) → first plain ≡ first (listed (short_if b ∷ []))
  unfolding first grid_table_checks running_checks
  counts-first e b =
      decided-early (node_count n).fails (constraint_count k).fails (process_number process).fails (period_number period).fails _ _ _ _ _ _ e

  pub buffers_long : first plain ≡ first (listed (short_if false ∷ []))
  unfolding first grid_table_checks running_checks
  buffers_long = refl

  pub buffers_short : counts_bad_of n k process period ≡ false → Err ShortTable ≡ first (listed (short_if true ∷ []))
  unfolding first running_checks
  buffers_short e =
      let a = neither (node_count n).fails ((constraint_count k).fails || ((process_number process).fails || (period_number period).fails)) e in
      let b = neither (constraint_count k).fails ((process_number process).fails || (period_number period).fails) a.1 in
      let c = neither (process_number process).fails (period_number period).fails b.1 in
      rw (a.0, b.0, c.0, c.1) (by (ltb (length limits) k) (ltb (length factors) (n * k)))
    where
      by : (x y : Bool) → ◌≡◌ {A = Checked} (Err ShortTable) (cond x (Err ShortTable) (cond y (Err ShortTable) (Err ShortTable)))
      by true y = refl
      by false true = refl
      by false false = refl

  -- where none refuses, the buffers are long and the tables good
  pub listed-passed : (b : Bool) → first (listed (short_if b ∷ [])) ≡ passed → (b ≡ false) × GridTables n k process period limits factors
  unfolding running_checks
  listed-passed b e =
      let nine = (passed_cons _ _ (passed_cons _ _ (passed_cons _ _ (passed_cons _ _ e).1).1).1).1 in
      let f : b ≡ false = (passed_cons _ _ (passed_cons _ _ (passed_cons _ _ nine).1).1).0 in
      (f, grid-tables n k process period limits factors (buffers_long ∙ ap (λ (x : Bool). first (listed (short_if x ∷ []))) (sym f) ∙ e))

  -- buffers that find the same
  pub listed-under : (xs ys : List Check) → ((rest : List Check) → first (xs ++ rest) ≡ first (ys ++ rest)) → first (listed xs) ≡ first (listed ys)
  unfolding running_checks
  listed-under xs ys e =
      first_under _ _ _ (first_under _ _ _ (first_under _ _ _ (first_under _ _ _ (first_under _ _ _ (first_under _ _ _ (e (limit_range (take k limits) ∷ factor_range (take (n * k) factors) ∷ [])))))))

-- 9 after 9 is one 9
three : (a b c : Bool) (rest : List Check) → first (short_if a ∷ short_if b ∷ short_if c ∷ rest) ≡ first (short_if (a || (b || c)) ∷ rest)
unfolding first
three true b c rest = refl
three false true c rest = refl
three false false c rest = refl

four : (a b c d : Bool) (rest : List Check) → first (short_if a ∷ short_if b ∷ short_if c ∷ short_if d ∷ rest) ≡ first (short_if (a || (b || (c || d))) ∷ rest)
unfolding first
four true b c d rest = refl
four false b c d rest = three b c d rest

-- three of them pass
long-three : (a n f : ℕ) → state_short_of a n f ≡ false → (awards_cells ≤ a) × (state_numbers ≤ n) × (state_flows ≤ f)
long-three a n f e =
    let p = neither (ltb a awards_cells) (ltb n state_numbers || ltb f state_flows) e in
    let q = neither (ltb n state_numbers) (ltb f state_flows) p.1 in
    (ltb-false a awards_cells p.0, ltb-false n state_numbers q.0, ltb-false f state_flows q.1)

-- ---- opening: x is what the tables' checks found

module _ (q : OpenRunningCall) where
  abbrev pub open_short : Bool
  open_short = state_short_of (length q.awards) (length q.numbers) (length q.flows)

  pub open_is : (x : Checked) → x ≡ first (running_checks q.nodes q.constraints q.process q.period q.limits q.factors (short_if open_short ∷ [])) → x ≡ open_running_checked q
  unfolding open_running_checks
  open_is x found =
      found
      ∙ listed-under q.nodes q.constraints q.process q.period q.limits q.factors (short_if open_short ∷ []) _
      (λ rest. sym (three (ltb (length q.awards) awards_cells) (ltb (length q.numbers) state_numbers) (ltb (length q.flows) state_flows) rest))

  pub record Openable : Type 0 where
    pub tables : GridTables q.nodes q.constraints q.process q.period q.limits q.factors
    pub numbers-long : state_numbers ≤ length q.numbers
    pub flows_long : state_flows ≤ length q.flows

  pub openable : open_running_checked q ≡ passed → Openable
  openable e =
      let p = listed-passed q.nodes q.constraints q.process q.period q.limits q.factors open_short (open_is _ refl ∙ e) in
      let l = long-three (length q.awards) (length q.numbers) (length q.flows) p.0 in
      record { tables = p.1; numbers-long = l.1; flows_long = l.2 }

-- ---- adding

module _ (q : AddAwardCall) where
  abbrev pub add_short : Bool
  add_short = ltb (length q.award) contract_cells || state_short_of (length q.awards) (length q.numbers) (length q.flows)

  abbrev pub tables_listed : List Check
  tables_listed =
      running_checks q.nodes q.constraints q.process q.period q.limits q.factors
      (short_table (length q.award) contract_cells ∷ short_table (length q.awards) awards_cells ∷ state_buffers q.numbers q.flows)

  tables-are : first (running_checks q.nodes q.constraints q.process q.period q.limits q.factors (short_if add_short ∷ [])) ≡ first tables_listed
  tables-are =
      listed-under q.nodes q.constraints q.process q.period q.limits q.factors (short_if add_short ∷ []) _
      (λ rest. sym (four (ltb (length q.award) contract_cells) (ltb (length q.awards) awards_cells) (ltb (length q.numbers) state_numbers) (ltb (length q.flows) state_flows) rest))

  pub record AddTables : Type 0 where
    pub tables : GridTables q.nodes q.constraints q.process q.period q.limits q.factors
    pub award-long : contract_cells ≤ length q.award
    pub awards-long : awards_cells ≤ length q.awards
    pub numbers-long : state_numbers ≤ length q.numbers
    pub flows_long : state_flows ≤ length q.flows

  pub add_tables : first tables_listed ≡ passed → AddTables
  add_tables e =
      let p = listed-passed q.nodes q.constraints q.process q.period q.limits q.factors add_short (tables-are ∙ e) in
      let a = neither (ltb (length q.award) contract_cells) (state_short_of (length q.awards) (length q.numbers) (length q.flows)) p.0 in
      let l = long-three (length q.awards) (length q.numbers) (length q.flows) a.1 in
      record { tables = p.1; award-long = ltb-false (length q.award) contract_cells a.0; awards-long = l.0; numbers-long = l.1; flows_long = l.2 }

  -- x is what the tables' checks found
  module _ (x : Checked) (found : x ≡ first (running_checks q.nodes q.constraints q.process q.period q.limits q.factors (short_if add_short ∷ []))) (held : ℕ) where
    pub tables-refuse : (r : Refusal) → x ≡ Err r → Err r ≡ first (up_to13 q held)
    unfolding up_to13
    tables-refuse r told = sym (append_refuses tables_listed _ r (sym (found ∙ tables-are) ∙ told))

    pub tables-pass : x ≡ passed → AddTables
    tables-pass told = add_tables (sym (found ∙ tables-are) ∙ told)

    pub one_too_many : x ≡ passed → 1000 ≤ held → Err ContractCount ≡ first (up_to13 q held)
    unfolding up_to13
    one_too_many told h = sym (append_passes tables_listed _ (sym (found ∙ tables-are) ∙ told) ∙ first-refuses (contract_count (held + 1)) _ (lt-ltb max_contracts (held + 1) (omega arith)))

    pub then_row : x ≡ passed → held < 1000 → (y : Checked) → y ≡ first (row_checks q.nodes q.award 0) → y ≡ first (up_to13 q held)
    unfolding up_to13
    then_row told h y e =
        e ∙ sym (append_passes tables_listed _ (sym (found ∙ tables-are) ∙ told)
        ∙ first_passes (contract_count (held + 1)) (row_checks q.nodes q.award 0) (le-ltb max_contracts (held + 1) (omega arith)))

  -- what holds where none before 21 refuses
  pub record Fields (held : ℕ) : Type 0 where
    pub before : AddTables
    pub room : held < max_contracts
    pub row : first (row_checks q.nodes q.award 0) ≡ passed

  pub fields : (held : ℕ) → first (up_to13 q held) ≡ passed → Fields held
  unfolding up_to13
  fields held e =
      let p = passed_append tables_listed (contract_count (held + 1) ∷ row_checks q.nodes q.award 0) e in
      let r = passed_cons _ _ p.1 in
      record { before = add_tables p.0; room = omega (arith, ltb-false max_contracts (held + 1) r.0); row = r.1 }

  -- 21 is the last
  pub listed-parts : (held : ℕ) (over : Check) → add_listed q held over ≡ up_to13 q held ++ over ∷ []
  unfolding add_listed up_to13 award_checks
  listed-parts held over = sym (append_assoc tables_listed (contract_count (held + 1) ∷ row_checks q.nodes q.award 0) (over ∷ []))
