-- What `add_award` finds, by the state in its buffers: in another order, under raised limits, with an option more.
use mathlib.Core.Path.{◌≡◌, refl, sym, ap, ◌∙◌}
use mathlib.Core.Bool.{Bool, true, false}
use mathlib.Core.List.Perm
use mathlib.Core.List.{List, [], ◌∷◌, ◌++◌}
use mathlib.Core.Option.{Option, none, some}
use Prim.Native.Nat.{ℕ, ◌+◌, ◌*◌, ◌≤◌, ◌<◌}
use borrow.Author.Tests.{le-ltb}
use lib.ListN.{length, get_or, take}
use lib.Seq.{get_or-take}
use Rattle.tariff.specs.declared.refusals.Refusal.TheVariants.{ShortTable, AwardOverload}
use Rattle.tariff.specs.Refusals.{Checked, passed}
use Rattle.std.specs.Prelude.{Ok, Err}
use Rattle.tariff.specs.Units.{Grid, grid_of, max_contracts}
use Rattle.tariff.specs.ContractRules.{period_of}
use Rattle.tariff.specs.Refusals.{Check, Outcome, first, decided, number_after}
use Rattle.tariff.specs.Checks.{node_count, constraint_count, process_number, period_number, short_table, limit_range, factor_range, contract_count, kind_and_period, holder_range, node_number, quantity_range}
use Rattle.tariff.proofs.Answers.{number-of, none-refused}
use Rattle.tariff.proofs.Checks.{first-append}
use Rattle.layouts.specs.BookTable.{contract_cells}
use Rattle.book_rules.specs.BookChecks.{contract_checks}
use Rattle.book_rules.specs.WriteBook.{row_checks}
use Rattle.order_rules.specs.Reordering.{Reordered}
use Rattle.order_rules.specs.Relief.{Raised, OptionMore}
use Rattle.tier_rules.specs.Cells.{RunningAnswer}
use Rattle.tier_rules.specs.Tiers.{Tiers, with_award}
use Rattle.tier_rules.specs.Checks.{running_checks, award_checks, award_over, add_checks}
use Rattle.tier_rules.specs.Cells.{awards_cells, state_numbers, state_flows, StateCells, state_cells, state_buffers, running_outcome, MarkIs}
use Rattle.tier_running_rules.specs.AddAward.{AddAwardCall, add_grid, add_process, add_period, awarded, add_listed, add_award_checked, add_award_checks, AddGoesOn, AddsAward}
use Rattle.tier_running_rules.specs.OpenRunning.{OpenRunningCall}
use Rattle.tier_reordering.proofs.Theorems.{awards-held}
use Rattle.tier_calls.specs.Runs.{CellRun, add_on}
use Rattle.tier_calls.specs.Adding.{StateIn, state_after, open_into, add_into, add_under, SameRoom, LimitsRaised, AddedAlike, TierAnswers}
use Rattle.tier_calls.proofs.Runs.{every_run}
use Rattle.tier_calls.proofs.Relieved.{exchanged, found_there, drew_21}

-- the number of an answer is its checks'
entry_number : (q : AddAwardCall) (a : RunningAnswer) (x : StateCells) → AddsAward q a x → (running_outcome a).number ≡ number_after (add_award_checked q)
entry_number q a x h = ap (λ (o : Outcome). o.number) h.answer-given ∙ number-of (add_award_checked q) []

-- the two parts of the list: tables and buffers, then the award
abbrev tables_of : AddAwardCall → List Check
tables_of q =
    running_checks q.nodes q.constraints q.process q.period q.limits q.factors
    (short_table (length q.award) contract_cells ∷ short_table (length q.awards) awards_cells ∷ state_buffers q.numbers q.flows)

abbrev award_of : AddAwardCall → Tiers → List Check
award_of q s = add_checks (add_grid q) (add_process q) (add_period q) s q.award

parts : (q : AddAwardCall) (s : Tiers) → first (add_award_checks q s) ≡ decided (first (tables_of q)) Err (first (award_of q s))
unfolding add_listed
parts q s = first-append (tables_of q) (award_of q s)

-- 9 by what it finds
abbrev short : Bool → Check
short fails = record { fails = fails; refusal = ShortTable }

-- ---- the awards held in another order

module _ (q : AddAwardCall) (other : StateCells) (s r : Tiers) (h : StateIn q s) (l : StateIn (add_into q other) r) (room : SameRoom q other) where
  abbrev p : AddAwardCall
  p = add_into q other

  same_tables : first (tables_of q) ≡ first (tables_of p)
  same_tables = λ i.
      first (running_checks q.nodes q.constraints q.process q.period q.limits q.factors
      (short_table (length q.award) contract_cells ∷ short (room.awards-alike i) ∷ short (room.numbers-alike i) ∷ short (room.flows-alike i) ∷ []))

  module _ (x y : StateCells) (u : AddGoesOn q x) (v : AddGoesOn p y) where
    checks_q : add_award_checked q ≡ decided (first (tables_of q)) Err (first (award_of q s))
    checks_q = u.checks_are s h.reached h.holds ∙ parts q s

    checks_p : add_award_checked p ≡ decided (first (tables_of p)) Err (first (award_of p r))
    checks_p = v.checks_are r l.reached l.holds ∙ parts p r

    module _ (same : Reordered s.awards r.awards) where
      same_checks : add_award_checked q ≡ add_award_checked p
      same_checks =
          checks_q ∙ (λ i. decided (same_tables i) Err (awards-held.adding-alike (add_grid q) (add_process q) (add_period q) s r q.award same i)) ∙ sym checks_p

      reordered_after : (c : Checked) → Reordered (decided c (λ z. s) (with_award (awarded q) s)).awards (decided c (λ z. r) (with_award (awarded q) r)).awards
      reordered_after (Ok _) = Perm.append_right (awarded q ∷ []) same
      reordered_after (Err z) = same

      still : Reordered (state_after q s).awards (state_after p r).awards
      still = rw same_checks (reordered_after (add_award_checked p))

      alike : (a b : ℕ) → a ≡ number_after (add_award_checked q) → b ≡ number_after (add_award_checked p) → AddedAlike q p s r a b x y
      alike a b m n =
          record {
            same_answer = m ∙ ap number_after same_checks ∙ sym n;
            same_cells =
                awards-held.held_reordered (add_grid q) (add_period q) (state_after q s) (state_after p r) x y
                (u.runs_on s h.reached h.holds).holds (v.runs_on r l.reached l.holds).holds still;
            still_reordered = still;
          }

    -- ---- an option more

    module _ (more : OptionMore s.awards r.awards) (few : length r.awards < max_contracts) where
      draws : (c d : Checked) → c ≡ d → decided c Err (first (award_of q s)) ≡ Err AwardOverload → decided d Err (first (award_of p r)) ≡ Err AwardOverload
      draws c (Ok _) e z =
          awards-held.option_held_adding_draws_21 (add_grid q) (add_process q) (add_period q) s r q.award more few (sym (ap (λ (k : Checked). decided k Err (first (award_of q s))) e) ∙ z)
      draws c (Err w) e z = sym (ap (λ (k : Checked). decided k Err (first (award_of q s))) e) ∙ z

      still_21 : (a b : ℕ) → a ≡ number_after (add_award_checked q) → b ≡ number_after (add_award_checked p) → a ≡ 21 → b ≡ 21
      still_21 a b m n z =
          n ∙ ap number_after (checks_p ∙ draws (first (tables_of q)) (first (tables_of p)) same_tables (sym checks_q ∙ drew_21 (add_award_checked q) (sym m ∙ z)))

-- ---- limits raised

-- the checks over a state, with the limits' two and 21 apart
listed : AddAwardCall → ℕ → List ℕ → Check → List Check
listed q held limits over =
    node_count q.nodes ∷ constraint_count q.constraints ∷ process_number q.process ∷ period_number q.period
    ∷ short_table (length limits) q.constraints
    ∷ short_table (length q.factors) (q.nodes * q.constraints) ∷ short_table (length q.award) contract_cells ∷ short_table (length q.awards) awards_cells
    ∷ short_table (length q.numbers) state_numbers ∷ short_table (length q.flows) state_flows
    ∷ limit_range (take q.constraints limits)
    ∷ factor_range (take (q.nodes * q.constraints) q.factors) ∷ contract_count (held + 1)
    ∷ kind_and_period (get_or q.award 0 0) (get_or q.award 1 0) ∷ holder_range (get_or q.award 2 0)
    ∷ node_number q.nodes (awarded q).source (awarded q).sink ∷ quantity_range (awarded q).quantity.0
    ∷ over
    ∷ []

is-listed : (q : AddAwardCall) (s : Tiers) → add_award_checks q s ≡ listed q (length s.awards) q.limits (award_over (add_grid q) (add_process q) (add_period q) s.awards (awarded q))
unfolding listed add_listed running_checks award_checks row_checks contract_checks
is-listed q s = refl

-- of the call only what is no limit
listed-under : (q : AddAwardCall) (limits : List ℕ) (held : ℕ) (c : Check) → listed (add_under q limits) held limits c ≡ listed q held limits c
unfolding listed
listed-under q limits held c = refl

module _ (q : AddAwardCall) (limits : List ℕ) (held : ℕ) (c d : Check) where
  relieved : q.constraints ≤ length limits → (limit_range (take q.constraints limits)).fails ≡ false → (c.fails ≡ false → d.fails ≡ false)
      → first (listed q held q.limits c) ≡ passed → first (listed q held limits d) ≡ passed
  unfolding listed
  relieved long range eased ok =
      let n = q.nodes in
      let k = q.constraints in
      let counts = node_count n ∷ constraint_count k ∷ process_number q.process ∷ period_number q.period ∷ [] in
      let tables =
      short_table (length q.factors) (n * k) ∷ short_table (length q.award) contract_cells ∷ short_table (length q.awards) awards_cells
      ∷ short_table (length q.numbers) state_numbers ∷ short_table (length q.flows) state_flows ∷ [] in
      let fields =
      factor_range (take (n * k) q.factors) ∷ contract_count (held + 1)
      ∷ kind_and_period (get_or q.award 0 0) (get_or q.award 1 0) ∷ holder_range (get_or q.award 2 0)
      ∷ node_number n (awarded q).source (awarded q).sink ∷ quantity_range (awarded q).quantity.0 ∷ [] in
      let short = short_table (length limits) k in
      let in_range = limit_range (take k limits) in
      let one = exchanged counts (short_table (length q.limits) k) short (tables ++ limit_range (take k q.limits) ∷ (fields ++ c ∷ [])) (le-ltb (length limits) k long) ok in
      let two = exchanged (counts ++ short ∷ tables) (limit_range (take k q.limits)) in_range (fields ++ c ∷ []) range one in
      let before = counts ++ short ∷ (tables ++ in_range ∷ fields) in
      exchanged before c d [] (eased (found_there before c [] two)) two

module _ (q : AddAwardCall) (limits : List ℕ) (s : Tiers) (up : LimitsRaised q limits) (h : StateIn q s) where
  abbrev high : AddAwardCall
  high = add_under q limits

  more : Raised (add_grid q) (add_grid high)
  more =
      let k = q.constraints in
      record { factors-same = refl; limits-raised = λ j i. rw (get_or-take k q.limits j 0 i, get_or-take k limits j 0 i) (up.raised j i) }

  -- the cells hold flows, and no limits
  mark : (i : ℕ) (o : Option ℕ) → MarkIs (add_grid q) (add_period q) s.awards (state_cells q.awards q.numbers q.flows) i o
      → MarkIs (add_grid high) (add_period q) s.awards (state_cells q.awards q.numbers q.flows) i o
  mark i none m = m
  mark i (some n) m = record { set_is = m.set_is; held_is = m.held_is; counted_is = m.counted_is; block = record { flows-are = m.block.flows-are } }

  state : StateIn high s
  state =
      let l = h.holds in
      record {
        reached = awards-held.limits-raised_reached (add_grid q) (add_grid high) (add_process q) (add_period q) s more h.reached;
        holds =
            record {
              few = l.few;
              rows = l.rows;
              held_is = l.held_is;
              counted_is = l.counted_is;
              block = record { flows-are = l.block.flows-are };
              marks = λ i lo hi. mark i (s.mark i) (l.marks i lo hi);
            };
      }

  abbrev over : Grid → Check
  over g = award_over g (add_process q) (add_period q) s.awards (awarded q)

  eased : (over (add_grid q)).fails ≡ false → (over (add_grid high)).fails ≡ false
  eased low = by (over (add_grid high)).fails refl
    where
      by : (b : Bool) → (over (add_grid high)).fails ≡ b → b ≡ false
      by true e = sym (awards-held.limits-raised_add_no_21 (add_grid q) (add_grid high) (add_process q) (add_period q) s.awards (awarded q) more e) ∙ low
      by false e = refl

  still_added : (x y : StateCells) → AddGoesOn q x → AddGoesOn high y → (a b : ℕ) → a ≡ number_after (add_award_checked q) → b ≡ number_after (add_award_checked high)
      → a ≡ 0 → b ≡ 0
  still_added x y u v a b m n z =
      let low : first (listed q (length s.awards) q.limits (over (add_grid q))) ≡ passed
      = sym (u.checks_are s h.reached h.holds ∙ ap first (is-listed q s)) ∙ none-refused (add_award_checked q) (sym z ∙ m) in
      let found = relieved q limits (length s.awards) (over (add_grid q)) (over (add_grid high)) up.long up.in_range eased low in
      n ∙ ap number_after (v.checks_are s state.reached state.holds ∙ ap first (is-listed high s ∙ listed-under q limits (length s.awards) (over (add_grid high))) ∙ found)

-- what runs have come to

state_of : (o : OpenRunningCall) (s : Tiers) (c : StateCells) → CellRun o s c → (award : List ℕ) → StateIn (add_on o award c) s
state_of o s c r award = let h = (every_run.every_run_runs o s c r).running in record { reached = h.reached; holds = h.holds }

room_of : (o : OpenRunningCall) (buffers : StateCells) (s r : Tiers) (c d : StateCells) → CellRun o s c → CellRun (open_into o buffers) r d → (award : List ℕ)
    → SameRoom (add_on o award c) d
room_of o buffers s r c d u v award =
    let l = every_run.buffers_stay_long o s c u in
    let m = every_run.buffers_stay_long (open_into o buffers) r d v in
    record {
      awards-alike = le-ltb (length c.awards) awards_cells l.awards-long ∙ sym (le-ltb (length d.awards) awards_cells m.awards-long);
      numbers-alike = le-ltb (length c.numbers) state_numbers l.numbers-long ∙ sym (le-ltb (length d.numbers) state_numbers m.numbers-long);
      flows-alike = le-ltb (length c.flows) state_flows l.flows_long ∙ sym (le-ltb (length d.flows) state_flows m.flows_long);
    }

pub tier-answers : TierAnswers
tier-answers =
    record {
      run_state = state_of;
      runs_room = room_of;
      runs_reordered = λ o buffers s r c d u v.
          awards-held.held_reordered (grid_of o.nodes o.constraints o.limits o.factors) (period_of o.period) s r c d
          (every_run.every_run_runs o s c u).running.holds (every_run.every_run_runs (open_into o buffers) r d v).running.holds;
      runs_added_alike = λ o buffers s r c d u v same award a b x y m n.
          alike (add_on o award c) d s r (state_of o s c u award) (state_of (open_into o buffers) r d v award) (room_of o buffers s r c d u v award) x y m.running n.running
          same _ _ (entry_number (add_on o award c) a x m) (entry_number (add_on o award d) b y n);
      crr_runs_added_alike = λ o buffers s r c d u v same award a b x y m n.
          alike (add_on o award c) d s r (state_of o s c u award) (state_of (open_into o buffers) r d v award) (room_of o buffers s r c d u v award) x y m.promised.running
          n.promised.running same a b (m.refusal-number ∙ entry_number (add_on o award c) m.answer x m.promised)
          (n.refusal-number ∙ entry_number (add_on o award d) n.answer y n.promised);
      added-alike = λ q other s r h l room same a b x y u v.
          alike q other s r h l room x y u.running v.running same _ _ (entry_number q a x u) (entry_number (add_into q other) b y v);
      crr_added_alike = λ q other s r h l room same a b x y u v.
          alike q other s r h l room x y u.promised.running v.promised.running same a b
          (u.refusal-number ∙ entry_number q u.answer x u.promised) (v.refusal-number ∙ entry_number (add_into q other) v.answer y v.promised);
      raised-state = state;
      raised-still_added = λ q limits s up h a b x y u v.
          still_added q limits s up h x y u.running v.running _ _ (entry_number q a x u) (entry_number (add_under q limits) b y v);
      crr_raised_still_added = λ q limits s up h a b x y u v.
          still_added q limits s up h x y u.promised.running v.promised.running a b
          (u.refusal-number ∙ entry_number q u.answer x u.promised) (v.refusal-number ∙ entry_number (add_under q limits) v.answer y v.promised);
      option_still_21 = λ q other s r h l room more few a b x y u v.
          still_21 q other s r h l room x y u.running v.running more few _ _ (entry_number q a x u) (entry_number (add_into q other) b y v);
      crr_option_still_21 = λ q other s r h l room more few a b x y u v.
          still_21 q other s r h l room x y u.promised.running v.promised.running more few a b
          (u.refusal-number ∙ entry_number q u.answer x u.promised) (v.refusal-number ∙ entry_number (add_into q other) v.answer y v.promised);
    }
