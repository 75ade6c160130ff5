-- The cells after each operation hold the state after it.
use mathlib.Core.Path.{◌≡◌, refl, sym, ap, ◌∙◌, subst}
use mathlib.Core.Logic.{◌≢◌, ⊎_elim}
use mathlib.Core.Bool.{Bool, true, false, cond}
use mathlib.Core.List.{List, [], ◌∷◌, ◌++◌, flat_map}
use mathlib.Core.Option.{Option, none, some}
use Prim.Native.Nat.{ℕ, ◌+◌, ◌-◌, ◌*◌, ◌≤◌, ◌<◌}
use native.Mathlib.Nat.{eq-or-lt_of_le}
use native.Mathlib.Omega.{arith}
use borrow.Author.Tests.{leb-true, leb-false, eqb-true, eqb-false, le-ltb, lt-ltb}
use lib.Dec.{leb, ltb, eqb}
use lib.ListN.{length, get_or, set, take, drop, replicate, length-append, length-set, length-replicate, get_or-replicate, take-append-drop}
use lib.Seq.{take-take, take-append-le, take-length, length-take-le, get_or-set_same, get_or-set_other, get_or-drop, take_at}
use lib.IntN.{ℤ, pos, ◌+ℤ◌}
use Rattle.lists.specs.Lists.{list_to}
use Rattle.lists.proofs.Lists.{flat_map_append, flat_map_last, length-list_to, get_d_list_to}
use Rattle.lists.proofs.Fronts.{front_at}
use Rattle.integers.specs.Sums.{sum_over_of}
use Rattle.tariff.specs.declared.contracts.Contract.{Contract}
use Rattle.tariff.specs.declared.contracts.Period.{Period}
use Rattle.tariff.specs.declared.processes.Process.{Process}
use Rattle.tariff.specs.Units.{Grid, max_constraints, max_contracts}
use Rattle.tariff.specs.ContractRules.{same_period, of_period}
use Rattle.tariff.specs.Feasibility.{flow, total_flow}
use Rattle.tariff.proofs.Periods.{of_period-same, of_period-other, sum_over-more}
use Rattle.layouts.specs.BookTable.{contract_cells, cells_of}
use Rattle.layouts.proofs.BookTable.{length-cells}
use Rattle.tier_rules.specs.Tiers.{Tiers, opened, with_award, marked, kept, returned, Reached}
use Rattle.tier_rules.specs.Checks.{max_tier}
use Rattle.tier_rules.specs.Cells.{awards_cells, state_numbers, state_flows, held_in, counted_in, flag_cell, held_cell, counted_cell, mark_block, StateCells, state_cells, opened_numbers, opened_flows}
use Rattle.tier_rules.specs.Cells.{with_award_row, with_award_numbers, flow_with, with_award_flows, marked_numbers, marked_flows, drop_marks_of, returned_numbers, returned_flows}
use Rattle.tier_rules.specs.Cells.{MarkAt, MarkIs, HoldsTiers}
use Rattle.tier_rules.proofs.Cells.{behind, copied-before, copied-here, copied_behind, length-drop_marks, drop-marks_else, drop-marks_held, drop-marks_flag}

zero_side : (b : Bool) → cond {A = ℕ} b 0 0 ≡ 0
zero_side true = refl
zero_side false = refl

-- the cells of the first m awards
cells-front : (m : ℕ) (cs : List Contract) → m ≤ length cs → take (contract_cells * m) (flat_map cells_of cs) ≡ flat_map cells_of (take m cs)
cells-front m cs h =
    ap (λ (l : List Contract). take (contract_cells * m) (flat_map cells_of l)) (sym (take-append-drop m cs))
    ∙ ap (take (contract_cells * m)) (flat_map_append cells_of (take m cs) (drop m cs))
    ∙ take_at (flat_map cells_of (take m cs)) (flat_map cells_of (drop m cs)) (contract_cells * m)
    (length-cells (take m cs) ∙ ap (λ (x : ℕ). contract_cells * x) (length-take-le m cs h))

-- ---- marks whose cells are kept

module _ (g : Grid) (t : Period) (awards : List Contract) (cells next : StateCells) (j : ℕ)
    (flag : get_or next.numbers (flag_cell j) 0 ≡ get_or cells.numbers (flag_cell j) 0) (held : get_or next.numbers (held_cell j) 0 ≡ get_or cells.numbers (held_cell j) 0)
    (counts : get_or next.numbers (counted_cell j) 0 ≡ get_or cells.numbers (counted_cell j) 0)
    (flows : (k : ℕ) → k < g.factors.constraints → get_or next.flows (mark_block j + k) (pos 0) ≡ get_or cells.flows (mark_block j + k) (pos 0)) where
  -- of awards that begin alike
  at_same : (later : List Contract) (m : ℕ) → take m later ≡ take m awards → MarkAt g t awards cells j m → MarkAt g t later next j m
  at_same later m e h =
      record {
        set_is = flag ∙ h.set_is;
        held_is = held ∙ h.held_is;
        counted_is = rw e (counts ∙ h.counted_is);
        block = rw e (record { flows-are = λ k b. flows k b ∙ h.block.flows-are k b });
      }

  mark-same : (later : List Contract) (o : Option ℕ) → ((m : ℕ) → o ≡ some m → take m later ≡ take m awards) → MarkIs g t awards cells j o → MarkIs g t later next j o
  mark-same later none e h = flag ∙ h
  mark-same later (some m) e h = at_same later m (e m refl) h

-- ---- opening

module _ (g : Grid) (t : Period) (few : g.factors.constraints ≤ max_constraints) (awards numbers : List ℕ) (flows : List ℤ) where
  number-0 : (x : ℕ) → x < state_numbers → get_or (opened_numbers numbers) x 0 ≡ 0
  number-0 x h = front_at (replicate state_numbers 0) numbers state_numbers (length-replicate {A = ℕ} state_numbers 0) x 0 h ∙ get_or-replicate {A = ℕ} state_numbers x 0 0 h

  flow-0 : (x : ℕ) → x < state_flows → get_or (opened_flows flows) x (pos 0) ≡ pos 0
  flow-0 x h = front_at (replicate state_flows (pos 0)) flows state_flows (length-replicate {A = ℤ} state_flows (pos 0)) x (pos 0) h ∙ get_or-replicate {A = ℤ} state_flows x (pos 0) (pos 0) h

  pub opened-holds : HoldsTiers g t opened (state_cells awards (opened_numbers numbers) (opened_flows flows))
  unfolding flat_map of_period total_flow sum_over_of
  opened-holds =
      record {
        few = few;
        rows = refl;
        held_is = number-0 0 (omega arith);
        counted_is = number-0 1 (omega arith);
        block = record { flows-are = λ k h. flow-0 (0 + k) (omega arith) };
        marks = λ i a b. number-0 (flag_cell i) (omega arith);
      }

module _ (g : Grid) (t : Period) (s : Tiers) (awards numbers : List ℕ) (flows : List ℤ) (h : HoldsTiers g t s (state_cells awards numbers flows))
    (numbers-long : state_numbers ≤ length numbers) (flows_long : state_flows ≤ length flows) where
  -- ---- marking
  module _ (i : ℕ) (some_tier : 1 ≤ i) (a_tier : i ≤ max_tier) where
    abbrev flag_set : List ℕ
    flag_set = set numbers (flag_cell i) 1

    abbrev held_set : List ℕ
    held_set = set flag_set (held_cell i) (held_in numbers)

    held_long : length held_set ≡ length numbers
    held_long = length-set flag_set (held_cell i) (held_in numbers) ∙ length-set numbers (flag_cell i) 1

    number-else : (x : ℕ) → x ≢ flag_cell i → x ≢ held_cell i → x ≢ counted_cell i → get_or (marked_numbers i numbers) x 0 ≡ get_or numbers x 0
    number-else x a b c =
        get_or-set_other held_set (counted_cell i) x (counted_in numbers) 0 c ∙ get_or-set_other flag_set (held_cell i) x (held_in numbers) 0 b ∙ get_or-set_other numbers (flag_cell i) x 1 0 a

    number-flag : get_or (marked_numbers i numbers) (flag_cell i) 0 ≡ 1
    number-flag =
        get_or-set_other held_set (counted_cell i) (flag_cell i) (counted_in numbers) 0 (λ e. omega arith)
        ∙ get_or-set_other flag_set (held_cell i) (flag_cell i) (held_in numbers) 0 (λ e. omega arith)
        ∙ get_or-set_same numbers (flag_cell i) 1 0 (omega arith)

    number-held : get_or (marked_numbers i numbers) (held_cell i) 0 ≡ held_in numbers
    number-held =
        get_or-set_other held_set (counted_cell i) (held_cell i) (counted_in numbers) 0 (λ e. omega arith)
        ∙ get_or-set_same flag_set (held_cell i) (held_in numbers) 0 (omega (arith, length-set numbers (flag_cell i) 1))

    number-counted : get_or (marked_numbers i numbers) (counted_cell i) 0 ≡ counted_in numbers
    number-counted = get_or-set_same held_set (counted_cell i) (counted_in numbers) 0 (omega (arith, held_long))

    abbrev made : StateCells
    made = state_cells awards (marked_numbers i numbers) (marked_flows i flows)

    flow-before : (x : ℕ) → x < mark_block i → get_or (marked_flows i flows) x (pos 0) ≡ get_or flows x (pos 0)
    flow-before = copied-before 0 (mark_block i) flows (omega arith) (omega arith)

    pub marked-holds : HoldsTiers g t (marked i s) made
    marked-holds =
        record {
          few = h.few;
          rows = h.rows;
          held_is = number-else 0 (λ e. omega arith) (λ e. omega arith) (λ e. omega arith) ∙ h.held_is;
          counted_is = number-else 1 (λ e. omega arith) (λ e. omega arith) (λ e. omega arith) ∙ h.counted_is;
          block = record { flows-are = λ k b. flow-before (0 + k) (omega (arith, h.few)) ∙ h.block.flows-are k b };
          marks = λ j a b. by j a b (eqb j i) refl;
        }
      where
        here : MarkAt g t s.awards made i (length s.awards)
        here =
            record {
              set_is = number-flag;
              held_is = number-held ∙ h.held_is;
              counted_is = rw (take-length s.awards) (number-counted ∙ h.counted_is);
              block = rw (take-length s.awards) (record { flows-are = λ k b. copied-here 0 (mark_block i) flows (omega arith) (omega arith) k (omega (arith, h.few)) ∙ h.block.flows-are k b });
            }

        -- the block of another tier
        apart : (j : ℕ) → j ≢ i → (k : ℕ) → k < g.factors.constraints → get_or (marked_flows i flows) (mark_block j + k) (pos 0) ≡ get_or flows (mark_block j + k) (pos 0)
        apart j ne k b = side (leb i j) refl
          where
            side : (x : Bool) → leb i j ≡ x → get_or (marked_flows i flows) (mark_block j + k) (pos 0) ≡ get_or flows (mark_block j + k) (pos 0)
            side true e =
                ⊎_elim (λ q. absurd (ne (sym q))) (λ m. copied_behind 0 (mark_block i) flows (omega arith) (omega arith) (mark_block j + k) (omega arith)) (eq-or-lt_of_le (leb-true i j e))
            side false e = let l = leb-false i j e in flow-before (mark_block j + k) (omega (arith, h.few))

        by : (j : ℕ) → 1 ≤ j → j ≤ max_tier → (b : Bool) → eqb j i ≡ b → MarkIs g t s.awards made j (cond b (some (length s.awards)) (s.mark j))
        by j a b true e = rw (eqb-true j i e) here
        by j a b false e =
            let ne = eqb-false j i e in
            mark-same g t s.awards (state_cells awards numbers flows) made j
            (number-else (flag_cell j) (λ q. ne (omega arith)) (λ q. omega arith) (λ q. omega arith))
            (number-else (held_cell j) (λ q. omega arith) (λ q. ne (omega arith)) (λ q. omega arith))
            (number-else (counted_cell j) (λ q. omega arith) (λ q. omega arith) (λ q. ne (omega arith)))
            (apart j ne) s.awards (s.mark j) (λ m q. refl) (h.marks j a b)

  -- ---- returning to the mark of tier i, made at m awards
  module _ (process : Process) (r : Reached g process t s) (i : ℕ) (some_tier : 1 ≤ i) (a_tier : i ≤ max_tier) (m : ℕ) (e : s.mark i ≡ some m) where
    mark : MarkAt g t s.awards (state_cells awards numbers flows) i m
    mark = subst (λ (o : Option ℕ). MarkIs g t s.awards (state_cells awards numbers flows) i o) e (h.marks i some_tier a_tier)

    abbrev back : List Contract
    back = take m s.awards

    back_long : length back ≡ m
    back_long = length-take-le m s.awards (r.marks-held i m e)

    abbrev M : ℕ
    M = get_or numbers (held_cell i) 0

    abbrev C : ℕ
    C = get_or numbers (counted_cell i) 0

    abbrev dropped : List ℕ
    dropped = drop_marks_of M max_tier numbers

    dropped_long : length (set dropped 0 M) ≡ length numbers
    dropped_long = length-set dropped 0 M ∙ length-drop_marks M numbers max_tier

    abbrev left : StateCells
    left = state_cells awards (returned_numbers i numbers) (returned_flows i flows)

    tier-number : (x : ℕ) → 2 ≤ x → get_or (returned_numbers i numbers) x 0 ≡ get_or dropped x 0
    tier-number x b = get_or-set_other (set dropped 0 M) 1 x C 0 (λ q. omega arith) ∙ get_or-set_other dropped 0 x M 0 (λ q. omega arith)

    flag_now : (j : ℕ) → 1 ≤ j → j ≤ max_tier → get_or (returned_numbers i numbers) (flag_cell j) 0 ≡ cond (ltb m (get_or numbers (held_cell j) 0)) 0 (get_or numbers (flag_cell j) 0)
    flag_now j a b =
        tier-number (flag_cell j) (omega arith)
        ∙ drop-marks_flag M numbers max_tier j a b (omega arith)
        ∙ ap (λ (x : ℕ). cond (ltb x (get_or numbers (held_cell j) 0)) 0 (get_or numbers (flag_cell j) 0)) mark.held_is

    held_now : (j : ℕ) → 1 ≤ j → get_or (returned_numbers i numbers) (held_cell j) 0 ≡ get_or numbers (held_cell j) 0
    held_now j a = tier-number (held_cell j) (omega arith) ∙ drop-marks_held M numbers max_tier j

    counted-now : (j : ℕ) → 1 ≤ j → get_or (returned_numbers i numbers) (counted_cell j) 0 ≡ get_or numbers (counted_cell j) 0
    counted-now j a = tier-number (counted_cell j) (omega arith) ∙ drop-marks_else M numbers max_tier (counted_cell j) (λ x y z q. omega arith)

    flow-now : (j : ℕ) → 1 ≤ j → (k : ℕ) → get_or (returned_flows i flows) (mark_block j + k) (pos 0) ≡ get_or flows (mark_block j + k) (pos 0)
    flow-now j a k = copied_behind (mark_block i) 0 flows (omega arith) (omega arith) (mark_block j + k) (omega arith)

    rows_back : take (contract_cells * length back) awards ≡ flat_map cells_of back
    rows_back =
        rw back_long
        (sym (take-take (contract_cells * m) (contract_cells * length s.awards) awards (omega (arith, r.marks-held i m e)))
        ∙ ap (take (contract_cells * m)) h.rows
        ∙ cells-front m s.awards (r.marks-held i m e))

    pub returned-holds : HoldsTiers g t (returned m s) left
    returned-holds =
        record {
          few = h.few;
          rows = rows_back;
          held_is =
              get_or-set_other (set dropped 0 M) 1 0 C 0 (λ q. omega arith)
              ∙ get_or-set_same dropped 0 M 0 (omega (arith, length-drop_marks M numbers max_tier))
              ∙ mark.held_is ∙ sym back_long;
          counted_is = get_or-set_same (set dropped 0 M) 1 C 0 (omega (arith, dropped_long)) ∙ mark.counted_is;
          block = record { flows-are = λ k b. copied-here (mark_block i) 0 flows (omega arith) (omega arith) k (omega (arith, h.few)) ∙ mark.block.flows-are k b };
          marks = λ j a b. by j a b (s.mark j) (h.marks j a b);
        }
      where
        of_some : (j : ℕ) → 1 ≤ j → j ≤ max_tier → (x : ℕ) → MarkAt g t s.awards (state_cells awards numbers flows) j x → (b : Bool) → leb x m ≡ b → MarkIs g t back left j (cond b (some x) none)
        of_some j a b x at true q =
            let l = leb-true x m q in
            at_same g t s.awards (state_cells awards numbers flows) left j (flag_now j a b ∙ rw (at.held_is, le-ltb m x l)) (held_now j a) (counted-now j a) (λ k w. flow-now j a k)
            back x (take-take x m s.awards l) at
        of_some j a b x at false q = flag_now j a b ∙ rw (at.held_is, lt-ltb m x (leb-false x m q))

        by : (j : ℕ) → 1 ≤ j → j ≤ max_tier → (o : Option ℕ) → MarkIs g t s.awards (state_cells awards numbers flows) j o → MarkIs g t back left j (kept m o)
        by j a b none at = flag_now j a b ∙ rw at (zero_side (ltb m (get_or numbers (held_cell j) 0)))
        by j a b (some x) at = of_some j a b x at (leb x m) refl

  -- ---- adding
  module _ (process : Process) (r : Reached g process t s) (c : Contract) (room : length s.awards < max_contracts) (awards-long : awards_cells ≤ length awards) where
    abbrev own : Bool
    own = same_period c.period t

    abbrev grown : StateCells
    grown = state_cells (with_award_row (held_in numbers) c awards) (with_award_numbers own numbers) (with_award_flows own g.factors c flows)

    abbrev more : List Contract
    more = s.awards ++ c ∷ []

    row-long : length (cells_of c) ≡ contract_cells
    unfolding cells_of
    row-long = refl

    rows_more : take (contract_cells * length more) (with_award_row (held_in numbers) c awards) ≡ flat_map cells_of more
    rows_more =
        let H : contract_cells * held_in numbers ≡ contract_cells * length s.awards = ap (λ (x : ℕ). contract_cells * x) h.held_is in
        let front : take (contract_cells * held_in numbers) awards ≡ flat_map cells_of s.awards = ap (λ (x : ℕ). take x awards) H ∙ h.rows in
        take_at (take (contract_cells * held_in numbers) awards ++ cells_of c) _ (contract_cells * length more)
        (length-append (take (contract_cells * held_in numbers) awards) (cells_of c)
        ∙ omega (arith, length-take-le (contract_cells * held_in numbers) awards (omega arith), row-long, H, length-append s.awards (c ∷ [])))
        ∙ ap (λ (l : List ℕ). l ++ cells_of c) front
        ∙ sym (flat_map_last cells_of s.awards c)

    -- the count, where b says whether it grows
    abbrev counts : Bool → List ℕ
    counts b = cond b (set numbers 1 (counted_in numbers + 1)) numbers

    counts-long : (b : Bool) → length (counts b) ≡ length numbers
    counts-long true = length-set numbers 1 (counted_in numbers + 1)
    counts-long false = refl

    held_grown : (b : Bool) → get_or (with_award_numbers b numbers) 0 0 ≡ held_in numbers + 1
    held_grown b = get_or-set_same (counts b) 0 (held_in numbers + 1) 0 (omega (arith, counts-long b))

    counted-grown : (b : Bool) → get_or (with_award_numbers b numbers) 1 0 ≡ cond b (counted_in numbers + 1) (counted_in numbers)
    counted-grown true = get_or-set_other (counts true) 0 1 (held_in numbers + 1) 0 (λ q. omega arith) ∙ get_or-set_same numbers 1 (counted_in numbers + 1) 0 (omega arith)
    counted-grown false = get_or-set_other numbers 0 1 (held_in numbers + 1) 0 (λ q. omega arith)

    number-rest : (b : Bool) (x : ℕ) → 2 ≤ x → get_or (with_award_numbers b numbers) x 0 ≡ get_or numbers x 0
    number-rest true x l = get_or-set_other (counts true) 0 x (held_in numbers + 1) 0 (λ q. omega arith) ∙ get_or-set_other numbers 1 x (counted_in numbers + 1) 0 (λ q. omega arith)
    number-rest false x l = get_or-set_other numbers 0 x (held_in numbers + 1) 0 (λ q. omega arith)

    abbrev K : ℕ
    K = g.factors.constraints

    abbrev added : List ℤ
    added = list_to K (flow_with g.factors c flows)

    flow-rest : (b : Bool) (x : ℕ) → K ≤ x → get_or (with_award_flows b g.factors c flows) x (pos 0) ≡ get_or flows x (pos 0)
    flow-rest true x l =
        let e : x ≡ K + (x - K) = omega arith in
        rw e
        (behind added (drop (length added) flows) K (x - K) (pos 0) (length-list_to K (flow_with g.factors c flows))
        ∙ get_or-drop (length added) flows (x - K) (pos 0)
        ∙ ap (λ (n : ℕ). get_or flows (n + (x - K)) (pos 0)) (length-list_to K (flow_with g.factors c flows)))
    flow-rest false x l = refl

    counted-more : (b : Bool) → own ≡ b → cond b (counted_in numbers + 1) (counted_in numbers) ≡ length (of_period t more)
    counted-more true e = rw (of_period-same t s.awards c e) (omega (arith, h.counted_is, length-append (of_period t s.awards) (c ∷ [])))
    counted-more false e = rw (of_period-other t s.awards c e) h.counted_is

    flow-more : (b : Bool) → own ≡ b → (k : ℕ) → k < K → get_or (with_award_flows b g.factors c flows) (0 + k) (pos 0) ≡ total_flow g.factors (of_period t more) k
    unfolding total_flow
    flow-more true e k l =
        let z : 0 + k ≡ k = omega arith in
        rw (z, of_period-same t s.awards c e)
        (front_at added flows K (length-list_to K (flow_with g.factors c flows)) k (pos 0) l
        ∙ get_d_list_to K (flow_with g.factors c flows) k (pos 0) l
        ∙ ap (λ (x : ℤ). x +ℤ flow g.factors c k) (rw z at (h.block.flows-are k l))
        ∙ sym (sum_over-more (of_period t s.awards) c (λ x. flow g.factors x k)))
    flow-more false e k l = rw (of_period-other t s.awards c e) (h.block.flows-are k l)

    pub added-holds : HoldsTiers g t (with_award c s) grown
    added-holds =
        record {
          few = h.few;
          rows = rows_more;
          held_is = held_grown own ∙ omega (arith, h.held_is, length-append s.awards (c ∷ []));
          counted_is = counted-grown own ∙ counted-more own refl;
          block = record { flows-are = flow-more own refl };
          marks = λ j a b. mark-same g t s.awards (state_cells awards numbers flows) grown j (number-rest own (flag_cell j) (omega arith)) (number-rest own (held_cell j) (omega arith))
              (number-rest own (counted_cell j) (omega arith)) (λ k l. flow-rest own (mark_block j + k) (omega (arith, h.few))) more (s.mark j)
              (λ m q. take-append-le m s.awards (c ∷ []) (r.marks-held j m q)) (h.marks j a b);
        }
