-- A whole test in range by calls: constraints 64 by 64, contracts 1,000 by 1,000, their ends for nodes.
use mathlib.Core.Path.{◌≡◌, refl, sym, ap, subst, ◌∙◌}
use mathlib.Core.Bool.{Bool, true, false, cond}
use mathlib.Core.List.Perm
use mathlib.Core.List.{List, [], ◌∷◌, ◌++◌, map, append-nil, append_assoc}
use Prim.Native.Nat.{ℕ, zero, suc, ◌+◌, ◌*◌, ◌/◌, ◌≤◌, ◌<◌}
use native.Mathlib.Nat.{min-le_left}
use native.Mathlib.Decide.{ℕ_discrete}
use native.Mathlib.Omega.{arith}
use lib.ListN.{length, get_or, take, drop, length-map, length-append, length-take, length-drop, take-append-drop}
use lib.IntN.{ℤ, pos}
use Rattle.lists.specs.Lists.{list_to, Each}
use Rattle.lists.specs.Lent.{overwrite}
use Rattle.lists.specs.Sets.{set_of, count_of, lowest_of}
use Rattle.lists.proofs.Lists.{length-list_to, get_d_list_to, each_append}
use Rattle.tariff.specs.declared.contracts.Contract.{Contract}
use Rattle.tariff.specs.declared.contracts.Period.{Period}
use Rattle.tariff.specs.declared.processes.Process.{Process}
use Rattle.std.specs.Prelude.{Ok, Err}
use Rattle.tariff.specs.Refusals.{passed}
use Rattle.tariff.specs.Units.{Factors, Grid, limit, max_contracts}
use Rattle.tariff.specs.ContractRules.{same_period, period_of, of_period, InRange}
use Rattle.tariff.specs.Processes.{process_of}
use Rattle.tariff.specs.Refusals.{given, cells_after, cell_after}
use Rattle.tariff.proofs.Answers.{answer-passed}
use Rattle.layouts.specs.declared.forms.Form.TheVariants.{Wide}
use Rattle.test_rules.specs.TestBook.{TestAnswer, pass, fail}
use Rattle.test_verdict.specs.Judged.{over_at, excess_at}
use Rattle.test_verdict.proofs.Judging.{values-empty, values-full}
use Rattle.test_loading.specs.FindFlows.{counted_contracts}
use Rattle.test_totals.specs.Totals.{max_summed}
use Rattle.test_totals.specs.AddFlows.{AddFlowsCall, add_flows_checked, summed, flows_summed}
use Rattle.test_totals.specs.JudgeFlows.{JudgeCall, judge_call, judge_checked}
use Rattle.slice_rules.specs.Slices.{Block, Pairwise}
use Rattle.slice_rules.specs.Cutting.{Renumbered, numbered_by, ends_for}
use Rattle.slice_rules.proofs.Cutting.{length-ends, has_ends, by_64, by_64_few, by_64_inside}
use Rattle.slice_rules.proofs.Theorems.{ends-numbered}
use Rattle.slice_calls.specs.Calls.{Added, Step, Summed, Judged}
use Rattle.slice_calls.specs.Taking.{BlockInRange, BlockLimits, Held, SliceInRange, slice_call, TestInRange, CanBeTested}
use Rattle.slice_calls.proofs.Steps.{flows-left, totals-of}
use Rattle.slice_calls.proofs.Taking.{judged, stands, taken, period-shorter}

-- ---- contracts that a book can hold

module _ {A : Type 0} (P : A → Type 0) where
  each_take : (n : ℕ) (xs : List A) → Each P xs → Each P (take n xs)
  each_take zero xs h = tt
  each_take (suc n) [] h = tt
  each_take (suc n) (x ∷ xs) h = (h.0, each_take n xs h.1)

  each-drop : (n : ℕ) (xs : List A) → Each P xs → Each P (drop n xs)
  each-drop zero xs h = h
  each-drop (suc n) [] h = tt
  each-drop (suc n) (x ∷ xs) h = each-drop n xs h.1

period-in_range : (n : ℕ) (t : Period) (cs : List Contract) → Each (Held n) cs → Each (InRange n) (of_period t cs)
unfolding of_period
period-in_range n t [] h = tt
period-in_range n t (c ∷ cs) h = by (same_period c.period t) (of_period t cs) (period-in_range n t cs h.1)
  where
    by : (b : Bool) (xs : List Contract) → Each (InRange n) xs → Each (InRange n) (cond b (c ∷ xs) xs)
    by true xs r = (h.0.in_range, r)
    by false xs r = r

ends-of_whole : (n : ℕ) (cs : List Contract) → Each (Held n) cs → Each (λ (m : ℕ). m < n) (ends_for cs)
unfolding ends_for
ends-of_whole n [] h = tt
ends-of_whole n (c ∷ cs) h = (h.0.in_range.source-below, (h.0.in_range.sink-below, ends-of_whole n cs h.1))

numbered-held : (n : ℕ) (nodes : List ℕ) (cs : List Contract) → Each (Held n) cs → Pairwise (Renumbered nodes) cs (map (numbered_by nodes) cs)
    → Each (Held (length nodes)) (map (numbered_by nodes) cs)
numbered-held n nodes [] h r = tt
numbered-held n nodes (c ∷ cs) h r = (
  record {
    in_range = record { source-below = r.0.source-at.below; sink-below = r.0.sink-at.below; quantity-sized = h.0.in_range.quantity-sized };
    quantity-some = h.0.quantity-some;
    holder-sized = h.0.holder-sized;
  },
  numbered-held n nodes cs h.1 r.1,
)

module _ (whole : Factors) (ms : List Contract) where
  all-numbered : Pairwise (Renumbered (ends_for ms)) ms (map (numbered_by (ends_for ms)) ms)
  all-numbered = (ends-numbered (ends_for ms)).numbered ms (has_ends ms)

  slice_in_range : Each (Held whole.nodes) ms → 0 < length ms → length ms ≤ max_contracts → SliceInRange whole Wide (ends_for ms) (map (numbered_by (ends_for ms)) ms)
  slice_in_range held some few =
      record {
        nodes-some = omega (arith, length-ends ms);
        nodes-few = omega (arith, length-ends ms);
        nodes-of_whole = ends-of_whole whole.nodes ms held;
        form-holds = omega (arith, length-ends ms);
        contracts-few = omega (arith, length-map ms (numbered_by (ends_for ms)));
        contracts-held = numbered-held whole.nodes (ends_for ms) ms held all-numbered;
      }

-- ---- a block's totals

module _ (whole : Factors) (b : Block) (limits : List ℕ) (ok : BlockInRange whole b) (l : BlockLimits b limits) (period : ℕ) (h : period ≤ 1) where
  abbrev t : Period
  t = period_of period

  record Run (cs : List Contract) : Type 0 where
    flows : List ℤ
    count : ℕ
    long : b.size ≤ length flows
    steps : Summed whole b t cs flows count

  start : Run []
  start =
      let none : ℕ → ℤ = λ j. pos 0 in
      record {
        flows = list_to b.size none;
        count = 0;
        long = omega (arith, length-list_to b.size none);
        steps = Summed.begun (list_to b.size none) (λ j i. get_d_list_to b.size none j (pos 0) i);
      }

  -- at most 1,000 contracts more
  module _ (cs ms : List Contract) (earlier : Each (Held whole.nodes) cs) (held : Each (Held whole.nodes) ms) (some : 0 < length ms)
      (few : length ms ≤ max_contracts) (all : length cs + length ms ≤ max_summed) (r : Run cs) where
    abbrev nodes : List ℕ
    nodes = ends_for ms

    abbrev ds : List Contract
    ds = map (numbered_by nodes) ms

    abbrev q : AddFlowsCall
    q = slice_call whole b period limits Wide nodes ds r.flows r.count

    abbrev F : List ℤ
    F = cells_after (add_flows_checked q) (flows_summed q) r.flows

    abbrev N : ℕ
    N = cell_after (add_flows_checked q) (summed q) r.count

    own : SliceInRange whole Wide nodes ds
    own = slice_in_range whole ms held some few

    accepted : add_flows_checked q ≡ passed
    accepted =
        let totals = totals-of whole b t r.steps in
        taken whole b Wide nodes ds ok own period h limits l r.flows r.count
        (record { contracts = of_period t cs; contracts-in_range = period-in_range whole.nodes t cs earlier; totals = totals; flows_long = r.long })
        (omega (arith, totals.count-is, period-shorter t cs, length-map ms (numbered_by nodes)))

    more : Step whole b t r.flows r.count
    more =
        record {
          call = q;
          flows-left = F;
          count_left = N;
          contracts = ms;
          flows-lent = refl;
          count-lent = refl;
          size_is = refl;
          period-is = refl;
          stands = stands whole b Wide nodes ds ok own ms (all-numbered whole ms);
          none-refused = accepted;
          added = Added.by_entry (Ok (length (counted_contracts q.asked)))
              (record {
                counted-given = answer-passed passed (add_flows_checked q) (sym accepted) refl (pos (length (counted_contracts q.asked)) ∷ []);
                totals = record { flows-added = refl; count-added = refl };
              });
        }

    long-still : b.size ≤ length F
    long-still =
        let left = flows-left q F N (record { flows-added = refl; count-added = refl }) accepted in
        omega (
          arith,
          ap length left,
          length-append (flows_summed q) (drop (length (flows_summed q)) r.flows),
          summed-long,
        )
      where
        summed-long : length (flows_summed q) ≡ b.size
        summed-long = length-list_to b.size _

    run_more : Run (cs ++ ms)
    unfolding more
    run_more = record { flows = F; count = N; long = long-still; steps = Summed.added cs r.flows r.count r.steps more }

  -- all of them
  none_left : (done left : List Contract) → length left ≡ 0 → Run done → Run (done ++ left)
  none_left done [] e r = subst Run (sym (append-nil done)) r
  none_left done (c ∷ cs) e r = absurd (omega arith)

  run_all : (n : ℕ) (done left : List Contract) → Each (Held whole.nodes) done → Each (Held whole.nodes) left → length left ≤ n * max_contracts
      → length done + length left ≤ max_summed → Run done → Run (done ++ left)
  run_all zero done left earlier held fits all r = none_left done left (omega arith) r
  run_all (suc n) done left earlier held fits all r =
      let ms = take max_contracts left in
      let rest = drop max_contracts left in
      let front = length-take max_contracts left in
      let dropped = length-drop max_contracts left in
      let mine = each_take (Held whole.nodes) max_contracts left held in
      let few : length ms ≤ max_contracts = omega (arith, front, min-le_left max_contracts (length left)) in
      let as_one : (done ++ ms) ++ rest ≡ done ++ left
      = append_assoc done ms rest ∙ ap (λ (l : List Contract). done ++ l) (take-append-drop max_contracts left) in
      elim (ℕ_discrete (length left) 0) [
        | yes z ↦ none_left done left z r
        | no some ↦
            subst Run as_one
            (run_all n (done ++ ms) rest (each_append (Held whole.nodes) done ms earlier mine) (each-drop (Held whole.nodes) max_contracts left held)
            (omega (arith, dropped)) (omega (arith, length-append done ms, front, dropped))
            (run_more done ms earlier mine (omega (arith, front, some)) few (omega (arith, front)) r))
      ]

-- ---- what judging answers

module _ (k process : ℕ) (limits : List ℕ) (flows : List ℤ) (count : ℕ) (accepted : judge_checked (judge_call k process limits flows count) ≡ passed) where
  abbrev by : Process
  by = process_of process

  abbrev f : ℕ → Bool
  f = over_at limits by flows

  answered-so : Judged (judge_call k process limits flows count)
  answered-so =
      let q = judge_call k process limits flows count in
      elim (ℕ_discrete (set_of k f) 0) [
        | yes z ↦
            Judged.by_entry pass
            (record { figures = ap given (sym (values-empty k limits by flows z)) ∙ answer-passed passed (judge_checked q) (sym accepted) refl _ })
        | no ne ↦
            Judged.by_entry (fail (set_of k f) (count_of k f) (lowest_of k f) (record { 0 = excess_at limits by flows (lowest_of k f) }))
            (record { figures = ap given (sym (values-full k limits by flows ne)) ∙ answer-passed passed (judge_checked q) (sym accepted) refl _ })
      ]

-- ---- a whole test

module _ (g : Grid) (process period : ℕ) (book : List Contract) (ok : TestInRange g process period book) where
  abbrev block_at : ℕ → Block
  block_at i = (by_64 g.factors.constraints).block i

  limits_at : ℕ → List ℕ
  limits_at i = list_to (block_at i).size (λ j. limit g.limits ((block_at i).number j))

  limit-at : (i j : ℕ) → j < (block_at i).size → limit (limits_at i) j ≡ limit g.limits ((block_at i).number j)
  unfolding limits_at
  limit-at i j h = get_d_list_to (block_at i).size (λ j. limit g.limits ((block_at i).number j)) j 0 h

  block-ok : (i : ℕ) → BlockInRange g.factors (block_at i)
  block-ok i = record { few = by_64_few g.factors.constraints i; inside = by_64_inside g.factors.constraints i; factors-sized = ok.factors-sized }

  limits-ok : (i : ℕ) → BlockLimits (block_at i) (limits_at i)
  unfolding limits_at
  limits-ok i =
      record {
        limits-long = omega (arith, length-list_to (block_at i).size (λ j. limit g.limits ((block_at i).number j)));
        limits-sized = λ j h. rw (limit-at i j h) (ok.limits-sized _ (by_64_inside g.factors.constraints i j h));
      }

  run : (i : ℕ) → Run g.factors (block_at i) (limits_at i) (block-ok i) (limits-ok i) period ok.period-number book
  run i =
      let start-here = start g.factors (block_at i) (limits_at i) (block-ok i) (limits-ok i) period ok.period-number in
      run_all g.factors (block_at i) (limits_at i) (block-ok i) (limits-ok i) period ok.period-number ((length book + 999) / 1000) [] book tt
      ok.contracts-held (omega arith) (omega (arith, ok.contracts-few)) start-here

  judge_passed : (i : ℕ) → judge_checked (judge_call (block_at i).size process (limits_at i) (run i).flows (run i).count) ≡ passed
  judge_passed i =
      let r = run i in
      let totals = totals-of g.factors (block_at i) (period_of period) r.steps in
      judged g.factors (block_at i) (block-ok i) r.flows r.count
      (record {
        contracts = of_period (period_of period) book;
        contracts-in_range = period-in_range g.factors.nodes (period_of period) book ok.contracts-held;
        totals = totals;
        flows_long = r.long;
      })
      (omega (arith, totals.count-is, period-shorter (period_of period) book, ok.contracts-few)) process (limits_at i) (limits-ok i) ok.process-number

pub can_be_tested : CanBeTested
can_be_tested g process period book ok =
    let r = run g process period book ok in
    record {
      cut = by_64 g.factors.constraints;
      limits = limits_at g process period book ok;
      limits-same = λ i j hi hj. limit-at g process period book ok i j hj;
      contracts = λ i. book;
      all-contracts = λ i h. Perm.refl book;
      flows = λ i. (r i).flows;
      count = λ i. (r i).count;
      summed = λ i h. (r i).steps;
      none-refused = λ i h. judge_passed g process period book ok i;
      answer = λ i.
          answered-so (block_at g process period book ok i).size process (limits_at g process period book ok i) (r i).flows (r i).count
          (judge_passed g process period book ok i);
    }
