-- `step`: the contracts below i are carried.
use mathlib.Core.Path.{◌≡◌, sym, ap, ◌∙◌}
use Prim.Native.Nat.{ℕ, ◌*◌, ◌≤◌, ◌<◌}
use native.Mathlib.Omega.{arith}
use lib.ListN.{length, get_or}
use lib.IntN.{ℤ, pos, nat_abs}
use Rattle.lists.specs.Lists.{list_to}
use Rattle.tariff.specs.Units.{factors_of, max_contracts, max_flow}
use Rattle.tariff.specs.ContractRules.{of_period, InRange}
use Rattle.layouts.specs.declared.forms.Form.{Form}
use Rattle.layouts.specs.BookFile.{contract_count_in, contract_in, contract_at}
use Rattle.tariff.specs.declared.contracts.Contract.{Contract}
use Rattle.tariff.specs.declared.contracts.Period.{Period}
use Rattle.tariff.specs.Refusals.{passed}
use Rattle.tariff.specs.Refusals.{first}
use Rattle.grid_tables.specs.Inner.{GoodFactors}
use Rattle.book_rules.specs.BookChecks.{book_checks}
use mathlib.Core.List.{List}
use Rattle.book_rules.proofs.Accepted.{book-accepted}
use Rattle.test_rules.specs.declared.Flows.{Flows}
use Rattle.test_rules.specs.Carried.{Carries}
use Rattle.test_rules.proofs.Flowing.{same_period-is, count_most, flow-most, carry_same, carry_other}
use Rattle.test_flows.proofs.Rows.{rows_in, rows_added}
use Rattle.test_flows.proofs.step.Goals.{then-eq, else-eq}
use Rattle.test_flows.proofs.step.Goals as goal

-- what is carried before contract i: a flow for each contract counted, and no more contracts than were read
room : (n k : ℕ) (fs : List ℤ) (t : Period) (book : List ℕ) → GoodFactors n k fs → first (book_checks n book) ≡ passed → (i : ℕ) → i < contract_count_in book → (carried : Flows)
    → Carries (factors_of n k fs) (of_period t (list_to i (contract_at book))) carried
    → (carried.count < max_contracts) × ((j : ℕ) → j < k → nat_abs (get_or carried.flows j (pos 0)) ≤ max_flow * max_contracts)
room n k fs t book good own i b carried h =
    let ok = book-accepted n book own in
    let f = factors_of n k fs in
    let at = contract_at book in
    let each : (j : ℕ) → j < i → InRange n (at j) = λ j l. ok.each j (omega arith) in
    let most = count_most f i t at carried each h in
    let sized = flow-most f i t at carried each h good.in_range in
    (omega (arith, ok.few), λ j l. omega (arith, ok.few, sized j l))

-- the contract that is read is in range
own : (n : ℕ) (book : List ℕ) → first (book_checks n book) ≡ passed → (i : ℕ) → i < contract_count_in book → (c : Contract) → c ≡ contract_at book i → InRange n c
own n book accepted i b c e = rw e ((book-accepted n book accepted).each i b)

pub row-source-requires : goal.row-source-requires
row-source-requires c =
    let s = c in
    let l = c.loop-i in
    let b : l.i < contract_count_in s.args.contracts.file.now = omega (arith, s.requires.some.1, s.requires.of_book.1) in
    let is = c.at-c.ensures ∙ ap (λ (f : Form). contract_in f s.args.contracts.file.now l.i) s.requires.of_book.0 in
    (own s.args.table.nodes s.args.contracts.file.now s.requires.accepted l.i b _ is).source-below

pub row-sink-requires : goal.row-sink-requires
row-sink-requires c =
    let s = c in
    let l = c.loop-i in
    let b : l.i < contract_count_in s.args.contracts.file.now = omega (arith, s.requires.some.1, s.requires.of_book.1) in
    let is = c.at-c.ensures ∙ ap (λ (f : Form). contract_in f s.args.contracts.file.now l.i) s.requires.of_book.0 in
    (own s.args.table.nodes s.args.contracts.file.now s.requires.accepted l.i b _ is).sink-below

pub add_flow-requires : goal.add_flow-requires
add_flow-requires c =
    let s = c in
    let l = c.loop-i in
    let b : l.i < contract_count_in s.args.contracts.file.now = omega (arith, s.requires.some.1, s.requires.of_book.1) in
    let is = c.at-c.ensures ∙ ap (λ (f : Form). contract_in f s.args.contracts.file.now l.i) s.requires.of_book.0 in
    let t = s.args.table in
    let r = room t.nodes t.constraints t.cells.now s.args.period s.args.contracts.file.now t.good s.requires.accepted l.i b l.carried l.invariant.1 in
    let ranged = own t.nodes s.args.contracts.file.now s.requires.accepted l.i b _ is in (
      rows_in t.nodes t.constraints t.cells.now c.at-c.result ranged _ _ c.row-source.ensures c.row-sink.ensures,
      rw c.row-source.ensures.long (record { few = t.good.few; all = l.invariant.0; flows-sized = r.1 }),
    )

pub overflow_add-carried : goal.overflow_add-carried
overflow_add-carried c =
    let s = c in
    let l = c.loop-i in
    let b : l.i < contract_count_in s.args.contracts.file.now = omega (arith, s.requires.some.1, s.requires.of_book.1) in
    let r = room s.args.table.nodes s.args.table.constraints s.args.table.cells.now s.args.period s.args.contracts.file.now s.args.table.good s.requires.accepted l.i b l.carried l.invariant.1 in
    omega (arith, r.0)

flows-of : {a b : Flows} → a ≡ b → a.flows ≡ b.flows
flows-of = ap (λ (x : Flows). x.flows)

count_of : {a b : Flows} → a ≡ b → a.count ≡ b.count
count_of = ap (λ (x : Flows). x.count)

pub loop-i-preserved : goal.loop-i-preserved
loop-i-preserved c =
    let s = c in
    let l = c.loop-i in
    let r = c.at-c in
    let n = s.args.table.nodes in
    let k = s.args.table.constraints in
    let fs = s.args.table.cells.now in
    let at = contract_at s.args.contracts.file.now in
    let is = r.ensures ∙ ap (λ (f : Form). contract_in f s.args.contracts.file.now l.i) s.requires.of_book.0 in
    let ranged = own n s.args.contracts.file.now s.requires.accepted l.i (omega (arith, s.requires.some.1, s.requires.of_book.1)) r.result is in
    let more = carry_same n k fs l.i s.args.period at r.result is l.carried.flows c.if-eq.carried.flows l.carried.count c.if-eq.carried.count l.invariant.1 in
    let same = carry_other n k fs l.i s.args.period at r.result is l.carried.flows c.if-eq.carried.flows l.carried.count c.if-eq.carried.count l.invariant.1 in
    let is_same = sym (same_period-is r.result.period s.args.period) ∙ sym c.eq.ensures in
    elim c.if-eq.branch [
      | then-eq w ↦ (
        ap length (flows-of w.carried-is) ∙ w.add_flow.ensures.length-kept ∙ l.invariant.0,
        more (is_same ∙ w.if-eq.true) ranged _ (rows_added n k fs r.result ranged _ _ w.row-source.ensures w.row-sink.ensures _ _ w.add_flow.ensures) (flows-of w.carried-is) (count_of w.carried-is),
      )
      | else-eq w ↦ (
        ap length (flows-of w.carried-is) ∙ l.invariant.0,
        same (is_same ∙ w.if-eq.false) (flows-of w.carried-is) (count_of w.carried-is),
      )
    ]
