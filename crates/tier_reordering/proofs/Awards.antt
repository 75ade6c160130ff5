-- The awards held are a list of contracts, and one more stands behind them: the laws of reordering and relief are cited.
use mathlib.Core.Path.{◌≡◌, refl, sym, ap, subst, ◌∙◌}
use mathlib.Core.Bool.{Bool, true, false, cond}
use mathlib.Core.List.Perm
use mathlib.Core.List.{List, [], ◌∷◌, ◌++◌}
use Prim.Native.Nat.{ℕ, zero, suc, ◌+◌, ◌<◌}
use native.Mathlib.Nat.{zero-add}
use native.Mathlib.Omega.{arith}
use borrow.Author.Tests.{lt-ltb, le-ltb}
use lib.Dec.{ltb}
use lib.ListN.{length, get_or, take}
use Rattle.lists.specs.Lists.{Each}
use Rattle.tariff.specs.declared.contracts.Contract.{Contract}
use Rattle.tariff.specs.declared.contracts.Period.{Period}
use Rattle.tariff.specs.declared.processes.Process.{Process}
use Rattle.tariff.specs.declared.refusals.Refusal.TheVariants.{ContractCount, NodeNumber, QuantityRange, PeriodOrKind, HolderRange, AwardOverload}
use Rattle.std.specs.Prelude.{Ok, Err}
use Rattle.tariff.specs.Refusals.{passed}
use Rattle.tariff.specs.Units.{Factors, Grid, max_contracts}
use Rattle.tariff.specs.Refusals.{first}
use Rattle.tariff.specs.Checks.{contract_count, node_number, quantity_range, kind_and_period, holder_range}
use Rattle.tariff.specs.ContractRules.{of_period}
use Rattle.tariff.specs.Feasibility.{overload_set}
use Rattle.tariff.proofs.Theorems.{pass_is_empty_set}
use Rattle.order_rules.specs.Reordering.{Reordered}
use Rattle.order_rules.specs.Relief.{Raised, OptionMore}
use Rattle.order_rules.proofs.Perms.{length-perm}
use Rattle.order_rules.proofs.Theorems.{reordering, relief}
use Rattle.tier_rules.specs.Tiers.{Tiers, Award, Reached}
use Rattle.layouts.specs.BookTable.{row_at}
use Rattle.book_rules.specs.BookChecks.{contract_checks}
use Rattle.book_rules.specs.WriteBook.{row_checks}
use Rattle.tier_rules.specs.Checks.{overload, award_checks, award_over, add_checks}
use Rattle.tier_rules.specs.Cells.{StateCells, HoldsTiers}
use Rattle.tier_reordering.specs.Awards.{SameStateCells}

-- with one award more behind
with_reordered : (c : Contract) (held other : List Contract) → Reordered held other → Reordered (held ++ c ∷ []) (other ++ c ∷ [])
with_reordered c held other p = Perm.append_right (c ∷ []) p

pub cells_same : (g : Grid) (t : Period) (s r : Tiers) (cells other : StateCells) → HoldsTiers g t s cells → HoldsTiers g t r other
    → Reordered s.awards r.awards → SameStateCells g cells other
cells_same g t s r cells other h l p =
    let same = reordering.reorder_keeps_flows g.factors t s.awards r.awards p in
    record {
      flows-same = λ k b. rw zero-add at (h.block.flows-are k b ∙ same.flows-same k ∙ sym (l.block.flows-are k b));
      counted_same = h.counted_is ∙ same.counted_same ∙ sym l.counted_is;
      held_same = h.held_is ∙ length-perm s.awards r.awards p ∙ sym l.held_is;
    }

pub alike_next : (g : Grid) (process : Process) (t : Period) (held other : List Contract) (c : Contract) → Reordered held other
    → (award_over g process t held c).fails ≡ (award_over g process t other c).fails
alike_next g process t held other c p =
    ap (λ (set : ℕ). ltb 0 set)
    (reordering.reorder_keeps_overloads g process t (held ++ c ∷ []) (other ++ c ∷ []) (with_reordered c held other p)).set_same

-- a set that is not empty, and one that is empty only where it is
still_some : (a b : ℕ) → (b ≡ 0 → a ≡ 0) → ltb 0 a ≡ true → ltb 0 b ≡ true
still_some a zero only e = rw (only refl) at e
still_some a (suc b) only e = lt-ltb 0 (suc b) (omega arith)

pub raised-reached : (low high : Grid) (process : Process) (t : Period) (s : Tiers) → Raised low high → Reached low process t s → Reached high process t s
raised-reached low high process t s r h =
    record {
      each = subst (λ (f : Factors). Each (Award f.nodes) s.awards) (sym r.factors-same) h.each;
      few = h.few;
      passes = λ m. relief.raised-limit_keeps_pass low high process t (take m s.awards) r (h.passes m);
      marks-held = h.marks-held;
    }

pub raised-no_21 : (low high : Grid) (process : Process) (t : Period) (held : List Contract) (c : Contract) → Raised low high
    → (award_over high process t held c).fails ≡ true → (award_over low process t held c).fails ≡ true
raised-no_21 low high process t held c r =
    let next = held ++ c ∷ [] in
    still_some (overload_set high process (of_period t next)) (overload_set low process (of_period t next)) (λ none.
    (pass_is_empty_set high process t next).0 (relief.raised-limit_keeps_pass low high process t next r ((pass_is_empty_set low process t next).1 none)))

pub option_21 : (g : Grid) (process : Process) (t : Period) (held more : List Contract) (c : Contract) → OptionMore held more
    → (award_over g process t held c).fails ≡ true → (award_over g process t more c).fails ≡ true
option_21 g process t held more c o =
    let next = held ++ c ∷ [] in
    let after = more ++ c ∷ [] in
    let with : OptionMore next after
    = record { added = o.added; is-option = o.is-option; anywhere = with_reordered c more (o.added ∷ held) o.anywhere } in
    still_some (overload_set g process (of_period t next)) (overload_set g process (of_period t after)) (λ none.
    (pass_is_empty_set g process t next).0 (relief.passed_before_option g process t next after with ((pass_is_empty_set g process t after).1 none)))

-- ---- adding: the checks before 21 look at the award and at how many are held

pub adds-alike : (g : Grid) (process : Process) (t : Period) (s r : Tiers) (award : List ℕ) → Reordered s.awards r.awards
    → first (add_checks g process t s award) ≡ first (add_checks g process t r award)
adds-alike g process t s r award p =
    let held = length-perm s.awards r.awards p in
    let over = alike_next g process t s.awards r.awards (row_at award 0) p in
    λ i. first (award_checks g.factors.nodes (held i) award (overload (over i)))

-- 21 is the last: where it is drawn all before it pass
last-drawn : (full a b c d over : Bool)
    → cond full (Err ContractCount) (cond a (Err PeriodOrKind) (cond b (Err HolderRange)
    (cond c (Err NodeNumber) (cond d (Err QuantityRange) (cond over (Err AwardOverload) passed)))))
    ≡ Err AwardOverload
    → (a ≡ false) × (b ≡ false) × (c ≡ false) × (d ≡ false) × (over ≡ true)
last-drawn true a b c d o e = (cc, cc, cc, cc, cc)
last-drawn false true b c d o e = (cc, cc, cc, cc, cc)
last-drawn false false true c d o e = (cc, cc, cc, cc, cc)
last-drawn false false false true d o e = (cc, cc, cc, cc, cc)
last-drawn false false false false true o e = (cc, cc, cc, cc, cc)
last-drawn false false false false false true e = (refl, refl, refl, refl, refl)
last-drawn false false false false false false e = (refl, refl, refl, refl, cc)

pub still_draws_21 : (g : Grid) (process : Process) (t : Period) (s r : Tiers) (award : List ℕ) → OptionMore s.awards r.awards → length r.awards < max_contracts
    → first (add_checks g process t s award) ≡ Err AwardOverload → first (add_checks g process t r award) ≡ Err AwardOverload
unfolding first award_checks row_checks contract_checks
still_draws_21 g process t s r award o few e =
    let n = g.factors.nodes in
    let c = row_at award 0 in
    let l = last-drawn (contract_count (length s.awards + 1)).fails (kind_and_period (get_or award 0 0) (get_or award 1 0)).fails (holder_range (get_or award 2 0)).fails
    (node_number n c.source c.sink).fails (quantity_range c.quantity.0).fails (award_over g process t s.awards c).fails e in
    rw (le-ltb max_contracts (length r.awards + 1) (omega arith), l.0, l.1, l.2, l.3, option_21 g process t s.awards r.awards c o l.4)
