-- Laws of marks: what the checks find, a mark dropped or left, and a block copied cell by cell.
use mathlib.Core.Path.{◌≡◌, refl, sym, ap, ◌∙◌, subst₂}
use mathlib.Core.Logic.{inl, inr, ⊎_elim}
use mathlib.Core.Bool.{Bool, false}
use mathlib.Core.List.{List, [], ◌∷◌, ◌++◌}
use mathlib.Core.Option
use Prim.Native.Nat.{ℕ, ◌+◌, ◌-◌, ◌≤◌, ◌<◌}
use native.Mathlib.Numerals.{add-one}
use native.Mathlib.Omega.{arith}
use borrow.Author.Tests.{lt-ltb, le-ltb, eq-eqb, ne_eqb, ltb-false}
use lib.Dec.{eqb}
use lib.ListN.{length, get_or, set, take, drop, length-drop, get_or-append}
use lib.Seq.{paste, paste-suc, length_paste_head, length-take-le, get_or-take, get_or-drop}
use lib.IntN.{ℤ, pos}
use Rattle.tariff.specs.declared.refusals.Refusal.{Refusal}
use Rattle.tariff.specs.declared.refusals.Refusal.TheVariants.{ShortTable, TierMark}
use Rattle.tariff.specs.Refusals.{Checked, passed}
use Rattle.std.specs.Prelude.{Ok, Err}
use Rattle.tariff.specs.declared.contracts.Period.{Period}
use Rattle.tariff.specs.Units.{Grid, max_constraints}
use Rattle.tariff.specs.Refusals.{first, decided, answered, cell_after}
use Rattle.tariff.proofs.Checks.{first-append, passed_cons, passed_append}
use Rattle.tier_rules.specs.Checks.{max_tier, mark_checks, return_checks_of, unset_mark, is_unset}
use Rattle.tier_rules.specs.Runs.{returned_to}
use Rattle.tier_rules.specs.Cells.{RunningAnswer}
use Rattle.tier_rules.specs.Cells.{state_numbers, state_flows, flag_cell, held_cell, mark_block, state_cells, running_outcome}
use Rattle.tier_rules.specs.Cells.{drop_mark_of, marked_numbers, marked_flows, returned_numbers, returned_flows, HoldsTiers}
use Rattle.tier_rules.specs.Tiers.{Tiers, marked}
use Rattle.tier_rules.proofs.Cells.{behind}
use Rattle.tier_rules.proofs.States.{marked-reached, returned-reached}
use Rattle.tier_rules.proofs.Holding.{marked-holds, returned-holds}
use Rattle.tier_rules.proofs.Going.{goes_on, a_tier as tier-of, flag_told, set-mark, last-same, both-kept, both-made}
use Rattle.tier_mark_rules.specs.MarkTier.{MarkTierCall, mark_tier_call, mark_tier_checks, mark_tier_checked, numbers_marked, flows_marked, MarkGoesOn, MarksTier}
use Rattle.tier_mark_rules.specs.ReturnToTier.{ReturnToTierCall, return_listed, return_to_tier_checked, return_to_tier_checks, numbers_returned, flows_returned, ReturnGoesOn, ReturnsToTier}
use Rattle.tier_mark_rules.specs.Inner.{Apart}

-- ---- what the checks of marking find

module _ (q : MarkTierCall) where
  pub numbers-short : length q.numbers < state_numbers → Err ShortTable ≡ mark_tier_checked q
  unfolding first mark_tier_checks
  numbers-short h = sym (rw (lt-ltb (length q.numbers) state_numbers h))

  module _ (n : state_numbers ≤ length q.numbers) where
    pub flows-short : length q.flows < state_flows → Err ShortTable ≡ mark_tier_checked q
    unfolding first mark_tier_checks
    flows-short h = sym (rw (le-ltb (length q.numbers) state_numbers n, lt-ltb (length q.flows) state_flows h))

    module _ (f : state_flows ≤ length q.flows) where
      pub no_tier : q.tier ≡ 0 → Err TierMark ≡ mark_tier_checked q
      unfolding first mark_tier_checks mark_checks
      no_tier e = sym (rw (le-ltb (length q.numbers) state_numbers n, le-ltb (length q.flows) state_flows f, eq-eqb q.tier 0 e))

      pub past_tiers : (q.tier ≡ 0 → ⊥) → max_tier < q.tier → Err TierMark ≡ mark_tier_checked q
      unfolding first mark_tier_checks mark_checks
      past_tiers z h = sym (rw (le-ltb (length q.numbers) state_numbers n, le-ltb (length q.flows) state_flows f, ne_eqb q.tier 0 z, lt-ltb max_tier q.tier h))

      pub a_tier : (q.tier ≡ 0 → ⊥) → q.tier ≤ max_tier → passed ≡ mark_tier_checked q
      unfolding first mark_tier_checks mark_checks
      a_tier z h = sym (rw (le-ltb (length q.numbers) state_numbers n, le-ltb (length q.flows) state_flows f, ne_eqb q.tier 0 z, le-ltb max_tier q.tier h))

-- ---- of returning: those of marking, then the flag; x is what the first found

module _ (q : ReturnToTierCall) (x : Checked) where
  abbrev as_mark : MarkTierCall
  as_mark = mark_tier_call q.tier q.numbers q.flows

  in_parts : (unset : Bool) → first (return_listed q unset) ≡ decided (mark_tier_checked as_mark) Err (first (unset_mark unset ∷ []))
  unfolding return_listed mark_tier_checks return_checks_of mark_checks
  in_parts unset = first-append (mark_tier_checks as_mark) (unset_mark unset ∷ [])

  module _ (found : x ≡ mark_tier_checked as_mark) where
    pub tier-refuses : (r : Refusal) → x ≡ Err r → Err r ≡ return_to_tier_checked q
    tier-refuses r told = sym (in_parts (eqb (get_or q.numbers (flag_cell q.tier) 0) 0) ∙ rw (← found, told))

    pub unset : x ≡ passed → get_or q.numbers (flag_cell q.tier) 0 ≡ 0 → Err TierMark ≡ return_to_tier_checked q
    unfolding first
    unset told e = sym (in_parts (eqb (get_or q.numbers (flag_cell q.tier) 0) 0) ∙ rw (← found, told, eq-eqb (get_or q.numbers (flag_cell q.tier) 0) 0 e))

    pub is_set : x ≡ passed → (get_or q.numbers (flag_cell q.tier) 0 ≡ 0 → ⊥) → passed ≡ return_to_tier_checked q
    unfolding first
    is_set told ne = sym (in_parts (eqb (get_or q.numbers (flag_cell q.tier) 0) 0) ∙ rw (← found, told, ne_eqb (get_or q.numbers (flag_cell q.tier) 0) 0 ne))

-- ---- a mark dropped or left

module _ (m j : ℕ) (numbers : List ℕ) where
  pub drop-taken : m < get_or numbers (held_cell j) 0 → set numbers (flag_cell j) 0 ≡ drop_mark_of m j numbers
  drop-taken h = rw (lt-ltb m (get_or numbers (held_cell j) 0) h)

  pub drop-left : get_or numbers (held_cell j) 0 ≤ m → numbers ≡ drop_mark_of m j numbers
  drop-left h = rw (le-ltb m (get_or numbers (held_cell j) 0) h)

-- ---- a block copied up to its cell k

module _ (entry flows : List ℤ) (from to k : ℕ) (ok : Apart from to entry) (inside : k < max_constraints) (done : flows ≡ paste entry to (drop from entry) k) where
  abbrev source : List ℤ
  source = drop from entry

  source-long : k < length source
  source-long = rw length-drop (omega (arith, ok.source_in))

  head_long : length (take to entry ++ take k source) ≡ to + k
  head_long = length_paste_head entry to source k (omega (arith, ok.target_in)) (omega (arith, source-long))

  -- a cell of the source is as it was
  unmoved : get_or (paste entry to source k) (from + k) (pos 0) ≡ get_or entry (from + k) (pos 0)
  unmoved = ⊎_elim in_front in_back ok.apart
    where
      in_front : from + max_constraints ≤ to → get_or (paste entry to source k) (from + k) (pos 0) ≡ get_or entry (from + k) (pos 0)
      in_front h =
          get_or-append (take to entry ++ take k source) (drop (to + k) entry) (pos 0) (from + k) (omega (arith, head_long))
          ∙ get_or-append (take to entry) (take k source) (pos 0) (from + k) (omega (arith, length-take-le to entry (omega (arith, ok.target_in))))
          ∙ get_or-take to entry (from + k) (pos 0) (omega arith)

      in_back : to + max_constraints ≤ from → get_or (paste entry to source k) (from + k) (pos 0) ≡ get_or entry (from + k) (pos 0)
      in_back h =
          let e : from + k ≡ to + k + (from - to) = omega arith in
          rw e (behind (take to entry ++ take k source) (drop (to + k) entry) (to + k) (from - to) (pos 0) head_long ∙ get_or-drop (to + k) entry (from - to) (pos 0))

  pub copy_turn : (v : ℤ) → v ≡ get_or flows (from + k) (pos 0) → set flows (to + k) v ≡ paste entry to source (k + 1)
  copy_turn v e =
      let w : v ≡ get_or source k (pos 0) = e ∙ ap (λ (l : List ℤ). get_or l (from + k) (pos 0)) done ∙ unmoved ∙ sym (get_or-drop from entry k (pos 0)) in
      rw (done, w, add-one) (paste-suc entry to source k (pos 0) (omega (arith, ok.target_in)) source-long)

-- ---- what holds where no check refuses

pub record AtTier (i : ℕ) (numbers : List ℕ) (flows : List ℤ) : Type 0 where
  pub numbers-long : state_numbers ≤ length numbers
  pub flows_long : state_flows ≤ length flows
  pub some_tier : 1 ≤ i
  pub last-tier : i ≤ max_tier

pub at-tier : (q : MarkTierCall) → mark_tier_checked q ≡ passed → AtTier q.tier q.numbers q.flows
unfolding mark_tier_checks mark_checks
at-tier q e =
    let a = passed_cons _ _ e in
    let b = passed_cons _ _ a.1 in
    let t = tier-of q.tier (passed_cons _ _ b.1).0 in
    record {
      numbers-long = ltb-false (length q.numbers) state_numbers a.0;
      flows_long = ltb-false (length q.flows) state_flows b.0;
      some_tier = t.0;
      last-tier = t.1;
    }

-- the flows held and those of a tier's mark do not overlap
pub mark-apart : (i : ℕ) (numbers : List ℕ) (flows : List ℤ) → AtTier i numbers flows → Apart 0 (mark_block i) flows × Apart (mark_block i) 0 flows
mark-apart i numbers flows o =
    let held : 0 + max_constraints ≤ length flows = omega (arith, o.flows_long) in
    let marked : mark_block i + max_constraints ≤ length flows = omega (arith, o.last-tier, o.flows_long) in
    let past : 0 + max_constraints ≤ mark_block i = omega (arith, o.some_tier) in
    (record { source_in = held; target_in = marked; apart = inl past }, record { source_in = marked; target_in = held; apart = inr past })

-- of returning: so the first checks pass too, and the mark is set
pub return_parts : (q : ReturnToTierCall) (unset : Bool) → first (return_listed q unset) ≡ passed
    → (mark_tier_checked (mark_tier_call q.tier q.numbers q.flows) ≡ passed) × (unset ≡ false)
unfolding return_listed mark_tier_checks return_checks_of mark_checks
return_parts q unset e =
    let p = passed_append (mark_tier_checks (mark_tier_call q.tier q.numbers q.flows)) (unset_mark unset ∷ []) e in
    (p.0, (passed_cons _ _ p.1).0)

-- and so what holds of marking
pub at_return : (q : ReturnToTierCall) → return_to_tier_checked q ≡ passed → AtTier q.tier q.numbers q.flows
at_return q e = at-tier q (return_parts q (eqb (get_or q.numbers (flag_cell q.tier) 0) 0) e).0

-- ---- the promises on running tests

mark-goes_on : (q : MarkTierCall) → MarkGoesOn q (numbers_marked q) (flows_marked q)
mark-goes_on q g process t awards =
    goes_on g process t (mark_tier_checked q) (λ s. mark_tier_checks q) (marked q.tier) (state_cells awards q.numbers q.flows)
    (λ x. state_cells awards (cell_after x (marked_numbers q.tier q.numbers) q.numbers) (cell_after x (marked_flows q.tier q.flows) q.flows)) (λ z. refl) (λ s r h. refl)
    (λ s r h e.
    let k = at-tier q e in
    (marked-reached g process t s r q.tier, marked-holds g t s awards q.numbers q.flows h k.numbers-long k.flows_long q.tier k.some_tier k.last-tier))

marks-tier : (q : MarkTierCall) (answer : RunningAnswer) (numbers : List ℕ) (flows : List ℤ) → running_outcome answer ≡ answered (mark_tier_checked q) []
    → numbers ≡ numbers_marked q → flows ≡ flows_marked q → MarksTier q answer numbers flows
marks-tier q answer numbers flows a n f =
    record { answer-given = a; numbers-marked = n; flows-marked = f; running = subst₂ (λ (x : List ℕ) (y : List ℤ). MarkGoesOn q x y) (sym n) (sym f) (mark-goes_on q) }

-- the flag over the cells, and the mark over the state
return_checks : (q : ReturnToTierCall) (g : Grid) (t : Period) (s : Tiers) (awards : List ℕ) → HoldsTiers g t s (state_cells awards q.numbers q.flows)
    → return_to_tier_checked q ≡ first (return_to_tier_checks q s)
unfolding return_listed return_checks_of mark_tier_checks mark_checks
return_checks q g t s awards h =
    last-same (mark_tier_checks (mark_tier_call q.tier q.numbers q.flows)) (eqb (get_or q.numbers (flag_cell q.tier) 0) 0) (is_unset (s.mark q.tier)) TierMark
    (λ e. let k = at-tier (mark_tier_call q.tier q.numbers q.flows) e in flag_told g t s (state_cells awards q.numbers q.flows) h q.tier k.some_tier k.last-tier)

return_goes_on : (q : ReturnToTierCall) → ReturnGoesOn q (numbers_returned q) (flows_returned q)
return_goes_on q g process t awards =
    goes_on g process t (return_to_tier_checked q) (return_to_tier_checks q) (returned_to q.tier) (state_cells awards q.numbers q.flows)
    (λ x. state_cells awards (cell_after x (returned_numbers q.tier q.numbers) q.numbers) (cell_after x (returned_flows q.tier q.flows) q.flows)) (λ z. refl)
    (λ s r h. return_checks q g t s awards h)
    (λ s r h e.
    let m = Option.get_or (s.mark q.tier) 0 in
    let p = return_parts q (is_unset (s.mark q.tier)) (sym (return_checks q g t s awards h) ∙ e) in
    let k = at-tier (mark_tier_call q.tier q.numbers q.flows) p.0 in (
      returned-reached g process t s r m,
      returned-holds g t s awards q.numbers q.flows h k.numbers-long k.flows_long process r q.tier k.some_tier k.last-tier m (set-mark (s.mark q.tier) p.1),
    ))

returns-to_tier : (q : ReturnToTierCall) (answer : RunningAnswer) (numbers : List ℕ) (flows : List ℤ) → running_outcome answer ≡ answered (return_to_tier_checked q) []
    → numbers ≡ numbers_returned q → flows ≡ flows_returned q → ReturnsToTier q answer numbers flows
returns-to_tier q answer numbers flows a n f =
    record { answer-given = a; numbers-returned = n; flows-returned = f; running = subst₂ (λ (x : List ℕ) (y : List ℤ). ReturnGoesOn q x y) (sym n) (sym f) (return_goes_on q) }

-- ---- the promises, where x is what the checks found: one refuses, or both buffers were changed

module _ (q : MarkTierCall) (x : Checked) where
  pub marks-kept : x ≡ mark_tier_checked q → (r : Refusal) → x ≡ Err r → MarksTier q (Err r) q.numbers q.flows
  marks-kept = both-kept (mark_tier_checked q) (marked_numbers q.tier q.numbers) q.numbers (marked_flows q.tier q.flows) q.flows (MarksTier q) (marks-tier q) x

  pub marks-made : x ≡ mark_tier_checked q → x ≡ passed → (numbers : List ℕ) (flows : List ℤ) → numbers ≡ marked_numbers q.tier q.numbers
      → flows ≡ marked_flows q.tier q.flows → MarksTier q passed numbers flows
  marks-made = both-made (mark_tier_checked q) (marked_numbers q.tier q.numbers) q.numbers (marked_flows q.tier q.flows) q.flows (MarksTier q) (marks-tier q) x

  pub return_kept : x ≡ return_to_tier_checked q → (r : Refusal) → x ≡ Err r → ReturnsToTier q (Err r) q.numbers q.flows
  return_kept = both-kept (return_to_tier_checked q) (returned_numbers q.tier q.numbers) q.numbers (returned_flows q.tier q.flows) q.flows (ReturnsToTier q) (returns-to_tier q) x

  pub return_made : x ≡ return_to_tier_checked q → x ≡ passed → (numbers : List ℕ) (flows : List ℤ) → numbers ≡ returned_numbers q.tier q.numbers
      → flows ≡ returned_flows q.tier q.flows → ReturnsToTier q passed numbers flows
  return_made = both-made (return_to_tier_checked q) (returned_numbers q.tier q.numbers) q.numbers (returned_flows q.tier q.flows) q.flows (ReturnsToTier q) (returns-to_tier q) x
