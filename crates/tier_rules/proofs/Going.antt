-- From the cells to the promise: an operation whose checks are those over the state, and whose cells at exit hold the next one, goes on.
use mathlib.Core.Path.{◌≡◌, refl, sym, ap, ◌∙◌}
use mathlib.Core.Bool.{Bool, false}
use mathlib.Core.List.{List, [], ◌∷◌, ◌++◌}
use mathlib.Core.Option
use mathlib.Core.Option.{Option, none, some}
use Prim.Native.Nat.{ℕ, ◌≤◌}
use native.Mathlib.Nat.{pos_of_ne-zero}
use borrow.Author.Tests.{ltb-false, eqb-false, eq-eqb}
use lib.Dec.{ltb, eqb}
use lib.ListN.{get_or}
use lib.IntN.{ℤ}
use Rattle.lists.proofs.Search.{neither}
use Rattle.tariff.specs.declared.contracts.Period.{Period}
use Rattle.tariff.specs.declared.processes.Process.{Process}
use Rattle.tariff.specs.declared.refusals.Refusal.{Refusal}
use Rattle.tariff.specs.Refusals.{Checked, passed}
use Rattle.std.specs.Prelude.{Ok, Err}
use Rattle.tariff.specs.Units.{Grid}
use Rattle.tariff.specs.Refusals.{Check, number_in, first, decided, answered, cell_after}
use Rattle.tariff.proofs.Checks.{first-append}
use Rattle.tariff.proofs.Answers.{answer-refused, answer-passed}
use Rattle.tier_rules.specs.Cells.{RunningAnswer}
use Rattle.tier_rules.specs.Tiers.{Tiers, Reached}
use Rattle.tier_rules.specs.Checks.{max_tier, tier_number, is_unset}
use Rattle.tier_rules.specs.Cells.{flag_cell, StateCells, running_outcome, MarkIs, HoldsTiers, Running, GoesOn}
use Rattle.tier_rules.proofs.States.{reached-worst, reached-values}

module _ (g : Grid) (process : Process) (t : Period) where
  pub running : (s : Tiers) (cells : StateCells) → Reached g process t s → HoldsTiers g t s cells → Running g process t s cells
  running s cells r h = record { reached = r; holds = h; worst-zero = reached-worst g process t s r; passes = reached-values g process t s r }

  -- the cells at exit, by what the checks found: as at entry where one refuses
  module _ (checked : Checked) (checks : Tiers → List Check) (next : Tiers → Tiers) (entry : StateCells) (exit : Checked → StateCells) (keeps : (q : Refusal) → exit (Err q) ≡ entry) where
    pub goes_on : ((s : Tiers) → Reached g process t s → HoldsTiers g t s entry → checked ≡ first (checks s))
        → ((s : Tiers) → Reached g process t s → HoldsTiers g t s entry → checked ≡ passed → Reached g process t (next s) × HoldsTiers g t (next s) (exit passed))
        → GoesOn g process t checked checks next entry (exit checked)
    goes_on are then = record { checks_are = are; runs_on = λ s r h. by s r h checked refl }
      where
        by : (s : Tiers) → Reached g process t s → HoldsTiers g t s entry → (x : Checked) → checked ≡ x → Running g process t (decided x (λ q. s) (next s)) (exit x)
        by s r h (Ok _) e = let n = then s r h e in running (next s) (exit passed) n.0 n.1
        by s r h (Err q) e = rw (keeps q) (running s entry r h)

-- ---- a buffer at exit: x is what the checking function gave

module _ {A : Type 0} (x checked : Checked) (found : x ≡ checked) where
  pub buffer_refused : (r : Refusal) → x ≡ Err r → (made entry : List A) → entry ≡ cell_after checked made entry
  buffer_refused r told made entry = rw (← found, told)

  pub buffer_passed : x ≡ passed → (made entry last : List A) → last ≡ made → last ≡ cell_after checked made entry
  buffer_passed told made entry last e = rw (← found, told) e

-- the promise on both buffers and the answer, from what the checking function gave
-- an answer's number is its outcome's
pub number_outcome : (answer : RunningAnswer) → number_in answer ≡ (running_outcome answer).number
number_outcome (Ok _) = refl
number_outcome (Err r) = refl

module _ (checked : Checked) (made-numbers numbers₀ : List ℕ) (made-flows flows₀ : List ℤ) (Promise : RunningAnswer → List ℕ → List ℤ → Type 0)
    (promised : (answer : RunningAnswer) (numbers : List ℕ) (flows : List ℤ) → running_outcome answer ≡ answered checked []
    → numbers ≡ cell_after checked made-numbers numbers₀ → flows ≡ cell_after checked made-flows flows₀ → Promise answer numbers flows)
    (x : Checked) (found : x ≡ checked) where
  pub both-kept : (r : Refusal) → x ≡ Err r → Promise (Err r) numbers₀ flows₀
  both-kept r told =
      promised (Err r) numbers₀ flows₀ (answer-refused x checked found r told [])
      (buffer_refused x checked found r told made-numbers numbers₀) (buffer_refused x checked found r told made-flows flows₀)

  pub both-made : x ≡ passed → (numbers : List ℕ) (flows : List ℤ) → numbers ≡ made-numbers → flows ≡ made-flows → Promise passed numbers flows
  both-made told numbers flows n f =
      promised passed numbers flows (answer-passed x checked found told [])
      (buffer_passed x checked found told made-numbers numbers₀ numbers n) (buffer_passed x checked found told made-flows flows₀ flows f)

-- ---- checks that find the same

-- two lists that differ in their last condition, and only where all before it pass
pub last-same : (xs : List Check) (a b : Bool) (r : Refusal) → (first xs ≡ passed → a ≡ b)
    → first (xs ++ record { fails = a; refusal = r } ∷ []) ≡ first (xs ++ record { fails = b; refusal = r } ∷ [])
last-same xs a b r e =
    first-append xs (record { fails = a; refusal = r } ∷ []) ∙ by (first xs) refl ∙ sym (first-append xs (record { fails = b; refusal = r } ∷ []))
  where
    by : (x : Checked) → first xs ≡ x → decided x Err (first (record { fails = a; refusal = r } ∷ [])) ≡ decided x Err (first (record { fails = b; refusal = r } ∷ []))
    by (Ok _) q = ap (λ (f : Bool). first (record { fails = f; refusal = r } ∷ [])) (e q)
    by (Err z) q = refl

-- ---- tiers and marks

pub a_tier : (i : ℕ) → (tier_number i).fails ≡ false → (1 ≤ i) × (i ≤ max_tier)
a_tier i e = let n = neither (eqb i 0) (ltb max_tier i) e in (pos_of_ne-zero (eqb-false i 0 n.0), ltb-false max_tier i n.1)

-- the flag of a tier says whether it is marked
pub flag_told : (g : Grid) (t : Period) (s : Tiers) (cells : StateCells) → HoldsTiers g t s cells → (i : ℕ) → 1 ≤ i → i ≤ max_tier
    → eqb (get_or cells.numbers (flag_cell i) 0) 0 ≡ is_unset (s.mark i)
flag_told g t s cells h i a b = by (s.mark i) (h.marks i a b)
  where
    by : (o : Option ℕ) → MarkIs g t s.awards cells i o → eqb (get_or cells.numbers (flag_cell i) 0) 0 ≡ is_unset o
    by none e = eq-eqb (get_or cells.numbers (flag_cell i) 0) 0 e
    by (some m) m-at = rw m-at.set_is

-- a mark that is set
pub set-mark : (o : Option ℕ) → is_unset o ≡ false → o ≡ some (Option.get_or o 0)
set-mark none e = cc
set-mark (some m) e = refl
