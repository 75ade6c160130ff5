-- What is known of a state goes on through each operation, and what it guarantees.
use mathlib.Core.Path.{◌≡◌, refl, ap₂, fun_ext}
use mathlib.Core.Bool.{Bool, true, false, cond}
use mathlib.Core.List.{List, [], ◌∷◌, ◌++◌}
use mathlib.Core.Option.{Option, none, some}
use Prim.Native.Nat.{ℕ, zero, suc, ◌+◌, ◌≤◌, ◌<◌}
use native.Mathlib.Nat.{le-min, min-le_left}
use native.Mathlib.Omega.{arith}
use borrow.Author.Tests.{leb-true, leb-false, le-leb, lt-leb, eq-eqb, ne_eqb, le-ltb}
use lib.Dec.{leb, ltb, eqb}
use lib.ListN.{length, take, length-append, length-take}
use lib.Seq.{take-append-le, take_all, take-length, take-nil, take-take}
use lib.IntN.{pos}
use Rattle.lists.specs.Lists.{Each}
use Rattle.lists.proofs.Lists.{each_append}
use Rattle.tariff.specs.declared.contracts.Contract.{Contract}
use Rattle.tariff.specs.declared.contracts.Period.{Period}
use Rattle.tariff.specs.declared.processes.Process.{Process}
use Rattle.tariff.specs.Units.{Grid}
use Rattle.tariff.specs.ContractRules.{same_period, of_period}
use Rattle.tariff.specs.Feasibility.{Passes, overload_set}
use Rattle.tariff.specs.Shortfall.{IsWorst}
use Rattle.tariff.proofs.Theorems.{pass_is_worst_zero, pass_is_empty_set, empty_book_passes}
use Rattle.tariff.proofs.Periods.{of_period-other}
use Rattle.test_rules.specs.TestBook.{test_values}
use Rattle.tier_rules.specs.Tiers.{Tiers, opened, with_award, marked, kept, returned, Award, Reached}

-- ---- lists

each_take : {A : Type 0} (P : A → Type 0) (m : ℕ) (xs : List A) → Each P xs → Each P (take m xs)
each_take P zero xs h = tt
each_take P (suc m) [] h = tt
each_take P (suc m) (x ∷ xs) h = (h.0, each_take P m xs h.1)

-- what holds of every front of a list holds of every front of a front
fronts_take : (P : List Contract → Type 0) (xs : List Contract) → ((m : ℕ) → P (take m xs)) → (m k : ℕ) → P (take k (take m xs))
fronts_take P xs h m k = by (leb k m) refl
  where
    by : (b : Bool) → leb k m ≡ b → P (take k (take m xs))
    by true e = rw (take-take k m xs (leb-true k m e)) (h k)
    by false e = rw (take_all k (take m xs) (omega (arith, leb-false k m e, length-take m xs, min-le_left m (length xs)))) (h m)

-- what holds of every front and of the whole with one more holds of every front of that
fronts_more : (P : List Contract → Type 0) (xs : List Contract) (x : Contract) → ((m : ℕ) → P (take m xs)) → P (xs ++ x ∷ []) → (m : ℕ) → P (take m (xs ++ x ∷ []))
fronts_more P xs x h w m = by (leb m (length xs)) refl
  where
    by : (b : Bool) → leb m (length xs) ≡ b → P (take m (xs ++ x ∷ []))
    by true e = rw (take-append-le m xs (x ∷ []) (leb-true m (length xs) e)) (h m)
    by false e = rw (take_all m (xs ++ x ∷ []) (omega (arith, leb-false m (length xs) e, length-append xs (x ∷ [])))) w

-- ---- marks

pub kept-held : (m x : ℕ) (o : Option ℕ) → kept m o ≡ some x → (x ≤ m) × (o ≡ some x)
kept-held m x none e = (let z : ◌≡◌ {A = ℕ} 0 1 = cc in absurd (omega arith), e)
kept-held m x (some y) e = by (leb y m) refl e
  where
    by : (b : Bool) → leb y m ≡ b → cond b (some y) none ≡ some x → (x ≤ m) × (some y ≡ some x)
    by true q e = (let z : y ≡ x = cc in omega (arith, leb-true y m q), e)
    by false q e = (let z : ◌≡◌ {A = ℕ} 0 1 = cc in absurd (omega arith), cc)

pub kept-stays : (m x : ℕ) → x ≤ m → kept m (some x) ≡ some x
kept-stays m x h = rw (le-leb x m h)

pub kept-drops : (m x : ℕ) → m < x → kept m (some x) ≡ none
kept-drops m x h = rw (lt-leb x m h)

pub marking-sets : (i : ℕ) (s : Tiers) → (marked i s).mark i ≡ some (length s.awards)
marking-sets i s = rw (eq-eqb i i refl)

pub marking-leaves : (i j : ℕ) (s : Tiers) → (j ≡ i → ⊥) → (marked i s).mark j ≡ s.mark j
marking-leaves i j s ne = rw (ne_eqb j i ne)

-- ---- the operations

module _ (g : Grid) (process : Process) (t : Period) where
  abbrev Ok : List Contract → Type 0
  Ok cs = Passes g process (of_period t cs)

  pub opened-reached : Reached g process t opened
  opened-reached =
      record {
        each = tt;
        few = omega arith;
        passes = λ m. rw (take-nil {A = Contract} m) (empty_book_passes g process t);
        marks-held = λ i m e. let z : ◌≡◌ {A = ℕ} 0 1 = cc in absurd (omega arith);
      }

  module _ (s : Tiers) (r : Reached g process t s) where
    pub with_reached : (c : Contract) → Award g.factors.nodes c → length s.awards + 1 ≤ 1000 → overload_set g process (of_period t (s.awards ++ c ∷ [])) ≡ 0
        → Reached g process t (with_award c s)
    with_reached c i f e =
        record {
          each = each_append (Award g.factors.nodes) s.awards (c ∷ []) r.each (i, tt);
          few = omega (arith, length-append s.awards (c ∷ []));
          passes = fronts_more Ok s.awards c r.passes ((pass_is_empty_set g process t (s.awards ++ c ∷ [])).1 e);
          marks-held = λ j m q. omega (arith, length-append s.awards (c ∷ []), r.marks-held j m q);
        }

    pub marked-reached : (i : ℕ) → Reached g process t (marked i s)
    marked-reached i = record { each = r.each; few = r.few; passes = r.passes; marks-held = λ j m e. by j m (eqb j i) e }
      where
        by : (j m : ℕ) (b : Bool) → cond b (some (length s.awards)) (s.mark j) ≡ some m → m ≤ length s.awards
        by j m true e = let z : length s.awards ≡ m = cc in omega arith
        by j m false e = r.marks-held j m e

    pub returned-reached : (m : ℕ) → Reached g process t (returned m s)
    returned-reached m =
        record {
          each = each_take (Award g.factors.nodes) m s.awards r.each;
          few = omega (arith, r.few, length-take m s.awards);
          passes = fronts_take Ok s.awards r.passes m;
          marks-held = λ j x e. let k = kept-held m x (s.mark j) e in rw (length-take m s.awards) (le-min k.0 (r.marks-held j x k.1));
        }

    -- returning to as many awards as are held changes nothing
    pub returned-all : returned (length s.awards) s ≡ s
    returned-all = ap₂ (λ (a : List Contract) (f : ℕ → Option ℕ). record { awards = a; mark = f }) (take-length s.awards) (fun_ext (λ j. by j (s.mark j) refl))
      where
        by : (j : ℕ) (o : Option ℕ) → s.mark j ≡ o → kept (length s.awards) o ≡ o
        by j none e = refl
        by j (some x) e = kept-stays (length s.awards) x (r.marks-held j x e)

    -- ---- what a state reached guarantees
    pub reached-passes : Passes g process (of_period t s.awards)
    reached-passes = rw (take-length s.awards) at (r.passes (length s.awards))

    pub reached-empty : overload_set g process (of_period t s.awards) ≡ 0
    reached-empty = (pass_is_empty_set g process t s.awards).0 reached-passes

    pub reached-worst : IsWorst g process (of_period t s.awards) (pos 0)
    reached-worst = (pass_is_worst_zero g process t s.awards).0 reached-passes

    pub reached-values : test_values g process (of_period t s.awards) ≡ []
    unfolding test_values
    reached-values = rw (eq-eqb (overload_set g process (of_period t s.awards)) 0 reached-empty)

    pub other_period_never_21 : (c : Contract) → same_period c.period t ≡ false → ltb 0 (overload_set g process (of_period t (s.awards ++ c ∷ []))) ≡ false
    other_period_never_21 c e = rw (of_period-other t s.awards c e) (le-ltb 0 (overload_set g process (of_period t s.awards)) (omega (arith, reached-empty)))
