-- `sentences-told`: which numbers have a sentence, and how long it is.
use mathlib.Core.Path.{◌≡◌, refl}
use mathlib.Core.Bool.{Bool, true, false}
use mathlib.Core.List.{[]}
use Prim.Native.Nat.{ℕ, ◌≤◌}
use native.Mathlib.Omega.{arith}
use borrow.Author.Tests.{ltb-true, ltb-false, leb-true}
use lib.Dec.{leb, ltb}
use lib.ListN.{length, get_or-eq_default}
use Rattle.lists.specs.Lists.{list_to}
use Rattle.tariff.specs.declared.refusals.Refusal.{Refusal}
use Rattle.tariff.specs.declared.refusals.Refusal.TheVariants.{ShortFile, NodeCount, ConstraintCount, SpareBits, FileLength, LimitRange, FactorRange}
use Rattle.tariff.specs.declared.refusals.Refusal.TheVariants.{Padding, ShortTable, ContractCount, NodeNumber, QuantityRange}
use Rattle.tariff.specs.declared.refusals.Refusal.TheVariants.{PriceCount, PriceRange, ProcessNumber, PeriodOrKind, HolderRange}
use Rattle.tariff.specs.declared.refusals.Refusal.TheVariants.{NoSuchDate, TierMark, AwardOverload, MigrationRange, LoadExceeded}
use Rattle.tariff.specs.declared.refusals.Refusal.TheVariants.{HubShape, HubNodeTwice, ShareRange, NoDemand}
use Rattle.tariff.specs.Refusals.{number_of}
use Rattle.text_refusals.specs.Sentences.{sentences, meaning}
use Rattle.text_refusals.specs.RefusalText.{text_room}
use Rattle.text_refusals.specs.Theorems.{SentencesTold}
use Rattle.text_refusals.specs.Inner.{numbers}
use Rattle.text_refusals.proofs.Parts.{agree}

-- a number above the last refusal's has none
pub beyond : (n : ℕ) → 28 ≤ n → meaning n ≡ []
unfolding meaning sentences
beyond n h = get_or-eq_default sentences [] {n = n} h

-- ---- how long they are

fit : list_to numbers (λ (n : ℕ). leb (length (meaning n)) text_room) ≡ list_to numbers (λ (n : ℕ). true)
unfolding list_to meaning sentences
fit = refl

enough-by : (n : ℕ) (b : Bool) → ltb n numbers ≡ b → length (meaning n) ≤ text_room
enough-by n true e =
    leb-true (length (meaning n)) text_room (agree (λ (k : ℕ). leb (length (meaning k)) text_room) (λ (k : ℕ). true) fit true n (ltb-true n numbers e))
enough-by n false e = rw (beyond n (ltb-false n numbers e)) (omega arith)

enough : (n : ℕ) → length (meaning n) ≤ text_room
enough n = enough-by n (ltb n numbers) refl

-- every refusal has one
each-has_one : (r : Refusal) → 1 ≤ length (meaning (number_of r))
unfolding meaning sentences
each-has_one ShortFile = omega arith
each-has_one NodeCount = omega arith
each-has_one ConstraintCount = omega arith
each-has_one SpareBits = omega arith
each-has_one FileLength = omega arith
each-has_one LimitRange = omega arith
each-has_one FactorRange = omega arith
each-has_one Padding = omega arith
each-has_one ShortTable = omega arith
each-has_one ContractCount = omega arith
each-has_one NodeNumber = omega arith
each-has_one QuantityRange = omega arith
each-has_one PriceCount = omega arith
each-has_one PriceRange = omega arith
each-has_one ProcessNumber = omega arith
each-has_one PeriodOrKind = omega arith
each-has_one HolderRange = omega arith
each-has_one NoSuchDate = omega arith
each-has_one TierMark = omega arith
each-has_one AwardOverload = omega arith
each-has_one MigrationRange = omega arith
each-has_one LoadExceeded = omega arith
each-has_one HubShape = omega arith
each-has_one HubNodeTwice = omega arith
each-has_one ShareRange = omega arith
each-has_one NoDemand = omega arith

twelve : meaning 12 ≡ []
unfolding meaning sentences
twelve = refl

pub sentences-told : SentencesTold
sentences-told = record { each-refusal = each-has_one; none-beyond = λ n h. beyond n h; none-for_12 = twelve; room-enough = enough }
