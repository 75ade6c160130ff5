-- Document 01, "When input is turned down": the refusals' numbers, the first check that holds, and what becomes of lent cells.
use Rattle.std.specs.Prelude.{◌≡◌, Bool, cond, List, [], ◌∷◌, ℕ, ℤ, Result, ⊤, Ok, Err}
use Rattle.lists.specs.Lent.{overwrite}
use Rattle.tariff.specs.declared.refusals.Refusal.{Refusal}
use Rattle.tariff.specs.declared.refusals.Refusal.TheVariants.{ShortFile, NodeCount, ConstraintCount, SpareBits, FileLength, LimitRange, FactorRange}
use Rattle.tariff.specs.declared.refusals.Refusal.TheVariants.{Padding, ShortTable, ContractCount, NodeNumber, QuantityRange}
use Rattle.tariff.specs.declared.refusals.Refusal.TheVariants.{PriceCount, PriceRange, ProcessNumber, PeriodOrKind, HolderRange}
use Rattle.tariff.specs.declared.refusals.Refusal.TheVariants.{NoSuchDate, TierMark, AwardOverload, MigrationRange, LoadExceeded}
use Rattle.tariff.specs.declared.refusals.Refusal.TheVariants.{HubShape, HubNodeTwice, ShareRange, NoDemand}

-- the papers' number of each refusal; "12 no longer occurs" (document 02, paper 6)
abbrev pub number_of : Refusal → ℕ
number_of ShortFile = 1
number_of NodeCount = 2
number_of ConstraintCount = 3
number_of SpareBits = 4
number_of FileLength = 5
number_of LimitRange = 6
number_of FactorRange = 7
number_of Padding = 8
number_of ShortTable = 9
number_of ContractCount = 10
number_of NodeNumber = 11
number_of QuantityRange = 13
number_of PriceCount = 14
number_of PriceRange = 15
number_of ProcessNumber = 16
number_of PeriodOrKind = 17
number_of HolderRange = 18
number_of NoSuchDate = 19
number_of TierMark = 20
number_of AwardOverload = 21
number_of MigrationRange = 22
number_of LoadExceeded = 23
number_of HubShape = 24
number_of HubNodeTwice = 25
number_of ShareRange = 26
number_of NoDemand = 27

-- an answer's number: the refusal's, 0 where there is none; and what it found, or what stood there before
abbrev pub number_in : {A : Type 0} → Result A Refusal → ℕ
number_in (Ok a) = 0
number_in (Err r) = number_of r

abbrev pub found_or : {A : Type 0} → Result A Refusal → A → A
found_or (Ok a) entry = a
found_or (Err r) entry = entry

-- what an operation's checks find: none refuses, or the first that does
abbrev pub Checked : Type 0
Checked = Result ⊤ Refusal

abbrev pub passed : Checked
passed = Ok tt

-- one condition and the refusal that comes for it alone
pub record Check : Type 0 where
  pub fails : Bool
  pub refusal : Refusal

-- "checks run in the order written": the first that holds
unfoldable pub first : List Check → Checked
first [] = passed
first (c ∷ cs) = cond c.fails (Err c.refusal) (first cs)

-- an answer by what the checks found: one for a refusal, another where there is none
abbrev pub decided : {A : Type 0} → Checked → (Refusal → A) → A → A
decided (Ok _) f a = a
decided (Err r) f a = f r

-- An answer by the paper's figures: the refusal's number (0 where there is none) and the values given. "A refusal gives its number alone."
pub record Outcome : Type 0 where
  pub number : ℕ
  pub values : List ℤ

abbrev pub given : List ℤ → Outcome
given vs = record { number = 0; values = vs }

abbrev pub refused_by : Refusal → Outcome
refused_by r = record { number = number_of r; values = [] }

-- what an operation answers, by its checks and the values that it gives
abbrev pub answered : Checked → List ℤ → Outcome
answered checked vs = decided checked refused_by (given vs)

-- "a refusal changes no lent cell"; "success writes the cells named and no other"
abbrev pub cells_after : {A : Type 0} → Checked → List A → List A → List A
cells_after checked values entry = decided checked (λ r. entry) (overwrite values entry)

-- the same of one lent figure
abbrev pub cell_after : {A : Type 0} → Checked → A → A → A
cell_after checked value entry = decided checked (λ r. entry) value

-- the number alone: 0 is no refusal's
abbrev pub number_after : Checked → ℕ
number_after checked = decided checked number_of 0

-- a promise as C gets it, of an entry that gives no figure: the entry's, of an answer whose number is given
pub record ForC (Answer : Type 0) (outcome : Answer → Outcome) (Promise : Answer → Type 0) (number : ℕ) : Type 0 where
  pub answer : Answer
  pub promised : Promise answer
  pub refusal-number : number ≡ (outcome answer).number
