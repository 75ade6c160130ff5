-- What an answer says of its checks, and what an entry that checks first answers: values given mean that none refuses, and a refusal's number is the first one's.
use mathlib.Core.Path.{◌≡◌, refl, sym, ap, ◌∙◌}
use mathlib.Core.Logic.{◌≢◌}
use mathlib.Core.List.{List}
use Prim.Native.Nat.{ℕ, ◌<◌}
use native.Mathlib.Omega.{arith}
use lib.ListN.{get_or}
use lib.IntN.{ℤ, pos, nat_abs}
use Rattle.tariff.specs.declared.refusals.Refusal.{Refusal}
use Rattle.tariff.specs.declared.refusals.Refusal.TheVariants.{ShortFile, NodeCount, ConstraintCount, SpareBits, FileLength, LimitRange, FactorRange, Padding, ShortTable}
use Rattle.tariff.specs.declared.refusals.Refusal.TheVariants.{ContractCount, NodeNumber, QuantityRange, PriceCount, PriceRange, ProcessNumber, PeriodOrKind, HolderRange, NoSuchDate}
use Rattle.tariff.specs.declared.refusals.Refusal.TheVariants.{TierMark, AwardOverload, MigrationRange, LoadExceeded, HubShape, HubNodeTwice, ShareRange, NoDemand}
use Rattle.tariff.specs.Refusals.{Checked, passed}
use Rattle.std.specs.Prelude.{Ok, Err}
use Rattle.lists.specs.Lent.{overwrite}
use Rattle.tariff.specs.Refusals.{Outcome, number_of, given, refused_by, decided, answered, cells_after, cell_after, number_after}

-- a refusal's number: 1 to 99, and not 12
pub record IsNumber (n : ℕ) : Type 0 where
  pub above : 0 < n
  pub two_digits : n < 100
  pub not_12 : n ≢ 12

module _ (n : ℕ) (above : 0 < n) (small : n < 100) (other : n ≢ 12) where
  is_number : IsNumber n
  is_number = record { above = above; two_digits = small; not_12 = other }

pub number_is : (r : Refusal) → IsNumber (number_of r)
number_is ShortFile = is_number _ (omega arith) (omega arith) (λ e. omega arith)
number_is NodeCount = is_number _ (omega arith) (omega arith) (λ e. omega arith)
number_is ConstraintCount = is_number _ (omega arith) (omega arith) (λ e. omega arith)
number_is SpareBits = is_number _ (omega arith) (omega arith) (λ e. omega arith)
number_is FileLength = is_number _ (omega arith) (omega arith) (λ e. omega arith)
number_is LimitRange = is_number _ (omega arith) (omega arith) (λ e. omega arith)
number_is FactorRange = is_number _ (omega arith) (omega arith) (λ e. omega arith)
number_is Padding = is_number _ (omega arith) (omega arith) (λ e. omega arith)
number_is ShortTable = is_number _ (omega arith) (omega arith) (λ e. omega arith)
number_is ContractCount = is_number _ (omega arith) (omega arith) (λ e. omega arith)
number_is NodeNumber = is_number _ (omega arith) (omega arith) (λ e. omega arith)
number_is QuantityRange = is_number _ (omega arith) (omega arith) (λ e. omega arith)
number_is PriceCount = is_number _ (omega arith) (omega arith) (λ e. omega arith)
number_is PriceRange = is_number _ (omega arith) (omega arith) (λ e. omega arith)
number_is ProcessNumber = is_number _ (omega arith) (omega arith) (λ e. omega arith)
number_is PeriodOrKind = is_number _ (omega arith) (omega arith) (λ e. omega arith)
number_is HolderRange = is_number _ (omega arith) (omega arith) (λ e. omega arith)
number_is NoSuchDate = is_number _ (omega arith) (omega arith) (λ e. omega arith)
number_is TierMark = is_number _ (omega arith) (omega arith) (λ e. omega arith)
number_is AwardOverload = is_number _ (omega arith) (omega arith) (λ e. omega arith)
number_is MigrationRange = is_number _ (omega arith) (omega arith) (λ e. omega arith)
number_is LoadExceeded = is_number _ (omega arith) (omega arith) (λ e. omega arith)
number_is HubShape = is_number _ (omega arith) (omega arith) (λ e. omega arith)
number_is HubNodeTwice = is_number _ (omega arith) (omega arith) (λ e. omega arith)
number_is ShareRange = is_number _ (omega arith) (omega arith) (λ e. omega arith)
number_is NoDemand = is_number _ (omega arith) (omega arith) (λ e. omega arith)

-- no refusal has the number 0
pub numbered : (r : Refusal) → number_of r ≡ 0 → ⊥
numbered r e = absurd (omega (arith, (number_is r).above))

pub never_given : (r : Refusal) (vs : List ℤ) → refused_by r ≡ given vs → ⊥
never_given r vs e = numbered r (ap (λ (o : Outcome). o.number) e)

-- values were given: no check refuses, and they are the operation's
pub given-told : (checked : Checked) (vs ws : List ℤ) → given ws ≡ answered checked vs → (checked ≡ passed) × (ws ≡ vs)
given-told (Ok _) vs ws e = (refl, ap (λ (o : Outcome). o.values) e)
given-told (Err q) vs ws e = absurd (never_given q ws (sym e))

-- the number alone is the checks', and 0 says that none refused
pub number-of : (checked : Checked) (vs : List ℤ) → (answered checked vs).number ≡ number_after checked
number-of (Ok _) vs = refl
number-of (Err r) vs = refl

pub number-told : (checked : Checked) (vs : List ℤ) (o : Outcome) → o ≡ answered checked vs → (n : ℕ) → n ≡ o.number → n ≡ number_after checked
number-told checked vs o told n e = e ∙ ap (λ (x : Outcome). x.number) told ∙ number-of checked vs

pub none-refused : (checked : Checked) → 0 ≡ number_after checked → checked ≡ passed
none-refused (Ok _) e = refl
none-refused (Err r) e = absurd (numbered r (sym e))

-- a lent figure after a call that no check refuses
pub figure-is : {A : Type 0} (checked : Checked) → checked ≡ passed → (value entry exit : A) → exit ≡ cell_after checked value entry → exit ≡ value
figure-is checked ok value entry exit is = is ∙ ap (λ (k : Checked). cell_after k value entry) ok

-- a refusal was given: its number is that of the first check that holds, and what hangs on the checks is the refusal's side
pub refused_number : (checked : Checked) (vs : List ℤ) (r : Refusal) → refused_by r ≡ answered checked vs → number_of r ≡ decided checked number_of 0
refused_number (Ok _) vs r e = absurd (never_given r vs e)
refused_number (Err q) vs r e = ap (λ (o : Outcome). o.number) e

pub refused_side : {A : Type 0} (checked : Checked) (vs : List ℤ) (r : Refusal) → refused_by r ≡ answered checked vs → (a b : A) → decided checked (λ q. a) b ≡ a
refused_side (Ok _) vs r e a b = absurd (never_given r vs e)
refused_side (Err q) vs r e a b = refl

-- ---- an entry that checks first: x is what the checking function gave

module _ (x checked : Checked) (found : x ≡ checked) where
  pub answer-refused : (r : Refusal) → x ≡ Err r → (vs : List ℤ) → refused_by r ≡ answered checked vs
  answer-refused r told vs = rw (← found, told)

  pub cells-refused : {A : Type 0} (r : Refusal) → x ≡ Err r → (values entry : List A) → entry ≡ cells_after checked values entry
  cells-refused r told values entry = rw (← found, told)

  pub answer-passed : x ≡ passed → (vs : List ℤ) → given vs ≡ answered checked vs
  answer-passed told vs = rw (← found, told)

  pub cells-passed : {A : Type 0} → x ≡ passed → (values entry last : List A) → last ≡ overwrite values entry → last ≡ cells_after checked values entry
  cells-passed told values entry last e = rw (← found, told) e

-- ---- as a C caller gets it: the number, and each lent figure

-- refused: the number is the first check's, and a figure keeps its value
module _ (checked : Checked) (vs : List ℤ) (r : Refusal) (told : refused_by r ≡ answered checked vs) where
  pub refused_answers : {n : ℕ} → n ≡ number_of r → n ≡ number_after checked
  refused_answers h = h ∙ refused_number checked vs r told

  pub refused_keeps : {A : Type 0} (value entry : A) → entry ≡ cell_after checked value entry
  refused_keeps value entry = sym (refused_side checked vs r told entry value)

  pub some_refuses : checked ≡ passed → ⊥
  some_refuses h = never_given r vs (told ∙ ap (λ (k : Checked). answered k vs) h)

-- given: the number is 0, and a figure has its new value
module _ (checked : Checked) (vs ws : List ℤ) (told : given ws ≡ answered checked vs) where
  pub none-refuses : checked ≡ passed
  none-refuses = (given-told checked vs ws told).0

  pub given-answers : 0 ≡ number_after checked
  given-answers = rw none-refuses refl

  pub given-values : ws ≡ vs
  given-values = (given-told checked vs ws told).1

  pub given-cell : {A : Type 0} {written : A} (value entry : A) → written ≡ value → written ≡ cell_after checked value entry
  given-cell value entry h = rw none-refuses h

  -- the i-th of the values given
  pub given-signed : (i : ℕ) (entry : ℤ) → get_or ws i (pos 0) ≡ cell_after checked (get_or vs i (pos 0)) entry
  given-signed i entry = given-cell (get_or vs i (pos 0)) entry (ap (λ (xs : List ℤ). get_or xs i (pos 0)) given-values)

  pub given-count : (i : ℕ) (entry : ℕ) → nat_abs (get_or ws i (pos 0)) ≡ cell_after checked (nat_abs (get_or vs i (pos 0))) entry
  given-count i entry = given-cell (nat_abs (get_or vs i (pos 0))) entry (ap (λ (xs : List ℤ). nat_abs (get_or xs i (pos 0))) given-values)
