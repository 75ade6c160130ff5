-- One check of a list exchanged for another that finds nothing; and 21 is one refusal's number.
use mathlib.Core.Path.{◌≡◌, refl, ap, ◌∙◌}
use mathlib.Core.Bool.{false}
use mathlib.Core.List.{List, ◌∷◌, ◌++◌}
use native.Mathlib.Omega.{arith}
use Rattle.tariff.specs.declared.refusals.Refusal.{Refusal}
use Rattle.tariff.specs.declared.refusals.Refusal.TheVariants.{ShortFile, NodeCount, ConstraintCount, SpareBits, FileLength, LimitRange, FactorRange, Padding, ShortTable}
use Rattle.tariff.specs.declared.refusals.Refusal.TheVariants.{ContractCount, NodeNumber, QuantityRange, PriceCount, PriceRange, ProcessNumber, PeriodOrKind, HolderRange, NoSuchDate}
use Rattle.tariff.specs.declared.refusals.Refusal.TheVariants.{TierMark, AwardOverload, MigrationRange, LoadExceeded, HubShape, HubNodeTwice, ShareRange, NoDemand}
use Rattle.tariff.specs.Refusals.{Checked, passed}
use Rattle.std.specs.Prelude.{Ok, Err}
use Rattle.tariff.specs.Refusals.{Check, first, number_of, number_after}
use Rattle.tariff.proofs.Checks.{passed_append, passed_cons, append_passes, first_passes}

pub exchanged : (xs : List Check) (c d : Check) (ys : List Check) → d.fails ≡ false → first (xs ++ c ∷ ys) ≡ passed → first (xs ++ d ∷ ys) ≡ passed
exchanged xs c d ys e h =
    let p = passed_append xs (c ∷ ys) h in
    append_passes xs (d ∷ ys) p.0 ∙ first_passes d ys e ∙ (passed_cons c ys p.1).1

-- what another check found there
pub found_there : (xs : List Check) (c : Check) (ys : List Check) → first (xs ++ c ∷ ys) ≡ passed → c.fails ≡ false
found_there xs c ys h = (passed_cons c ys (passed_append xs (c ∷ ys) h).1).0

is-21 : (r : Refusal) → number_of r ≡ 21 → r ≡ AwardOverload
is-21 ShortFile e = absurd (omega arith)
is-21 NodeCount e = absurd (omega arith)
is-21 ConstraintCount e = absurd (omega arith)
is-21 SpareBits e = absurd (omega arith)
is-21 FileLength e = absurd (omega arith)
is-21 LimitRange e = absurd (omega arith)
is-21 FactorRange e = absurd (omega arith)
is-21 Padding e = absurd (omega arith)
is-21 ShortTable e = absurd (omega arith)
is-21 ContractCount e = absurd (omega arith)
is-21 NodeNumber e = absurd (omega arith)
is-21 QuantityRange e = absurd (omega arith)
is-21 PriceCount e = absurd (omega arith)
is-21 PriceRange e = absurd (omega arith)
is-21 ProcessNumber e = absurd (omega arith)
is-21 PeriodOrKind e = absurd (omega arith)
is-21 HolderRange e = absurd (omega arith)
is-21 NoSuchDate e = absurd (omega arith)
is-21 TierMark e = absurd (omega arith)
is-21 AwardOverload e = refl
is-21 MigrationRange e = absurd (omega arith)
is-21 LoadExceeded e = absurd (omega arith)
is-21 HubShape e = absurd (omega arith)
is-21 HubNodeTwice e = absurd (omega arith)
is-21 ShareRange e = absurd (omega arith)
is-21 NoDemand e = absurd (omega arith)

pub drew_21 : (c : Checked) → number_after c ≡ 21 → c ≡ Err AwardOverload
drew_21 (Ok _) e = absurd (omega arith)
drew_21 (Err r) e = ap Err (is-21 r e)
