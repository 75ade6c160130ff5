-- `hour_period`: the date, the hour, then the period.
use mathlib.Core.Path.{refl, sym, ap, ◌∙◌}
use mathlib.Core.List.{[], ◌∷◌}
use Prim.Native.Nat.{ℕ}
use lib.IntN.{pos}
use mathlib.Core.Bool.{not}
use Rattle.tariff.specs.Refusals.{given}
use Rattle.tariff.proofs.Answers.{answer-refused, answer-passed}
use Rattle.date_period.proofs.Checking.{date_refused, hour_refused, both-passed}
use Rattle.date_period.proofs.hour_period.Goals as goal

pub returns-then-not-exists : goal.returns-then-not-exists
returns-then-not-exists c =
    let s = c in
    let a = s.args in
    record { period-given = answer-refused _ _ (date_refused a.date a.hour_ending s.exists.result s.exists.ensures (ap not c.if-not-exists.true)) _ refl _ }

pub returns-then-not-is_within : goal.returns-then-not-is_within
returns-then-not-is_within c =
    let w = c in
    let s = w in
    let a = s.args in
    let found = w.is_within in
    let refused = hour_refused a.date a.hour_ending s.exists.result s.exists.ensures (ap not w.if-not-exists.false) found.result found.ensures (ap not c.if-not-is_within.true) in
    record { period-given = answer-refused _ _ refused _ refl _ }

pub period_at-requires : goal.period_at-requires
period_at-requires c = let i = c in sym i.exists.ensures ∙ i.if-not-exists.false

pub returns : goal.returns
returns c =
    let w = c in
    let s = w in
    let a = s.args in
    let found = w.is_within in
    let there = ap not w.if-not-exists.false in
    let passed = both-passed a.date a.hour_ending s.exists.result s.exists.ensures there found.result found.ensures (ap not c.if-not-is_within.false) in
    record { period-given = ap (λ (n : ℕ). given (pos n ∷ [])) c.period_at.ensures ∙ answer-passed _ _ passed refl _ }
