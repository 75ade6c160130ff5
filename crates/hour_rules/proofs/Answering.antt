-- What settling answers, by what its checks found and what was settled.
use mathlib.Core.Path.{◌≡◌, ap, ◌∙◌, subst}
use mathlib.Core.List.{List}
use Prim.Native.Nat.{ℕ}
use lib.IntN.{ℤ}
use Rattle.lists.specs.Lent.{Lent, before, after}
use Rattle.tariff.specs.declared.contracts.Period.{Period}
use Rattle.tariff.specs.declared.refusals.Refusal.{Refusal}
use Rattle.tariff.specs.Refusals.{Checked, passed}
use Rattle.std.specs.Prelude.{Ok, Err}
use Rattle.tariff.specs.Refusals.{given}
use Rattle.tariff.proofs.Answers.{answer-refused, cells-refused, answer-passed, cells-passed}
use Rattle.layouts.specs.BookFile.{book_in}
use Rattle.hour_rules.specs.declared.Totals.{Totals}
use Rattle.hour_rules.specs.SettleHour.{HourCall, settle_checked, hour_factors, hour_prices, hour_period, cents_cells, priced_cells, SettlesHour}
use Rattle.hour_rules.specs.Inner.{Settles}
use Rattle.hour_rules.proofs.HourSums.{values-are, exact-of}

module _ (q : HourCall) (cents : Lent (List ℤ)) (sets : Lent (List ℕ)) (x : Checked) (found : x ≡ settle_checked q cents sets) where
  pub refusal-answers : (r : Refusal) → x ≡ Err r → after cents ≡ before cents → after sets ≡ before sets → SettlesHour q (Err r) cents sets
  refusal-answers r told cents-kept sets-kept =
      record {
        totals = answer-refused x _ found r told _;
        cents-settled = cents-kept ∙ cells-refused x _ found r told (cents_cells q) (before cents);
        sets-handed_on = sets-kept ∙ cells-refused x _ found r told (priced_cells q) (before sets);
        exact = λ e sum whole part z. cc;
      }

  -- t is the period that the number says
  module _ (told : x ≡ passed) (t : Period) (hour : t ≡ hour_period q) (r : Totals)
      (by : Settles q.nodes q.constraints t q.factors q.prices q.book (before cents) (after cents) (before sets) (after sets) r) where
    pub totals-answer : SettlesHour q (Ok r) cents sets
    totals-answer =
        let e = subst (λ (u : Period). Settles q.nodes q.constraints u q.factors q.prices q.book
        (before cents) (after cents) (before sets) (after sets) r) hour by in
        record {
          totals =
              ap given (values-are (hour_factors q) (hour_prices q) (hour_period q) (book_in q.book) r e.bounded.parts-small e.sum e.exact)
              ∙ answer-passed x _ found told _;
          cents-settled = cells-passed x _ found told (cents_cells q) (before cents) _ e.cells;
          sets-handed_on = cells-passed x _ found told (priced_cells q) (before sets) _ e.priced;
          exact = λ p sum whole part z. exact-of r sum whole part _ e.exact z;
        }
