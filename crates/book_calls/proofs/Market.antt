-- The market's view of a book is alike the book, and of an hour contract by contract.
use mathlib.Core.Path.{◌≡◌, sym, ap, ◌∙◌}
use mathlib.Core.List.{List, [], ◌∷◌}
use Prim.Native.Nat.{ℕ}
use lib.ListN.{length, take}
use lib.IntN.{ℤ, pos}
use Rattle.lists.specs.Lent.{Lent, before, after}
use Rattle.std.specs.Prelude.{Ok}
use Rattle.tariff.specs.Refusals.{passed}
use Rattle.tariff.specs.Refusals.{first, answered, cells_after, number_after}
use Rattle.tariff.specs.Checks.{short_table}
use Rattle.tariff.specs.Settlement.{whole_cents, parts}
use Rattle.tariff.proofs.Answers.{none-refused, figure-is}
use Rattle.tariff.proofs.Checks.{passed_append}
use Rattle.layouts.specs.BookFile.{book_bytes_of, contract_count_in, book_form_in}
use Rattle.layouts.proofs.Writing.{writes_told, size-told, written-by}
use Rattle.book_rules.specs.BookChecks.{own_checks}
use Rattle.book_rules.proofs.Accepted.{own_parts}
use Rattle.view_rules.specs.Views.{market_file}
use Rattle.view_rules.specs.MarketView.{market_view_call, market_view_checks, market_view_checked, WritesMarketView}
use Rattle.view_rules.proofs.Theorems.{market_is_a_book}
use Rattle.view_figures.proofs.Theorems.{market_figures}
use Rattle.hour_rules.specs.SettleHour.{HourCall, hour_call, hour_total, settle_checked, hour_factors}
use Rattle.hour_rules.specs.SettleHour.{hour_prices, hour_period, cents_cells, priced_cells, sum_given, exact_given}
use Rattle.book_calls.specs.Alike.{AnsweredAlike}
use Rattle.book_calls.specs.Market.{EqualRoom, SamePlaces, HourAlike, MarketCalls}
use Rattle.book_calls.proofs.Alike.{settle_around, answered-alike}

module _ (n : ℕ) (s : List ℕ) (ok : first (own_checks n s) ≡ passed) where
  abbrev t : List ℕ
  t = market_file s

  alike : AnsweredAlike n t s
  unfolding hour_total
  alike =
      let same = market_figures n s ok in
      answered-alike n t s
      (record { accepted = (market_is_a_book n s ok).accepted; accepted-too = ok; flows-same = same.same_flows; totals-same = same.same_total })

  module _ (k period : ℕ) (factors : List ℤ) (prices : List ℕ) where
    abbrev on : List ℕ → HourCall
    on = hour_call n k period factors prices

    same_sum : sum_given (on t) ≡ sum_given (on s)
    same_sum = (market_figures n s ok).same_sum (hour_factors (on s)) (hour_prices (on s)) (hour_period (on s))

    same_exact : exact_given (on t) ≡ exact_given (on s)
    same_exact = (market_figures n s ok).same_total (hour_factors (on s)) (hour_prices (on s)) (hour_period (on s))

    same_cents_cells : cents_cells (on t) ≡ cents_cells (on s)
    same_cents_cells = (market_figures n s ok).same_cents (hour_factors (on s)) (hour_prices (on s)) (hour_period (on s))

    same_priced_cells : priced_cells (on t) ≡ priced_cells (on s)
    same_priced_cells = (market_figures n s ok).same_sets (hour_factors (on s)) (hour_prices (on s)) (hour_period (on s))

    module _ (cents cents₂ : Lent (List ℤ)) (sets sets₂ : Lent (List ℕ)) (room : EqualRoom cents sets cents₂ sets₂) where
      same_checks : settle_checked (on t) cents sets ≡ settle_checked (on s) cents₂ sets₂
      same_checks =
          let count = sym (market_is_a_book n s ok).differs.same_count in
          settle_around n k period factors prices t s cents cents₂ sets sets₂ (own_parts n t (market_is_a_book n s ok).accepted).1 (own_parts n s ok).1
          (λ i. first (short_table (room.0 i) (count i) ∷ short_table (room.1 i) (count i) ∷ []))

      same_places : after cents ≡ cells_after (settle_checked (on t) cents sets) (cents_cells (on t)) (before cents)
          → after cents₂ ≡ cells_after (settle_checked (on s) cents₂ sets₂) (cents_cells (on s)) (before cents₂)
          → after sets ≡ cells_after (settle_checked (on t) cents sets) (priced_cells (on t)) (before sets)
          → after sets₂ ≡ cells_after (settle_checked (on s) cents₂ sets₂) (priced_cells (on s)) (before sets₂) → SamePlaces cents sets cents₂ sets₂
      same_places a b c d =
          record {
            same_cents = λ e. a ∙ (λ i. cells_after (same_checks i) (same_cents_cells i) (e i)) ∙ sym b;
            same_sets = λ e. c ∙ (λ i. cells_after (same_checks i) (same_priced_cells i) (e i)) ∙ sym d;
          }

  hours : HourAlike n t s
  hours =
      record {
        hour_alike = λ k period factors prices a b cents cents₂ sets sets₂ p q room. (
          p.totals
              ∙ (λ i. answered (same_checks k period factors prices cents cents₂ sets sets₂ room i)
              (same_sum k period factors prices i ∷ whole_cents (same_exact k period factors prices i) ∷ pos (parts (same_exact k period factors prices i)) ∷ []))
              ∙ sym q.totals,
          same_places k period factors prices cents cents₂ sets sets₂ room p.cents-settled q.cents-settled p.sets-handed_on q.sets-handed_on,
        );
        crr_hour_alike = λ k period factors prices a b c d p q room.
            let checks = same_checks k period factors prices c.cents d.cents c.sets d.sets room in (
              p.refusal-number ∙ ap number_after checks ∙ sym q.refusal-number,
              same_places k period factors prices c.cents d.cents c.sets d.sets room p.cents-settled q.cents-settled p.sets-handed_on
                  q.sets-handed_on,
              λ z.
                  let ok₁ = none-refused _ (sym z ∙ p.refusal-number) in
                  let ok₂ = sym checks ∙ ok₁ in
                  record {
                    same_sum = figure-is _ ok₁ _ _ _ p.sum-given ∙ same_sum k period factors prices ∙ sym (figure-is _ ok₂ _ _ _ q.sum-given);
                    same_whole =
                        figure-is _ ok₁ _ _ _ p.whole-given ∙ ap whole_cents (same_exact k period factors prices) ∙ sym (figure-is _ ok₂ _ _ _ q.whole-given);
                    same_parts =
                        figure-is _ ok₁ _ _ _ p.parts-given ∙ ap parts (same_exact k period factors prices) ∙ sym (figure-is _ ok₂ _ _ _ q.parts-given);
                  },
            );
      }

written : (n : ℕ) (s e : List ℕ) (m : ℕ) (x : List ℕ) → WritesMarketView (market_view_call n s e) (Ok m) x
    → AnsweredAlike n (take m x) s × HourAlike n (take m x) s × (m ≡ length s)
unfolding market_view_checks
written n s e m x w =
    let told = writes_told (market_view_checked (market_view_call n s e)) (market_file s) e m x w in
    let ok = (passed_append (own_checks n s) (short_table (length e) (book_bytes_of (book_form_in s) (contract_count_in s)) ∷ []) told.0).0 in
    (rw told.1 (alike n s ok), rw told.1 (hours n s ok), size-told _ (market_file s) e m x w ∙ (market_is_a_book n s ok).same_size)

pub market_calls : MarketCalls
market_calls =
    record {
      market_answered_alike = written;
      crr_market_answered_alike = λ n s e x u w.
          written n s e (after u) x (written-by (market_view_checked (market_view_call n s e)) (market_file s) e (before u) x (after u) w);
    }
