-- THE THEOREM of document 02, paper 9, on settling: "The same test and prices hold at both widths". For contracts that fit both forms.
use mathlib.Core.Path.{◌≡◌, sym, ap, ◌∙◌}
use mathlib.Core.List.{List, [], ◌∷◌, map}
use Prim.Native.Nat.{ℕ, ◌*◌, ◌≤◌}
use lib.ListN.{length, take}
use lib.IntN.{ℤ, pos}
use Rattle.lists.specs.Lists.{Each}
use Rattle.lists.specs.Lent.{Lent, before}
use Rattle.tariff.specs.declared.contracts.Contract.{Contract}
use Rattle.std.specs.Prelude.{Err}
use Rattle.tariff.specs.Units.{max_contracts}
use Rattle.tariff.specs.Refusals.{Check, first, decided, answered, cells_after}
use Rattle.tariff.specs.Checks.{node_count, constraint_count, period_number, short_table, factor_range, price_range}
use Rattle.tariff.specs.Settlement.{whole_cents, parts}
use Rattle.tariff.proofs.Checks.{first_under, first-append}
use Rattle.layouts.specs.declared.forms.Form.{Form}
use Rattle.layouts.specs.declared.forms.Form.TheVariants.{Narrow, Wide}
use Rattle.layouts.specs.BookFile.{book_file, contract_count_in, book_in}
use Rattle.layouts.specs.BookTable.{ContractFits}
use Rattle.layouts.proofs.BookFile.{length-book_in}
use Rattle.book_rules.specs.BookChecks.{book_checks}
use Rattle.book_rules.proofs.Theorems.{both-forms_alike, both-forms_checked_alike}
use Rattle.hour_rules.specs.SettleHour.{SettleAnswer}
use Rattle.hour_rules.specs.SettleHour.{HourCall, settle_checks, settle_checked, hour_factors, hour_prices, hour_period, cents_of, priced_of, cents_sum, hour_total, SettlesHour}
use Rattle.hour_rules.specs.Theorems.{SettledAlike, hour_for}

module _ (n k period : ℕ) (factors : List ℤ) (prices : List ℕ) (cs : List Contract) (few : length cs ≤ max_contracts) (fits : Each (ContractFits 8) cs) where
  abbrev hour : Form → HourCall
  hour = hour_for n k period factors prices cs

  contracts-alike : book_in (book_file Narrow cs) ≡ book_in (book_file Wide cs)
  contracts-alike = (both-forms_alike cs few fits).0 ∙ sym (both-forms_alike cs few fits).1

  count-alike : contract_count_in (book_file Narrow cs) ≡ contract_count_in (book_file Wide cs)
  count-alike = sym (length-book_in (book_file Narrow cs)) ∙ ap length contracts-alike ∙ length-book_in (book_file Wide cs)

  -- the checks up to the book's own
  abbrev front : Form → List Check
  front f =
      node_count n ∷ constraint_count k ∷ period_number period ∷ short_table (length factors) (n * k) ∷ short_table (length prices) k
      ∷ factor_range (take (n * k) factors) ∷ price_range (take k prices) ∷ book_checks n (book_file f cs)

  front-alike : first (front Narrow) ≡ first (front Wide)
  front-alike =
      first_under _ _ _ (first_under _ _ _ (first_under _ _ _ (first_under _ _ _ (first_under _ _ _ (first_under _ _ _ (first_under _ _ _ (both-forms_checked_alike cs few fits n)))))))

  checked_alike : (x y : ℕ) → first (settle_checks (hour Narrow) x y) ≡ first (settle_checks (hour Wide) x y)
  unfolding settle_checks
  checked_alike x y =
      first-append (front Narrow) (room (contract_count_in (book_file Narrow cs)))
      ∙ (λ t. decided (front-alike t) Err (first (room (count-alike t))))
      ∙ sym (first-append (front Wide) (room (contract_count_in (book_file Wide cs))))
    where
      room : ℕ → List Check
      room m = short_table x m ∷ short_table y m ∷ []

  -- whatever settling answers on the two, into places that held the same, all that it gives is the same
  pub settled_alike : (a b : SettleAnswer) (cents cents₂ : Lent (List ℤ)) (sets sets₂ : Lent (List ℕ)) → before cents ≡ before cents₂ → before sets ≡ before sets₂
      → SettlesHour (hour_for n k period factors prices cs Narrow) a cents sets → SettlesHour (hour_for n k period factors prices cs Wide) b cents₂ sets₂ → SettledAlike a b cents cents₂ sets sets₂
  settled_alike a b cents cents₂ sets sets₂ same_cents same_sets narrow wide =
      let q = hour Narrow in
      let checked : settle_checked q cents sets ≡ settle_checked (hour Wide) cents₂ sets₂
      = checked_alike (length (before cents)) (length (before sets)) ∙ (λ t. first (settle_checks (hour Wide) (length (same_cents t)) (length (same_sets t)))) in
      record {
        outcome = narrow.totals ∙ (λ t. answered (checked t) (figures (contracts-alike t))) ∙ sym wide.totals;
        cents-alike =
            narrow.cents-settled
            ∙ (λ t. cells_after (checked t) (map (cents_of (hour_factors q) (hour_prices q) (hour_period q)) (contracts-alike t)) (same_cents t)) ∙ sym wide.cents-settled;
        sets-alike =
            narrow.sets-handed_on
            ∙ (λ t. cells_after (checked t) (map (priced_of (hour_factors q) (hour_prices q) (hour_period q)) (contracts-alike t)) (same_sets t)) ∙ sym wide.sets-handed_on;
      }
    where
      figures : List Contract → List ℤ
      figures ds =
          let q = hour Narrow in
          let total = hour_total (hour_factors q) (hour_prices q) (hour_period q) ds in
          cents_sum (hour_factors q) (hour_prices q) (hour_period q) ds ∷ whole_cents total ∷ pos (parts total) ∷ []
