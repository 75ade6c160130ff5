-- Document 02, paper 10, and include/crr.h, "its flows, verdicts and amounts are the book's": over what `write_market_view`, the entries that take a book, and
-- their C functions promise. Statements only.
use Rattle.std.specs.Prelude.{◌≡◌, List, ℕ, length, take, ℤ, Ok}
use Rattle.lists.specs.Lent.{Lent, before, after}
use Rattle.view_rules.specs.MarketView.{market_view_call, WritesMarketView, WritesMarketViewForC}
use Rattle.hour_rules.specs.SettleHour.{SettleAnswer}
use Rattle.hour_rules.specs.SettleHour.{hour_call, settle_outcome, SettlesHour, SettlesForC}
use Rattle.order_calls.specs.ForC.{HourFigures, SameTotalsGiven}
use Rattle.book_calls.specs.Alike.{AnsweredAlike}

-- places for cents and sets of equal length; and the same cells there
abbrev pub EqualRoom : Lent (List ℤ) → Lent (List ℕ) → Lent (List ℤ) → Lent (List ℕ) → Type 0
EqualRoom cents sets cents₂ sets₂ = (length (before cents) ≡ length (before cents₂)) × (length (before sets) ≡ length (before sets₂))

pub record SamePlaces (cents : Lent (List ℤ)) (sets : Lent (List ℕ)) (cents₂ : Lent (List ℤ)) (sets₂ : Lent (List ℕ)) : Type 0 where
  pub same_cents : before cents ≡ before cents₂ → after cents ≡ after cents₂
  pub same_sets : before sets ≡ before sets₂ → after sets ≡ after sets₂

-- on the books s and t an hour is settled alike: the same refusal, or the same sum and exact total, and cents and sets contract by contract
pub record HourAlike (n : ℕ) (s t : List ℕ) : Type 0 where
  pub hour_alike : (k period : ℕ) (factors : List ℤ) (prices : List ℕ) (a b : SettleAnswer) (cents cents₂ : Lent (List ℤ)) (sets sets₂ : Lent (List ℕ))
      → SettlesHour (hour_call n k period factors prices s) a cents sets → SettlesHour (hour_call n k period factors prices t) b cents₂ sets₂
      → EqualRoom cents sets cents₂ sets₂ → (settle_outcome a ≡ settle_outcome b) × SamePlaces cents sets cents₂ sets₂
  pub crr_hour_alike : (k period : ℕ) (factors : List ℤ) (prices : List ℕ) (a b : ℕ) (c d : HourFigures)
      → SettlesForC (hour_call n k period factors prices s) a c.cents c.sets c.sum c.whole c.part
      → SettlesForC (hour_call n k period factors prices t) b d.cents d.sets d.sum d.whole d.part
      → EqualRoom c.cents c.sets d.cents d.sets
      → (a ≡ b) × SamePlaces c.cents c.sets d.cents d.sets × (a ≡ 0 → SameTotalsGiven c d)

-- THE STATEMENTS
pub record MarketCalls : Type 0 where
  pub market_answered_alike : (n : ℕ) (s e : List ℕ) (m : ℕ) (x : List ℕ) → WritesMarketView (market_view_call n s e) (Ok m) x
      → AnsweredAlike n (take m x) s × HourAlike n (take m x) s × (m ≡ length s)
  pub crr_market_answered_alike : (n : ℕ) (s e x : List ℕ) (u : Lent ℕ) → WritesMarketViewForC (market_view_call n s e) 0 x u
      → AnsweredAlike n (take (after u) x) s × HourAlike n (take (after u) x) s × (after u ≡ length s)
