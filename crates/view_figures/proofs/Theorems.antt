-- THE THEOREM of the market's figures (document 02, paper 10). The proof is in Figures.antt and in view_rules.
use mathlib.Core.Path.{◌≡◌, sym, subst}
use mathlib.Core.List.{List}
use Prim.Native.Nat.{ℕ}
use Rattle.tariff.specs.declared.contracts.Contract.{Contract}
use Rattle.tariff.specs.Refusals.{passed}
use Rattle.tariff.specs.Refusals.{first}
use Rattle.layouts.specs.BookFile.{book_in}
use Rattle.book_rules.specs.BookChecks.{own_checks}
use Rattle.view_rules.specs.Views.{market_file}
use Rattle.view_rules.proofs.Theorems.{market_is_a_book}
use Rattle.view_figures.specs.Theorems.{SameMarketFigures}
use Rattle.view_figures.proofs.Figures.{figures-same}

-- every flow, verdict, amount and total of the market's view of an accepted book is the book's
pub market_figures : (n : ℕ) (s : List ℕ) → first (own_checks n s) ≡ passed → SameMarketFigures (book_in (market_file s)) (book_in s)
market_figures n s ok = subst (λ (cs : List Contract). SameMarketFigures cs (book_in s)) (sym (market_is_a_book n s ok).contracts) (figures-same (book_in s))
