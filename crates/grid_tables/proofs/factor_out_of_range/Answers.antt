-- `factor_out_of_range`: the library's search, of the fours and of what stands behind them.
use mathlib.Core.Path.{◌≡◌, refl, ap, ◌∙◌}
use mathlib.Core.Bool.{Bool, true, false, ◌||◌}
use mathlib.Core.List.{List}
use Prim.Native.Nat.{◌*◌, ◌/◌}
use borrow.Author.Rules.{rules}
use borrow.Author.Tests.{tests}
use lib.ListN.{length, drop}
use lib.IntN.{ℤ}
use Rattle.std.specs.List.{list_any}
use Rattle.std.specs.Simd.{first_chunks}
use Rattle.std.proofs.lemmas.Iterator.{YieldsList-from_slice}
use Rattle.std.proofs.lemmas.Iterator.Search.{any_from_yields_List}
use Rattle.lists.specs.Lists.{any_of}
use Rattle.tariff.specs.Checks.{factor_bad_of}
use Rattle.grid_tables.proofs.Cells.{searched}
use Rattle.grid_tables.proofs.Factors.{in_fours}
use Rattle.grid_tables.proofs.factor_out_of_range.Goals as goal

module _ (fs : List ℤ) (fours : List (List ℤ)) (bad : Bool) (are : fours ≡ first_chunks 4 (length fs / 4) fs)
    (is : bad ≡ list_any (any_of factor_bad_of) fours) where
  -- in one of the fours, or behind them
  found : (bad || any_of factor_bad_of (drop (length fs / 4 * 4) fs)) ≡ any_of factor_bad_of fs
  found = rw (is, are) (in_fours (length fs / 4) (length fs / 4 * 4) fs refl)

  early : bad ≡ true → bad ≡ any_of factor_bad_of fs
  early t = t ∙ rw t at found

  late : bad ≡ false → any_of factor_bad_of (drop (length fs / 4 * 4) fs) ≡ any_of factor_bad_of fs
  late t = rw t at found

pub returns-then-any : goal.returns-then-any
returns-then-any c =
    let fours = c.as_chunks.result.0.now in
    let is : c.any.result ≡ list_any (any_of factor_bad_of) fours =
    any_from_yields_List (any_of factor_bad_of) _ _ _ c.any.ensures.ran (YieldsList-from_slice fours cc) (λ x b q k. search (rules, tests)) in
    early c.args.factors.now fours _ c.as_chunks.ensures.front is c.if-any.true

pub returns-else-any : goal.returns-else-any
returns-else-any c =
    let fours = c.as_chunks.result.0.now in
    let rest = c.as_chunks.result.1.now in
    let is : c.any.result ≡ list_any (any_of factor_bad_of) fours =
    any_from_yields_List (any_of factor_bad_of) _ _ _ c.any.ensures.ran (YieldsList-from_slice fours cc) (λ x b q k. search (rules, tests)) in
    let behind : c.any-else-any.result ≡ list_any factor_bad_of rest =
    any_from_yields_List factor_bad_of _ _ _ c.any-else-any.ensures.ran (YieldsList-from_slice rest cc) (λ x b q k. search (rules, tests)) in
    behind ∙ searched factor_bad_of rest ∙ ap (any_of factor_bad_of) c.as_chunks.ensures.back
    ∙ late c.args.factors.now fours _ c.as_chunks.ensures.front is c.if-any.false
