-- The awards held, written as a book in either form: its checks accept it, and the test's figures on it are those of a pass.
use mathlib.Core.Path.{◌≡◌, ap, ◌∙◌}
use mathlib.Core.List.{List, [], ◌∷◌}
use Prim.Native.Nat.{ℕ, ◌≤◌}
use lib.IntN.{ℤ}
use Rattle.lists.specs.Lists.{Each}
use Rattle.tariff.specs.declared.contracts.Contract.{Contract}
use Rattle.std.specs.Prelude.{Ok}
use Rattle.tariff.specs.Refusals.{passed}
use Rattle.tariff.specs.Units.{grid_of, max_nodes}
use Rattle.tariff.specs.ContractRules.{period_of, of_period}
use Rattle.tariff.specs.Processes.{process_of}
use Rattle.tariff.specs.Refusals.{first}
use Rattle.tariff.proofs.Checks.{append_passes}
use Rattle.layouts.specs.declared.forms.Form.{Form}
use Rattle.layouts.specs.declared.forms.Form.TheVariants.{Wide}
use Rattle.layouts.specs.Forms.{end_width}
use Rattle.layouts.specs.BookFile.{book_file}
use Rattle.layouts.specs.BookTable.{ContractFits}
use Rattle.grid_tables.specs.TableChecks.{grid_table_checks}
use Rattle.grid_tables.proofs.Passing.{grid-tables}
use Rattle.book_rules.specs.BookChecks.{book_checks}
use Rattle.book_rules.proofs.Accepted.{contract-in_range}
use Rattle.book_rules.proofs.Making.{Made, in_range_fits, book-made}
use Rattle.test_rules.specs.TestBook.{TestCall, test_call, test_checks, test_values, tested_grid, tested_process}
use Rattle.tier_rules.specs.Tiers.{Tiers, Award, Reached}
use Rattle.tier_rules.specs.Theorems.{EndsFit, HeldBook}
use Rattle.tier_rules.proofs.States.{reached-values}

each-with : {A : Type 0} {P Q R : A → Type 0} (f : (x : A) → P x → Q x → R x) (xs : List A) → Each P xs → Each Q xs → Each R xs
each-with f [] p q = tt
each-with f (x ∷ xs) p q = (f x p.0 q.0, each-with f xs p.1 q.1)

-- in a wide book every end of an award fits
pub wide-ends : (n : ℕ) (cs : List Contract) → Each (Award n) cs → Each (EndsFit Wide n) cs
wide-ends n [] a = tt
wide-ends n (c ∷ cs) a =
    let i = contract-in_range n c a.0.checks_pass in
    (record { source_fits = i.source-below; sink-fits = i.sink-below }, wide-ends n cs a.1)

module _ (n k process period : ℕ) (limits : List ℕ) (factors : List ℤ) (tables : first (grid_table_checks n k process period limits factors) ≡ passed) (s : Tiers)
    (r : Reached (grid_of n k limits factors) (process_of process) (period_of period) s) (f : Form) (ends : Each (EndsFit f n) s.awards) where
  nodes-few : n ≤ max_nodes
  nodes-few = (grid-tables n k process period limits factors tables).good-factors.nodes-few

  fits : (c : Contract) → Award n c → EndsFit f n c → ContractFits (end_width f) c
  fits c a e =
      let i = contract-in_range n c a.checks_pass in
      in_range_fits f n c nodes-few (record { source-below = e.source_fits; sink-below = e.sink-fits; quantity-sized = i.quantity-sized }) a.holder-few

  made : Made f n s.awards
  made =
      book-made f n s.awards r.few (each-with fits s.awards r.each ends)
      (each-with (λ (c : Contract) (a : Award n c) (e : EndsFit f n c). a.checks_pass) s.awards r.each ends)

  abbrev call : TestCall
  call = test_call n k process period limits factors (book_file f s.awards)

  pub held_book : HeldBook call s.awards
  unfolding test_checks
  held_book =
      record {
        accepted = append_passes (grid_table_checks n k process period limits factors) (book_checks n (book_file f s.awards)) tables ∙ made.accepted;
        reads_back = made.contracts;
        passes =
            ap (λ (cs : List Contract). test_values (tested_grid call) (tested_process call) (of_period (period_of period) cs)) made.contracts
            ∙ reached-values (grid_of n k limits factors) (process_of process) (period_of period) s r;
      }
