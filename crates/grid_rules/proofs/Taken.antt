-- A grid as its reader left it in lent tables: they hold the file's grid and are good; and the program's tables are long enough for every file that it takes.
use mathlib.Core.Path.{◌≡◌, ◌∙◌}
use mathlib.Core.List.{List, [], ◌∷◌, ◌++◌}
use Prim.Native.Nat.{ℕ, ◌*◌, ◌≤◌}
use native.Mathlib.Omega.{arith}
use borrow.Author.Tests.{ltb-false, le-ltb}
use lib.ListN.{length, take}
use lib.IntN.{ℤ, pos}
use lib.Seq.{take_all}
use Rattle.lists.specs.Lent.{overwrite}
use Rattle.lists.proofs.Fronts.{front-is, front-room}
use Rattle.std.specs.Prelude.{Ok}
use Rattle.tariff.specs.Refusals.{passed}
use Rattle.tariff.specs.Units.{grid_of, max_constraints, max_limit}
use Rattle.tariff.specs.Refusals.{Check, first}
use Rattle.tariff.specs.Checks.{short_table}
use Rattle.tariff.proofs.Checks.{passed_cons, passed_append, first-append, first_passes, last-passes, first-room}
use Rattle.tariff.proofs.Answers.{given-told}
use Rattle.layouts.specs.declared.forms.Form.{Form}
use Rattle.layouts.specs.Forms.{form_number}
use Rattle.layouts.specs.GridFile.{grid_form_in, header_in, nodes_in, constraints_in_of, limits_in, factors_in, grid_in}
use Rattle.layouts.proofs.GridFile.{length-limits, length-factors}
use Rattle.grid_tables.specs.Inner.{GoodFactors, GoodCells}
use Rattle.grid_tables.proofs.Cells.{good-cells}
use Rattle.grid_tables.proofs.Factors.{factors-in_range}
use Rattle.grid_rules.specs.ReadGrid.{read_grid_call, grid_size_checks, grid_figure_checks, grid_file_checks, capped_checks, read_grid_checks, within_checks, grid_values}
use Rattle.grid_rules.specs.ReadGrid.{ReadsBy, ReadsGrid, ReadsWithin, program_bytes, program_factors, grid_read}
use Rattle.grid_rules.proofs.Passing.{sized}
use Rattle.grid_rules.proofs.BothForms.{fits-the_program}

-- ---- read

-- where a reader's checks begin with those of the file's own that are named
pub record GridTaken (own : List Check) (file : List ℕ) (n k : ℕ) (limits : List ℕ) (factors : List ℤ) : Type 0 where
  pub passes : first own ≡ passed
  pub grid-is : grid_in file ≡ grid_of n k limits factors
  pub good-limits : GoodCells max_limit k limits
  pub good-factors : GoodFactors n k factors

-- a file that is not too long passes by its own checks
pub capped-own : (most : ℕ) (s : List ℕ) → first (capped_checks most s) ≡ passed → first (grid_file_checks s) ≡ passed
unfolding grid_file_checks capped_checks
capped-own most s e =
    let both = passed_append (grid_size_checks s) _ e in
    first-append (grid_size_checks s) (grid_figure_checks s) ∙ rw both.0 (passed_cons _ _ both.1).1

module _ (s : List ℕ) (ls₀ : List ℕ) (fs₀ : List ℤ) where
  abbrev N : ℕ
  N = nodes_in s

  abbrev K : ℕ
  K = constraints_in_of s

  front-limits : take K (overwrite (limits_in s) ls₀) ≡ limits_in s
  front-limits = front-is (limits_in s) ls₀ K (length-limits s (header_in s) N K)

  front-factors : take (N * K) (overwrite (factors_in s) fs₀) ≡ factors_in s
  front-factors = front-is (factors_in s) fs₀ (N * K) (length-factors s (header_in s) N K)

  taken_by : (own : List Check) → first own ≡ passed → first (grid_file_checks s) ≡ passed → GridTaken own s N K (overwrite (limits_in s) ls₀) (overwrite (factors_in s) fs₀)
  unfolding grid_file_checks grid_figure_checks
  taken_by own p e =
      let both = passed_append (grid_size_checks s) _ e in
      let good = (sized s both.0).counted.good in
      let six = passed_cons _ _ both.1 in
      let seven = passed_cons _ _ six.1 in
      let long : N * K ≤ length (overwrite (factors_in s) fs₀) = front-room (factors_in s) fs₀ (N * K) (length-factors s (header_in s) N K) in
      record {
        passes = p;
        grid-is = rw (
          front-limits,
          front-factors,
          take_all K (limits_in s) (omega (arith, length-limits s (header_in s) N K)),
          take_all (N * K) (factors_in s) (omega (arith, length-factors s (header_in s) N K)),
        );
        good-limits = good-cells max_limit K (overwrite (limits_in s) ls₀) (front-room (limits_in s) ls₀ K (length-limits s (header_in s) N K)) (rw front-limits six.0);
        good-factors = record {
          nodes-few = good.nodes-few;
          few = good.few;
          long = long;
          in_range = factors-in_range N K (overwrite (factors_in s) fs₀) long (rw front-factors seven.0);
        };
      }

  -- as the reader promises, by its checks: the file's own and then those of the tables
  reads_taken : (own rooms : List Check) → (first own ≡ passed → first (grid_file_checks s) ≡ passed)
      → (n k : ℕ) (f : Form) (ls : List ℕ) (fs : List ℤ) → ReadsBy (first (own ++ rooms)) (read_grid_call s ls₀ fs₀) (grid_read n k f) ls fs → GridTaken own s n k ls fs
  reads_taken own rooms step n k f ls fs h =
      let told = given-told (first (own ++ rooms)) (grid_values (read_grid_call s ls₀ fs₀)) (pos n ∷ pos k ∷ pos (form_number f) ∷ []) h.values-given in
      let same : pos n ∷ pos k ∷ pos (form_number f) ∷ [] ≡ pos N ∷ pos K ∷ pos (form_number (grid_form_in s)) ∷ [] = told.1 in
      let nodes : n ≡ N = cc in
      let constraints : k ≡ K = cc in
      let limits : ls ≡ overwrite (limits_in s) ls₀ = rw told.0 at h.limits-read in
      let factors : fs ≡ overwrite (factors_in s) fs₀ = rw told.0 at h.factors-read in
      let p = (passed_append own rooms told.0).0 in
      rw (nodes, constraints, limits, factors) (taken_by own p (step p))

  pub grid-taken : (n k : ℕ) (f : Form) (ls : List ℕ) (fs : List ℤ) → ReadsGrid (read_grid_call s ls₀ fs₀) (grid_read n k f) ls fs → GridTaken (grid_file_checks s) s n k ls fs
  unfolding read_grid_checks
  grid-taken = reads_taken (grid_file_checks s) _ (λ e. e)

  pub within-taken : (most n k : ℕ) (f : Form) (ls : List ℕ) (fs : List ℤ) → ReadsWithin most (read_grid_call s ls₀ fs₀) (grid_read n k f) ls fs → GridTaken (capped_checks most s) s n k ls fs
  unfolding within_checks
  within-taken most = reads_taken (capped_checks most s) _ (capped-own most s)

-- ---- refused

-- the program's tables are long enough for every file that it takes
pub program_room : (s : List ℕ) (ls : List ℕ) (fs : List ℤ) → length ls ≡ max_constraints → length fs ≡ program_factors
    → first (within_checks (read_grid_call s ls fs) program_bytes) ≡ first (capped_checks program_bytes s)
unfolding capped_checks within_checks
program_room s ls fs cells places = first-room (capped_checks program_bytes s) _ rooms
  where
    rooms : first (capped_checks program_bytes s) ≡ passed
        → first (short_table (length ls) (constraints_in_of s) ∷ short_table (length fs) (nodes_in s * constraints_in_of s) ∷ []) ≡ passed
    rooms e =
        let both = passed_append (grid_size_checks s) _ e in
        let short : length s ≤ program_bytes = ltb-false program_bytes (length s) (passed_cons _ _ both.1).0 in
        first_passes _ _ (le-ltb (length ls) (constraints_in_of s) (omega (arith, (sized s both.0).counted.good.few)))
        ∙ last-passes _ (le-ltb (length fs) (nodes_in s * constraints_in_of s) (omega (arith, fits-the_program s both.0 short)))
