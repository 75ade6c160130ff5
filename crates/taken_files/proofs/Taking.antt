-- What the grid's reader told of a file, by the programs' own checks of it.
use mathlib.Core.Path.{◌≡◌, sym, ap}
use mathlib.Core.List.{List}
use Prim.Native.Nat.{ℕ}
use lib.ListN.{length}
use lib.IntN.{ℤ}
use Rattle.tariff.specs.declared.refusals.Refusal.{Refusal}
use Rattle.tariff.specs.Units.{Grid, max_constraints}
use Rattle.tariff.specs.Refusals.{first}
use Rattle.tariff.proofs.Answers.{refused_side}
use Rattle.layouts.specs.declared.forms.Form.{Form}
use Rattle.layouts.specs.GridFile.{grid_in}
use Rattle.std.specs.Prelude.{Ok, Err}
use Rattle.grid_rules.specs.ReadGrid.{read_grid_call, capped_checks, program_bytes, program_factors, grid_values, ReadsWithin, grid_read}
use Rattle.grid_rules.proofs.Taken.{within-taken, program_room}
use Rattle.taken_files.specs.Taken.{nodes_taken_of}

module _ (s : List ℕ) (ls₀ : List ℕ) (fs₀ : List ℤ) where
  pub none-taken : length ls₀ ≡ max_constraints → length fs₀ ≡ program_factors → (r : Refusal) (ls : List ℕ) (fs : List ℤ)
      → ReadsWithin program_bytes (read_grid_call s ls₀ fs₀) (Err r) ls fs → 0 ≡ nodes_taken_of s
  none-taken cells places r ls fs h =
      sym (refused_side (first (capped_checks program_bytes s)) (grid_values (read_grid_call s ls₀ fs₀)) r (rw (program_room s ls₀ fs₀ cells places) at h.values-given) 0 (grid_in s).factors.nodes)

  pub some_taken : (n k : ℕ) (f : Form) (ls : List ℕ) (fs : List ℤ) → ReadsWithin program_bytes (read_grid_call s ls₀ fs₀) (grid_read n k f) ls fs → n ≡ nodes_taken_of s
  some_taken n k f ls fs h = let t = within-taken s ls₀ fs₀ program_bytes n k f ls fs h in rw t.passes (sym (ap (λ (g : Grid). g.factors.nodes) t.grid-is))
