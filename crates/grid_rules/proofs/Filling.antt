-- What a writer has written of a grid at the end: its file.
use mathlib.Core.Path.{◌≡◌}
use mathlib.Core.List.{List, [], ◌∷◌, ◌++◌, map, append_assoc}
use Prim.Native.Nat.{ℕ, ◌*◌, ◌≤◌}
use lib.ListN.{length, take}
use lib.IntN.{ℤ}
use Rattle.lists.specs.Lent.{overwrite}
use Rattle.bits.specs.Fields.{bits}
use Rattle.bits.specs.declared.BitWriter.{BitWriter}
use Rattle.bits.proofs.Numbers.{Below}
use Rattle.tariff.specs.Units.{grid_of}
use Rattle.layouts.specs.declared.forms.Form.{Form}
use Rattle.layouts.specs.Files.{pad_for}
use Rattle.layouts.specs.GridFile.{limit_width, factor_width, grid_bits, grid_bytes, grid_header, grid_body, grid_fields, grid_file}
use Rattle.layouts.proofs.GridFile.{total-grid}
use Rattle.runs.specs.Inner.{WrittenFields}
use Rattle.runs.proofs.Written.{written-end}
use Rattle.grid_rules.specs.Inner.{Writable, coded}
use Rattle.grid_rules.proofs.Passing.{written-fits}

-- the header, the limits, the factors and the padding, one after the other
module _ (f : Form) (n k : ℕ) (limits : List ℕ) (factors : List ℤ) (first : List ℕ) (w : Writable f n k limits factors first) (buf : List ℕ) (p : BitWriter) where
  pub grid-filled : (m d : ℕ) → m ≡ n * k → d ≡ pad_for (grid_bits f n k)
      → WrittenFields (((grid_header f n k ++ map (bits limit_width) (take k limits)) ++ map (bits factor_width) (coded m factors)) ++ bits d 0 ∷ []) first buf p
      → p.held ≤ 7 → Below 8 buf → length buf ≡ length first → buf ≡ overwrite (grid_file f (grid_of n k limits factors)) first
  unfolding grid_file grid_fields grid_body
  grid-filled m d many pad h few b e =
      written-end _ first buf p (grid_bytes f n k) (rw (many, pad, append_assoc (grid_header f n k) (map (bits limit_width) (take k limits)) (map (bits factor_width) (coded (n * k) factors))) at h) few b
      (total-grid f n k (take k limits) (take (n * k) factors) (written-fits f n k limits factors first w)) (rw e w.room)
