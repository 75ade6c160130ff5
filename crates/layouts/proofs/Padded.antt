-- A file of fields and the zero bits that fill its last byte, and the runs of fields in it: what the grid's file and the prices' share.
use mathlib.Core.Path.{◌≡◌}
use mathlib.Core.Logic.{◌↔◌}
use mathlib.Core.List.{List, [], ◌∷◌, ◌++◌, map}
use Prim.Native.Nat.{ℕ, ◌+◌, ◌*◌, ◌≤◌}
use native.Mathlib.Omega.{arith}
use lib.ListN.{length}
use lib.Pow.{pow_pos}
use Rattle.bits.specs.Bits.{field, fields}
use Rattle.bits.specs.Fields.{Field, bits, total_width, file_of}
use Rattle.bits.specs.Inner.{Fit, HoldsFields}
use Rattle.bits.proofs.Numbers.{Below}
use Rattle.bits.proofs.Files.{total-append, fit_append, length-file, below-file, written-holds, holds-written, holds-append, holds-run}
use Rattle.layouts.specs.Files.{bytes_for, pad_for}

-- ---- the padding

-- the bytes s are whole bytes that hold the fields fs, of u bits, and zero bits behind them
pub record Padded (fs : List Field) (u : ℕ) (s : List ℕ) : Type 0 where
  pub size : length s ≡ bytes_for u
  pub bytes : Below 8 s
  pub holds : HoldsFields s 0 fs
  pub pad : field s u (pad_for u) ≡ 0

module _ (fs : List Field) (u : ℕ) (end : total_width fs ≡ u) where
  abbrev filled : List Field
  filled = fs ++ bits (pad_for u) 0 ∷ []

  pub padded_total : total_width (fs ++ bits (pad_for u) 0 ∷ []) ≡ 8 * bytes_for u
  padded_total = rw (total-append fs (bits (pad_for u) 0 ∷ [])) (omega arith)

  behind : 0 + total_width fs ≡ u
  behind = omega arith

  -- written, then read
  pub padded_written : Fit fs → Padded fs u (file_of (fs ++ bits (pad_for u) 0 ∷ []))
  padded_written fit = record { size = length-file filled (bytes_for u) padded_total; bytes = below-file filled; holds = both.0; pad = rw behind at both.1.0 }
    where
      both : HoldsFields (file_of filled) 0 fs × HoldsFields (file_of filled) (0 + total_width fs) (bits (pad_for u) 0 ∷ [])
      both =
          (holds-append (file_of filled) 0 fs (bits (pad_for u) 0 ∷ [])).0
          (written-holds filled (bytes_for u) (fit_append fs (bits (pad_for u) 0 ∷ []) fit (pow_pos (pad_for u), tt)) padded_total)

  -- read, then written
  pub padded_read : (s : List ℕ) → Padded fs u s → file_of (fs ++ bits (pad_for u) 0 ∷ []) ≡ s
  padded_read s p =
      holds-written s filled p.bytes (rw p.size padded_total)
      ((holds-append s 0 fs (bits (pad_for u) 0 ∷ [])).1 (p.holds, (rw behind p.pad, tt)))

-- ---- a run behind other fields

module _ (s : List ℕ) (o : ℕ) (xs : List Field) (w : ℕ) (ds : List ℕ) (a n : ℕ) (at : o + total_width xs ≡ a) (many : length ds ≡ n) (le : a + w * n ≤ 8 * length s) where
  -- the run's bounds, by its own length
  inside : a + w * length ds ≤ 8 * length s
  inside = rw many le

  split_run : HoldsFields s o (xs ++ map (bits w) ds) → HoldsFields s o xs × (fields s a w n ≡ ds)
  split_run h =
      let t = (holds-append s o xs (map (bits w) ds)).0 h in
      (t.0, rw (← many) ((holds-run s a w ds inside).0 (rw at at t.1)))

  join_run : HoldsFields s o xs × (fields s a w n ≡ ds) → HoldsFields s o (xs ++ map (bits w) ds)
  join_run h =
      let r : fields s a w (length ds) ≡ ds = rw many h.1 in
      (holds-append s o xs (map (bits w) ds)).1 (h.0, rw at ((holds-run s a w ds inside).1 r))

  pub holds-then_run : HoldsFields s o (xs ++ map (bits w) ds) ↔ (HoldsFields s o xs × (fields s a w n ≡ ds))
  holds-then_run = (split_run, join_run)
