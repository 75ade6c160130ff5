-- What inner functions and proofs say: fields that fit and fields that bytes hold; a writer that writes fields one after the other.
use Rattle.std.specs.Prelude.{◌≡◌, ℕ, ◌+◌, ◌*◌, ◌%◌, ◌^◌, ◌≤◌, ◌<◌, List, [], ◌∷◌, take, drop}
use Rattle.bits.specs.Bits.{number, field}
use Rattle.bits.specs.Fields.{Field}
use Rattle.bits.specs.declared.BitWriter.{BitWriter}

-- ---- fields

-- each value fits its width
abbrev pub Fit : List Field → Type 0
Fit [] = Unit
Fit (f ∷ fs) = (f.value < 2 ^ f.width) × Fit fs

-- the bytes s hold the fields from bit o on
abbrev pub HoldsFields : List ℕ → ℕ → List Field → Type 0
HoldsFields s o [] = Unit
HoldsFields s o (f ∷ fs) = (field s o f.width ≡ f.value) × HoldsFields s (o + f.width) fs

-- ---- a writer

-- the bytes before its place, and the bits that it holds, its lowest, which are not stored yet
unfoldable pub written : List ℕ → BitWriter → ℕ
written s p = number 8 (take p.at s) * 2 ^ p.held + p.bits % 2 ^ p.held

-- how many bits a writer has written
abbrev pub bits_written : BitWriter → ℕ
bits_written p = 8 * p.at + p.held

-- a writer that goes on: it never goes back, and the bytes from its new place on stay as they are
pub record WritesOn (entry : List ℕ) (p : BitWriter) (exit : List ℕ) (r : BitWriter) : Type 0 where
  pub onward : p.at ≤ r.at
  pub rest : drop r.at exit ≡ drop r.at entry
