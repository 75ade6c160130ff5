-- A file that a writer writes from its first bit on, field by field and run by run: what holds after each, and what the bytes are at the end.
use mathlib.Core.Path.{◌≡◌, refl, sym, ap, ap₂, ◌∙◌}
use mathlib.Core.List.{List, [], ◌∷◌, ◌++◌, map}
use Prim.Native.Nat.{ℕ, ◌+◌, ◌*◌, ◌^◌, ◌≤◌}
use native.Mathlib.Omega.{arith}
use lib.ListN.{length, drop, take-append-drop}
use Rattle.bits.specs.Bits.{number}
use Rattle.bits.specs.Fields.{Field, bits, total_width, file_of}
use Rattle.bits.specs.Inner.{written, bits_written, WritesOn}
use Rattle.bits.specs.declared.BitWriter.{BitWriter}
use Rattle.bits.proofs.Numbers.{Below}
use Rattle.lists.proofs.Fill.{drop-later}
use Rattle.bits.proofs.Files.{total-append, total-run, length-file}
use Rattle.bits.proofs.Writing.{writer_start, writer_step, writer_end, run_packed}
use Rattle.lists.specs.Lent.{overwrite}
use Rattle.runs.specs.Inner.{WrittenFields}

pub written_start : (buf : List ℕ) (p : BitWriter) → bits_written p ≡ 0 → WrittenFields [] buf buf p
written_start buf p at = record { is = writer_start buf p at; end = at; rest = refl }

module _ {fs : List Field} {first buf : List ℕ} {p : BitWriter} (h : WrittenFields fs first buf p) (w : ℕ) (later : List ℕ) (r : BitWriter) where
  -- one field more, as `put` leaves it
  pub written-put : (v : ℕ)
      → (written later r ≡ written buf p * 2 ^ w + v) × ((bits_written r ≡ bits_written p + w) × WritesOn buf p later r)
      → WrittenFields (fs ++ bits w v ∷ []) first later r
  written-put v e =
      record {
        is = writer_step fs w v (written buf p) (written later r) h.is e.0;
        end = e.1.0 ∙ rw (total-append fs (bits w v ∷ []), h.end) (omega arith);
        rest = e.1.1.rest ∙ drop-later buf first p.at r.at e.1.1.onward h.rest;
      }

  -- the last field, as `put_last` leaves it
  pub written_last : (v : ℕ)
      → (written later r ≡ written buf p * 2 ^ w + v) × (((bits_written r ≡ bits_written p + w) × (r.held ≤ 7)) × WritesOn buf p later r)
      → WrittenFields (fs ++ bits w v ∷ []) first later r
  written_last v e = written-put v (e.0, (e.1.0.0, e.1.1))

  -- a run of fields more, as `write_run` leaves it
  pub written-run : (t : List ℕ) (n : ℕ) → length t ≡ n
      → (written later r ≡ written buf p * 2 ^ (w * n) + number w t)
      × ((bits_written r ≡ bits_written p + w * n) × WritesOn buf p later r)
      → WrittenFields (fs ++ map (bits w) t) first later r
  written-run t n long e =
      record {
        is = run_packed w t fs (written later r) (e.0 ∙ rw (h.is, long));
        end = e.1.0 ∙ rw (total-append fs (map (bits w) t), total-run w t, long, h.end);
        rest = e.1.1.rest ∙ drop-later buf first p.at r.at e.1.1.onward h.rest;
      }

-- where the writer holds no whole byte, at the end of one, the file stands in the first bytes, and the others are as they were
pub written-end : (fs : List Field) (first buf : List ℕ) (p : BitWriter) (m : ℕ) → WrittenFields fs first buf p
    → p.held ≤ 7 → Below 8 buf → total_width fs ≡ 8 * m → m ≤ length buf
    → buf ≡ overwrite (file_of fs) first
written-end fs first buf p m h few b whole le =
    let at : p.at ≡ m = omega (arith, h.end) in
    sym (take-append-drop m buf)
    ∙ ap₂ ◌++◌ (writer_end fs m buf p b le few h.end whole h.is)
    (rw at at h.rest ∙ ap (λ (n : ℕ). drop n first) (sym (length-file fs m whole)))
