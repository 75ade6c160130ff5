-- The grid's file, written then read and read then written: its body behind any header of h bits, then the file in either form.
use mathlib.Core.Path.{◌≡◌, refl, ◌∙◌}
use mathlib.Core.Logic.{◌↔◌}
use mathlib.Core.List.{List, [], ◌∷◌, ◌++◌, map, append_assoc}
use Prim.Native.Nat.{ℕ, ◌+◌, ◌*◌, ◌^◌, ◌≤◌, ◌<◌}
use native.Mathlib.Omega.{arith}
use lib.ListN.{length, length-map}
use lib.Seq.{take_all}
use lib.IntN.{ℤ}
use Rattle.bits.specs.Bits.{field, fields}
use Rattle.bits.specs.Signed.{of_int, to_int}
use Rattle.bits.specs.Fields.{Field, bits, total_width, file_of}
use Rattle.bits.specs.Inner.{Fit, HoldsFields}
use Rattle.bits.proofs.Numbers.{Below}
use Rattle.bits.proofs.Fields.{length_fields, below-fields}
use Rattle.bits.proofs.SignedLaws.{Small, to_of_all, of-to_all, of-below}
use Rattle.bits.proofs.Files.{total-append, total-run, fit_append, fit_run}
use Rattle.layouts.specs.declared.forms.Form.{Form}
use Rattle.layouts.specs.Files.{bytes_for, pad_for}
use Rattle.layouts.specs.Forms.{grid_spare_of, grid_header_bits_of}
use Rattle.layouts.specs.GridFile.{limit_width, factor_width, bits_behind, grid_bytes, grid_header, grid_body, grid_fields, grid_file}
use Rattle.layouts.specs.GridFile.{grid_form_in, nodes_in, constraints_in_of, grid_spare_in, header_in, limits_from, factors_from, limits_in, factors_in, grid_pad_in, grid_in}
use Rattle.layouts.proofs.Padded.{Padded, padded_total, padded_written, padded_read, holds-then_run}
use Rattle.layouts.proofs.GridHeader.{node_width, header-total, header-fit, header-found, header-holds}

-- what the fields of a grid's body can hold
pub record BodyFits (n k : ℕ) (ls : List ℕ) (fs : List ℤ) : Type 0 where
  pub one_limit_each : length ls ≡ k
  pub one_factor_each : length fs ≡ n * k
  pub limits-fit : Below limit_width ls
  pub factors-fit : Small factor_width fs

-- ---- the body, behind a header of o bits

-- with the factors as bits
unfoldable pub coded : List ℕ → List ℕ → List Field
coded ls vs = map (bits limit_width) ls ++ map (bits factor_width) vs

module _ (hs : List Field) (o n k : ℕ) (ls vs : List ℕ) (starts : total_width hs ≡ o) (many : length ls ≡ k) (each : length vs ≡ n * k) where
  -- the header and the limits
  front : List Field
  front = hs ++ map (bits limit_width) ls

  limits-end : total_width front ≡ o + limit_width * k
  unfolding front
  limits-end = rw (total-append hs (map (bits limit_width) ls), total-run limit_width ls, many, starts)

  pub body_total : total_width (hs ++ coded ls vs) ≡ o + limit_width * k + factor_width * (n * k)
  unfolding coded front
  body_total =
      rw (← append_assoc hs (map (bits limit_width) ls) (map (bits factor_width) vs), total-append front (map (bits factor_width) vs), limits-end, total-run factor_width vs, each)

  pub body_fit : Fit hs → Below limit_width ls → Below factor_width vs → Fit (hs ++ coded ls vs)
  unfolding coded front
  body_fit h hl hv =
      rw (← append_assoc hs (map (bits limit_width) ls) (map (bits factor_width) vs))
      (fit_append front (map (bits factor_width) vs) (fit_append hs (map (bits limit_width) ls) h (fit_run limit_width ls hl)) (fit_run factor_width vs hv))

  module _ (s : List ℕ) (inside : o + limit_width * k + factor_width * (n * k) ≤ 8 * length s) where
    -- the body's parts, as the readers find them
    pub body_parts : HoldsFields s 0 (hs ++ coded ls vs) ↔ (HoldsFields s 0 hs × (fields s o limit_width k ≡ ls) × (fields s (o + limit_width * k) factor_width (n * k) ≡ vs))
    unfolding coded front
    body_parts =
        rw (← append_assoc hs (map (bits limit_width) ls) (map (bits factor_width) vs))
        (λ h. let t = second.0 h in let u = first.0 t.0 in (u.0, u.1, t.1), λ h. second.1 (first.1 (h.0, h.1), h.2))
      where
        first : HoldsFields s 0 front ↔ (HoldsFields s 0 hs × (fields s o limit_width k ≡ ls))
        first = holds-then_run s 0 hs limit_width ls o k (omega (arith, starts)) many (omega arith)

        second : HoldsFields s 0 (front ++ map (bits factor_width) vs) ↔ (HoldsFields s 0 front × (fields s (o + limit_width * k) factor_width (n * k) ≡ vs))
        second = holds-then_run s 0 front factor_width vs (o + limit_width * k) (n * k) (omega (arith, limits-end)) each (omega arith)

-- what is read from bit o on
module _ (s : List ℕ) (o n k : ℕ) where
  pub length-limits : length (limits_from s o k) ≡ k
  unfolding limits_from
  length-limits = length_fields s o limit_width k

  pub length-factors : length (factors_from s o n k) ≡ n * k
  unfolding factors_from
  length-factors = length-map (fields s (o + limit_width * k) factor_width (n * k)) (to_int factor_width) ∙ length_fields s (o + limit_width * k) factor_width (n * k)

-- ---- the fields behind a header, and the padding

-- the bytes s hold the header hs, of h bits, and behind it a grid's body
pub record Behind (hs : List Field) (h n k : ℕ) (ls : List ℕ) (fs : List ℤ) (s : List ℕ) : Type 0 where
  pub size : length s ≡ bytes_for (bits_behind h n k)
  pub bytes : Below 8 s
  pub header : HoldsFields s 0 hs
  pub limits : limits_from s h k ≡ ls
  pub factors : factors_from s h n k ≡ fs
  pub pad : field s (bits_behind h n k) (pad_for (bits_behind h n k)) ≡ 0

module _ (hs : List Field) (h n k : ℕ) (starts : total_width hs ≡ h) where
  abbrev whole : List ℕ → List ℤ → List Field
  whole ls fs = hs ++ grid_body ls fs ++ bits (pad_for (bits_behind h n k)) 0 ∷ []

  module _ (ls : List ℕ) (fs : List ℤ) (f : BodyFits n k ls fs) where
    vs : List ℕ
    vs = map (of_int factor_width) fs

    each : length vs ≡ n * k
    unfolding vs
    each = length-map fs (of_int factor_width) ∙ f.one_factor_each

    used : total_width (hs ++ coded ls vs) ≡ bits_behind h n k
    used = body_total hs h n k ls vs starts f.one_limit_each each

    pub behind_total : total_width (hs ++ grid_body ls fs ++ bits (pad_for (bits_behind h n k)) 0 ∷ []) ≡ 8 * bytes_for (bits_behind h n k)
    unfolding grid_body coded vs
    behind_total = padded_total (hs ++ coded ls vs) (bits_behind h n k) used

    found : (s : List ℕ) → Padded (hs ++ coded ls vs) (bits_behind h n k) s → Behind hs h n k ls fs s
    unfolding limits_from factors_from vs
    found s p =
        record {
          size = p.size;
          bytes = p.bytes;
          header = parts.0;
          limits = parts.1;
          factors = rw parts.2 (to_of_all factor_width fs (omega arith) f.factors-fit);
          pad = p.pad;
        }
      where
        parts : HoldsFields s 0 hs × (fields s h limit_width k ≡ ls) × (fields s (h + limit_width * k) factor_width (n * k) ≡ vs)
        parts = (body_parts hs h n k ls vs starts f.one_limit_each each s (omega (arith, p.size))).0 p.holds

    pub behind_written : Fit hs → Behind hs h n k ls fs (file_of (hs ++ grid_body ls fs ++ bits (pad_for (bits_behind h n k)) 0 ∷ []))
    unfolding grid_body coded vs
    behind_written fit =
        found (file_of (whole ls fs))
        (padded_written (hs ++ coded ls vs) (bits_behind h n k) used
        (body_fit hs h n k ls vs starts f.one_limit_each each fit f.limits-fit (of-below factor_width fs (omega arith) f.factors-fit)))

  module _ (s : List ℕ) where
    raw : List ℕ
    raw = fields s (h + limit_width * k) factor_width (n * k)

    each_read : length raw ≡ n * k
    unfolding raw
    each_read = length_fields s (h + limit_width * k) factor_width (n * k)

    pub behind_read : Behind hs h n k (limits_from s h k) (factors_from s h n k) s
        → file_of (hs ++ grid_body (limits_from s h k) (factors_from s h n k) ++ bits (pad_for (bits_behind h n k)) 0 ∷ []) ≡ s
    unfolding grid_body limits_from factors_from coded raw
    behind_read p =
        let ls = limits_from s h k in
        let many = length-limits s h n k in
        rw (of-to_all factor_width raw (below-fields s (h + limit_width * k) factor_width (n * k)))
        (padded_read (hs ++ coded ls raw) (bits_behind h n k) (body_total hs h n k ls raw starts many each_read) s
        (record {
          size = p.size;
          bytes = p.bytes;
          holds = (body_parts hs h n k ls raw starts many each_read s (omega (arith, p.size))).1 (p.header, refl, refl);
          pad = p.pad;
        }))

-- ---- written, then read

-- what the fields of a grid's file can hold
pub record GridFits (f : Form) (n k : ℕ) (ls : List ℕ) (fs : List ℤ) : Type 0 where
  pub nodes-fit : n < 2 ^ node_width f
  pub constraints-fit : k < 2 ^ 7
  pub body_fits : BodyFits n k ls fs

-- the bytes s are the file of a grid: what each reader finds in them
pub record GridWritten (f : Form) (n k : ℕ) (ls : List ℕ) (fs : List ℤ) (s : List ℕ) : Type 0 where
  pub size : length s ≡ grid_bytes f n k
  pub bytes : Below 8 s
  pub form : grid_form_in s ≡ f
  pub nodes : nodes_in s ≡ n
  pub constraints : constraints_in_of s ≡ k
  pub spare : grid_spare_in s ≡ grid_spare_of f
  pub limits : limits_in s ≡ ls
  pub factors : factors_in s ≡ fs
  pub pad : grid_pad_in s ≡ 0

module _ (f : Form) (n k : ℕ) (ls : List ℕ) (fs : List ℤ) (fit : GridFits f n k ls fs) where
  pub total-grid : total_width (grid_fields f n k ls fs) ≡ 8 * grid_bytes f n k
  unfolding grid_fields
  total-grid = behind_total (grid_header f n k) (grid_header_bits_of f) n k (header-total f n k) ls fs fit.body_fits

  pub grid-written : GridWritten f n k ls fs (file_of (grid_fields f n k ls fs))
  unfolding grid_fields
  grid-written =
      let p = behind_written (grid_header f n k) (grid_header_bits_of f) n k (header-total f n k) ls fs fit.body_fits (header-fit f n k fit.nodes-fit fit.constraints-fit) in
      let h = header-found f n k (file_of (grid_fields f n k ls fs)) p.header in
      record {
        size = p.size;
        bytes = p.bytes;
        form = h.form;
        nodes = h.nodes;
        constraints = h.constraints;
        spare = h.spare;
        limits = rw (h.form, h.constraints) p.limits;
        factors = rw (h.nodes, h.form, h.constraints) p.factors;
        pad = rw (h.nodes, h.form, h.constraints) p.pad;
      }

-- ---- read, then written

module _ (s : List ℕ) where
  abbrev F : Form
  F = grid_form_in s

  abbrev N : ℕ
  N = nodes_in s

  abbrev K : ℕ
  K = constraints_in_of s

  pub grid-read : Below 8 s → length s ≡ grid_bytes F N K → grid_spare_in s ≡ grid_spare_of F → grid_pad_in s ≡ 0 → file_of (grid_fields F N K (limits_in s) (factors_in s)) ≡ s
  unfolding grid_fields
  grid-read b size spare pad =
      behind_read (grid_header F N K) (header_in s) N K (header-total F N K) s
      (record { size = size; bytes = b; header = header-holds s spare; limits = refl; factors = refl; pad = pad })

  -- the same of the grid read, as a grid
  pub grid-file_read : Below 8 s → length s ≡ grid_bytes F N K → grid_spare_in s ≡ grid_spare_of F → grid_pad_in s ≡ 0 → grid_file F (grid_in s) ≡ s
  unfolding grid_file
  grid-file_read b size spare pad =
      rw (take_all K (limits_in s) (omega (arith, length-limits s (header_in s) N K)), take_all (N * K) (factors_in s) (omega (arith, length-factors s (header_in s) N K)))
      (grid-read b size spare pad)
