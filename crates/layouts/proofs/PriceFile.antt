-- The prices' file, written then read and read then written.
use mathlib.Core.Path.{◌≡◌, refl}
use mathlib.Core.Logic.{◌↔◌}
use mathlib.Core.List.{List, [], ◌∷◌, ◌++◌, map}
use Prim.Native.Nat.{ℕ, ◌^◌, ◌<◌}
use native.Mathlib.Omega.{arith}
use lib.ListN.{length}
use Rattle.bits.specs.Bits.{fields}
use Rattle.bits.specs.Fields.{Field, bits, total_width}
use Rattle.bits.specs.Inner.{Fit, HoldsFields}
use Rattle.bits.proofs.Numbers.{Below}
use Rattle.bits.proofs.Fields.{length_fields}
use Rattle.bits.proofs.Files.{total-append, total-run, fit_append, fit_run}
use Rattle.layouts.specs.PriceFile.{price_width, price_bits, price_bytes, price_fields, price_file, period_in, price_count_in, prices_in, price_pad_in}
use Rattle.layouts.proofs.Padded.{Padded, padded_written, padded_read, holds-then_run}

-- what the fields of a prices' file can hold
pub record PriceFits (t k : ℕ) (ps : List ℕ) : Type 0 where
  pub period-fits : t < 2
  pub count_fits : k < 2 ^ 7
  pub one_price_each : length ps ≡ k
  pub prices-fit : Below price_width ps

-- the bytes s are the file of a period's prices: what each reader finds in them
pub record PriceWritten (t k : ℕ) (ps s : List ℕ) : Type 0 where
  pub size : length s ≡ price_bytes k
  pub bytes : Below 8 s
  pub period : period_in s ≡ t
  pub count : price_count_in s ≡ k
  pub prices : prices_in k s ≡ ps
  pub pad : price_pad_in k s ≡ 0

-- ---- the fields before the padding

abbrev header : ℕ → ℕ → List Field
header t k = bits 1 t ∷ bits 7 k ∷ []

body : ℕ → ℕ → List ℕ → List Field
body t k ps = header t k ++ map (bits price_width) ps

module _ (t k : ℕ) (ps : List ℕ) (many : length ps ≡ k) where
  body_total : total_width (body t k ps) ≡ price_bits k
  unfolding body
  body_total = rw (total-append (header t k) (map (bits price_width) ps), total-run price_width ps, many)

  body_parts : (s : List ℕ) → length s ≡ price_bytes k → (HoldsFields s 0 (body t k ps) ↔ (HoldsFields s 0 (header t k) × (fields s 8 price_width k ≡ ps)))
  unfolding body
  body_parts s size = holds-then_run s 0 (header t k) price_width ps 8 k refl many (omega arith)

-- ---- written, then read

module _ (t k : ℕ) (ps : List ℕ) (f : PriceFits t k ps) where
  found : (s : List ℕ) → Padded (body t k ps) (price_bits k) s → PriceWritten t k ps s
  unfolding prices_in
  found s p =
      let parts = (body_parts t k ps f.one_price_each s p.size).0 p.holds in
      record { size = p.size; bytes = p.bytes; period = parts.0.0; count = parts.0.1.0; prices = parts.1; pad = p.pad }

  fit : Fit (body t k ps)
  unfolding body
  fit = fit_append (header t k) (map (bits price_width) ps) (f.period-fits, (f.count_fits, tt)) (fit_run price_width ps f.prices-fit)

  pub prices-written : PriceWritten t k ps (price_file t k ps)
  unfolding price_file price_fields body
  prices-written = found (price_file t k ps) (padded_written (body t k ps) (price_bits k) (body_total t k ps f.one_price_each) fit)

-- ---- read, then written

module _ (k : ℕ) (s : List ℕ) where
  pub length-prices_in : length (prices_in k s) ≡ k
  unfolding prices_in
  length-prices_in = length_fields s 8 price_width k

  pub prices-read : Below 8 s → length s ≡ price_bytes k → price_count_in s ≡ k → price_pad_in k s ≡ 0 → price_file (period_in s) k (prices_in k s) ≡ s
  unfolding price_file price_fields prices_in body
  prices-read b size count pad =
      padded_read (body (period_in s) k (prices_in k s)) (price_bits k) (body_total (period_in s) k (prices_in k s) length-prices_in) s
      (record { size = size; bytes = b; holds = (body_parts (period_in s) k (prices_in k s) length-prices_in s size).1 ((refl, (count, tt)), refl); pad = pad })
