-- Laws of fields side by side: how they pack, and that a file written of them and the fields read from a file are each other's inverse.
use mathlib.Core.Path.{◌≡◌, refl, sym, ap, ap₂, ◌∙◌}
use mathlib.Core.Logic.{◌↔◌}
use Prim.Native.Nat.{ℕ, suc, ◌+◌, ◌-◌, ◌*◌, ◌/◌, ◌%◌, ◌^◌, ◌≤◌, ◌<◌}
use native.Mathlib.Nat.{add-zero, add_assoc, mul-suc, mul-zero, mod-eq_of_lt, div-one, div-eq_of_lt}
use native.Mathlib.Omega.{arith}
use mathlib.Core.List.{List, [], ◌∷◌, ◌++◌, map}
use lib.ListN.{length}
use lib.Pow.{split, pow-add, shr-shr, high, low}
use lib.Arith.{digits_lt}
use Rattle.bits.specs.Bits.{number, digits, field, fields}
use Rattle.bits.specs.Fields.{Field, bits, total_width, packed, file_of}
use Rattle.bits.specs.Inner.{Fit, HoldsFields}
use Rattle.bits.proofs.Numbers.{Below, part_low, number_lt, length_digits, digits_number, number_digits, below-digits}
use Rattle.bits.proofs.Fields.{fields-cons}

-- ---- packing

pub total-append : (xs ys : List Field) → total_width (xs ++ ys) ≡ total_width xs + total_width ys
total-append [] ys = omega arith
total-append (x ∷ xs) ys = omega (arith, total-append xs ys)

pub packed-append : (xs ys : List Field) → packed (xs ++ ys) ≡ packed xs * 2 ^ total_width ys + packed ys
packed-append [] ys = omega arith
packed-append (x ∷ xs) ys = rw pows (omega (arith, packed-append xs ys))
  where
    pows : 2 ^ total_width (xs ++ ys) ≡ 2 ^ total_width xs * 2 ^ total_width ys
    pows = ap (λ (n : ℕ). 2 ^ n) (total-append xs ys) ∙ pow-add 2 (total_width xs) (total_width ys)

pub packed_lt : (fs : List Field) → Fit fs → packed fs < 2 ^ total_width fs
packed_lt [] h = omega arith
packed_lt (f ∷ fs) h = rw pow-add (digits_lt h.0 (packed_lt fs h.1))

pub fit_append : (xs ys : List Field) → Fit xs → Fit ys → Fit (xs ++ ys)
fit_append [] ys hx hy = hy
fit_append (x ∷ xs) ys hx hy = (hx.0, fit_append xs ys hx.1 hy)

-- fields of one width are digits of that width
pub total-run : (w : ℕ) (ds : List ℕ) → total_width (map (bits w) ds) ≡ w * length ds
total-run w [] = sym (mul-zero w)
total-run w (d ∷ ds) = omega (arith, total-run w ds, mul-suc w (length ds))

pub packed-run : (w : ℕ) (ds : List ℕ) → packed (map (bits w) ds) ≡ number w ds
packed-run w [] = refl
packed-run w (d ∷ ds) = rw (total-run w ds, packed-run w ds)

pub fit_run : (w : ℕ) (ds : List ℕ) → Below w ds → Fit (map (bits w) ds)
fit_run w [] h = tt
fit_run w (d ∷ ds) h = (h 0, fit_run w ds (λ i. h (suc i)))

-- ---- the fields of bytes by the bytes' number

-- the number has the fields, with e bits after them: the fields stand there
pub number-holds : (fs : List Field) (s : List ℕ) (o a e r : ℕ) → Fit fs → o + total_width fs + e ≡ 8 * length s → r < 2 ^ e
    → number 8 s ≡ (a * 2 ^ total_width fs + packed fs) * 2 ^ e + r → HoldsFields s o fs
unfolding field
number-holds [] s o a e r fit end lt is = tt
number-holds (f ∷ fs) s o a e r fit end lt is =
    (here, number-holds fs s (o + f.width) (a * 2 ^ f.width + f.value) e r fit.1 (omega arith) lt all)
  where
    all : number 8 s ≡ ((a * 2 ^ f.width + f.value) * 2 ^ total_width fs + packed fs) * 2 ^ e + r
    all = is ∙ rw pow-add (omega arith)

    here : field s o f.width ≡ f.value
    here =
        ap (λ (x : ℕ). number 8 s / 2 ^ x % 2 ^ f.width) {x = 8 * length s - (o + f.width)} {y = e + total_width fs} (omega arith)
        ∙ ap (λ (x : ℕ). x / 2 ^ (e + total_width fs) % 2 ^ f.width) all
        ∙ part_low ((a * 2 ^ f.width + f.value) * 2 ^ total_width fs + packed fs) r e (total_width fs) f.width lt
        ∙ ap (λ (x : ℕ). x % 2 ^ f.width) (high (a * 2 ^ f.width + f.value) (total_width fs) (packed_lt fs fit.1))
        ∙ low a f.width fit.0

-- and the other way: the number down to e bits from the end is what stands before the fields, and the fields
pub holds-number : (fs : List Field) (s : List ℕ) (o e : ℕ) → o + total_width fs + e ≡ 8 * length s → HoldsFields s o fs
    → number 8 s / 2 ^ e ≡ number 8 s / 2 ^ (e + total_width fs) * 2 ^ total_width fs + packed fs
unfolding field
holds-number [] s o e end h = rw (add-zero e) (omega arith)
holds-number (f ∷ fs) s o e end h =
    let same : e + (f.width + total_width fs) ≡ e + total_width fs + f.width = omega arith in
    holds-number fs s (o + f.width) e (omega arith) h.1 ∙ rw (here, pow-add 2 f.width (total_width fs), same) (omega arith)
  where
    bottom : number 8 s / 2 ^ (e + total_width fs) % 2 ^ f.width ≡ f.value
    bottom = ap (λ (x : ℕ). number 8 s / 2 ^ x % 2 ^ f.width) {x = e + total_width fs} {y = 8 * length s - (o + f.width)} (omega arith) ∙ h.0

    here : number 8 s / 2 ^ (e + total_width fs) ≡ number 8 s / 2 ^ (e + total_width fs + f.width) * 2 ^ f.width + f.value
    here =
        sym (split (number 8 s / 2 ^ (e + total_width fs)) f.width)
        ∙ ap₂ (λ (x y : ℕ). x * 2 ^ f.width + y) (shr-shr (number 8 s) (e + total_width fs) f.width) bottom

-- ---- a file of fields

pub length-file : (fs : List Field) (m : ℕ) → total_width fs ≡ 8 * m → length (file_of fs) ≡ m
unfolding file_of
length-file fs m end = length_digits 8 (total_width fs / 8) (packed fs) ∙ omega arith

pub below-file : (fs : List Field) → Below 8 (file_of fs)
unfolding file_of
below-file fs = below-digits 8 (total_width fs / 8) (packed fs)

pub number-file : (fs : List Field) (m : ℕ) → Fit fs → total_width fs ≡ 8 * m → number 8 (file_of fs) ≡ packed fs
unfolding file_of
number-file fs m fit end =
    number_digits 8 (total_width fs / 8) (packed fs) ∙ ap (λ (x : ℕ). packed fs % 2 ^ x) {x = 8 * (total_width fs / 8)} {y = total_width fs} (omega arith)
    ∙ mod-eq_of_lt (packed_lt fs fit)

-- written, then read: the same values
pub written-holds : (fs : List Field) (m : ℕ) → Fit fs → total_width fs ≡ 8 * m → HoldsFields (file_of fs) 0 fs
written-holds fs m fit end =
    number-holds fs (file_of fs) 0 0 0 0 fit (omega (arith, length-file fs m end)) (omega arith) (number-file fs m fit end ∙ omega arith)

-- read, then written: the same bytes
pub holds-written : (s : List ℕ) (fs : List Field) → Below 8 s → total_width fs ≡ 8 * length s → HoldsFields s 0 fs → file_of fs ≡ s
unfolding file_of
holds-written s fs b end h =
    let n : total_width fs / 8 ≡ length s = omega arith in
    ap₂ (digits 8) n (sym all) ∙ digits_number 8 s b
  where
    size : 8 * length s ≡ 0 + total_width fs
    size = omega arith

    none : number 8 s / 2 ^ (0 + total_width fs) ≡ 0
    none = div-eq_of_lt (rw size at (number_lt 8 s b))

    all : number 8 s ≡ packed fs
    all = sym (div-one (number 8 s)) ∙ holds-number fs s 0 0 (omega arith) h ∙ rw none (omega arith)

-- ---- fields side by side

holds-split : (s : List ℕ) (o : ℕ) (xs ys : List Field) → HoldsFields s o (xs ++ ys) → HoldsFields s o xs × HoldsFields s (o + total_width xs) ys
holds-split s o [] ys h = (tt, rw add-zero h)
holds-split s o (x ∷ xs) ys h =
    let t = holds-split s (o + x.width) xs ys h.1 in ((h.0, t.0), rw (← add_assoc) t.1)

holds-join : (s : List ℕ) (o : ℕ) (xs ys : List Field) → HoldsFields s o xs × HoldsFields s (o + total_width xs) ys → HoldsFields s o (xs ++ ys)
holds-join s o [] ys h = rw add-zero at h.1
holds-join s o (x ∷ xs) ys h = (h.0.0, holds-join s (o + x.width) xs ys (h.0.1, rw add_assoc h.1))

pub holds-append : (s : List ℕ) (o : ℕ) (xs ys : List Field) → HoldsFields s o (xs ++ ys) ↔ (HoldsFields s o xs × HoldsFields s (o + total_width xs) ys)
holds-append s o xs ys = (holds-split s o xs ys, holds-join s o xs ys)

-- ---- a run of one width

run_to : (s : List ℕ) (o w : ℕ) (ds : List ℕ) → o + w * length ds ≤ 8 * length s → HoldsFields s o (map (bits w) ds) → fields s o w (length ds) ≡ ds
unfolding fields
run_to s o w [] le h = refl
run_to s o w (d ∷ ds) le h =
    fields-cons s o w (length ds) le ∙ (λ i. h.0 i ∷ run_to s (o + w) w ds (omega (arith, mul-suc w (length ds))) h.1 i)

run_from : (s : List ℕ) (o w : ℕ) (ds : List ℕ) → o + w * length ds ≤ 8 * length s → fields s o w (length ds) ≡ ds → HoldsFields s o (map (bits w) ds)
run_from s o w [] le e = tt
run_from s o w (d ∷ ds) le e =
    let both : field s o w ∷ fields s (o + w) w (length ds) ≡ d ∷ ds = sym (fields-cons s o w (length ds) le) ∙ e in
    let tail : fields s (o + w) w (length ds) ≡ ds = cc in
    (cc, run_from s (o + w) w ds (omega (arith, mul-suc w (length ds))) tail)

pub holds-run : (s : List ℕ) (o w : ℕ) (ds : List ℕ) → o + w * length ds ≤ 8 * length s → (HoldsFields s o (map (bits w) ds) ↔ (fields s o w (length ds) ≡ ds))
holds-run s o w ds le = (run_to s o w ds le, run_from s o w ds le)
