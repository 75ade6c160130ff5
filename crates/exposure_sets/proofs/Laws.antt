-- Sums over sets by number: those of a place more are the old ones, and the old ones with its figure in addition.
use mathlib.Core.Path.{◌≡◌, refl, sym, ap, ap₂, ◌∙◌}
use mathlib.Core.Logic.{⊎_elim}
use mathlib.Core.Bool.{Bool, true, false, cond}
use mathlib.Core.List.{List}
use Prim.Native.Nat.{ℕ, zero, suc, ◌+◌, ◌-◌, ◌*◌, ◌/◌, ◌%◌, ◌^◌, ◌≤◌, ◌<◌}
use native.Mathlib.Nat.{add-mul-div_left, add-mul-mod_self_right, div-eq_of_lt, add_comm, mul-one, mul-suc, mul-le-mul_left, le_trans, eq-or-lt_of_le}
use native.Mathlib.Numerals.{add-one}
use native.Mathlib.Omega.{arith}
use borrow.Author.Tests.{ltb-true, ltb-false}
use lib.Dec.{eqb, ltb}
use lib.ListN.{length, get_or, set, take, length-set}
use lib.Seq.{get_or-set_same, get_or-set_other, get_or-take, length-take-le}
use lib.Pow.{pow-add, pow_pos, pow_mono}
use lib.IntN.{ℤ, pos, nat_abs, ◌+ℤ◌, ◌-ℤ◌, ◌*ℤ◌, +ℤ_idl, +ℤ_idr}
use mir.Syntax.{w64}
use mir.Val.{to_z, of_z}
use Rattle.integers.proofs.Machine.{back}
use Rattle.integers.specs.Sums.{sum_to, sum_over_of}
use Rattle.integers.proofs.Sums.{sum_to_cong, sum_to_zero, sum_to_plus}
use Rattle.integers.proofs.Linear.{⊖of, ⊖s}
use Rattle.integers.proofs.Sizes.{nat_abs_add}
use Rattle.tariff.specs.declared.contracts.Contract.{Contract}
use Rattle.tariff.specs.declared.contracts.Kind.{Kind}
use Rattle.tariff.specs.declared.contracts.Kind.TheVariants.{Obligation, Option}
use Rattle.tariff.specs.declared.contracts.Period.{Period}
use Rattle.tariff.specs.declared.processes.Process.{Process}
use Rattle.tariff.specs.Units.{Grid, grid_of, factors_of, factor}
use Rattle.tariff.specs.ContractRules.{counted, same_period, of_period, InRange}
use Rattle.tariff.specs.Processes.{percent}
use Rattle.tariff.specs.Feasibility.{released}
use Rattle.tariff.specs.Inner.{max_released}
use Rattle.layouts.specs.BookFile.{contract_count_in, contract_at, book_in}
use Rattle.tariff.proofs.Sizes.{counted-sized}
use Rattle.grid_tables.proofs.Factors.{place-in}
use Rattle.hour_rules.proofs.HourSums.{period-sum}
use Rattle.exposure_sets.specs.Inner.{
  cell_in_of,
  in_bit,
  bit_sum,
  Chosen,
  max_row,
  SmallCells,
  Grown,
  Sums,
  Filled,
  Added,
  AddedSmall,
  raw_in,
  due_in,
  fixed_part,
  option_part,
  fixed_in,
  option_in,
  book_fixed,
  book_options,
  raw_of,
  unit_cost,
}

-- ---- bits

low-none : (m t : ℕ) → m < 2 ^ t → in_bit m t ≡ false
low-none m t h = ap (λ (x : ℕ). eqb (x % 2) 1) (div-eq_of_lt h)

-- a multiple of the power more
over_div : (m t : ℕ) → (m + 2 ^ t) / 2 ^ t ≡ m / 2 ^ t + 1
over_div m t = ap (λ (x : ℕ). (m + x) / 2 ^ t) (sym (mul-one (2 ^ t))) ∙ add-mul-div_left m 1 (pow_pos t)

top_one : (m t : ℕ) → m < 2 ^ t → in_bit (2 ^ t + m) t ≡ true
top_one m t h = ap (λ (x : ℕ). eqb (x / 2 ^ t % 2) 1) (add_comm (2 ^ t) m) ∙ ap (λ (x : ℕ). eqb (x % 2) 1) (over_div m t ∙ ap (λ (x : ℕ). x + 1) (div-eq_of_lt h))

split_pow : (s d : ℕ) → 2 ^ (s + suc d) ≡ 2 ^ s * (2 ^ d * 2)
split_pow s d = pow-add 2 s (suc d) ∙ ap (λ (x : ℕ). 2 ^ s * x) (ap (λ (x : ℕ). 2 ^ x) (sym (add-one d)) ∙ pow-add 2 d 1)

same_by : (m s d : ℕ) → in_bit (2 ^ (s + suc d) + m) s ≡ in_bit m s
same_by m s d =
    ap (λ (x : ℕ). eqb (x / 2 ^ s % 2) 1) (add_comm (2 ^ (s + suc d)) m ∙ ap (λ (x : ℕ). m + x) (split_pow s d))
    ∙ ap (λ (x : ℕ). eqb (x % 2) 1) (add-mul-div_left m (2 ^ d * 2) (pow_pos s))
    ∙ ap (λ (x : ℕ). eqb x 1) (add-mul-mod_self_right (m / 2 ^ s) (2 ^ d) 2)

same_bits : (m s t : ℕ) → s < t → in_bit (2 ^ t + m) s ≡ in_bit m s
same_bits m s t h = rw (← (away s t h)) (same_by m s (t - suc s))
  where
    away : (s t : ℕ) → s < t → s + suc (t - suc s) ≡ t
    away s t h = omega arith

-- ---- one place more

sum_low : (x : ℕ → ℤ) (m t : ℕ) → m < 2 ^ t → bit_sum x m (t + 1) ≡ bit_sum x m t
unfolding bit_sum sum_to
sum_low x m t h = rw (add-one t, low-none m t h) (+ℤ_idr (sum_to t (λ (s : ℕ). cond (in_bit m s) (x s) (pos 0))))

sum-high : (x : ℕ → ℤ) (m t : ℕ) → m < 2 ^ t → bit_sum x (2 ^ t + m) (t + 1) ≡ bit_sum x m t +ℤ x t
unfolding bit_sum sum_to
sum-high x m t h =
    rw (add-one t, top_one m t h)
    (ap (λ (z : ℤ). z +ℤ x t) (sum_to_cong t (λ s l. ap (λ (b : Bool). cond b (x s) (pos 0)) (same_bits m s t l))))

sums_start : (x : ℕ → ℤ) (cells : List ℤ) → cell_in_of cells 0 ≡ pos 0 → Sums 0 x cells
unfolding bit_sum sum_to
sums_start x cells e m h = let q : m ≡ 0 = omega arith in ap (cell_in_of cells) q ∙ e

pow_on : (t n : ℕ) → n ≡ 2 ^ t → n + n ≡ 2 ^ (t + 1)
pow_on t n e = ap (λ (x : ℕ). x + x) e ∙ twice (2 ^ t) ∙ sym (pow-add 2 t 1)
  where
    twice : (x : ℕ) → x + x ≡ x * 2
    twice x = omega arith

sums_grow : (t : ℕ) (x : ℕ → ℤ) (n : ℕ) (y : ℤ) (old new : List ℤ) → n ≡ 2 ^ t → y ≡ x t → Sums t x old → Grown n y old new → Sums (t + 1) x new
sums_grow t x n y old new e ey s g m h = by (ltb m n) refl (rw (← (pow_on t n e)) at h)
  where
    by : (b : Bool) → ltb m n ≡ b → m < n + n → cell_in_of new m ≡ bit_sum x m (t + 1)
    by true q h =
        let l : m < n = ltb-true m n q in
        let p : m < 2 ^ t = rw e at l in g.low m l ∙ s m p ∙ sym (sum_low x m t p)
    by false q h =
        let r = ltb-false m n q in
        let l : m - n < n = omega arith in
        let back : n + (m - n) ≡ m = omega arith in
        let p : m - n < 2 ^ t = omega arith in
        ap (cell_in_of new) (sym back) ∙ g.high (m - n) l ∙ ap₂ ◌+ℤ◌ (s (m - n) p) ey ∙ sym (sum-high x (m - n) t p)
        ∙ ap (λ (z : ℕ). bit_sum x z (t + 1)) (ap (λ (z : ℕ). z + (m - n)) (sym e) ∙ back)

bit_small : (c : Bool) (z : ℤ) (b : ℕ) → nat_abs z ≤ b → nat_abs (cond c z (pos 0)) ≤ b
bit_small true z b h = h
bit_small false z b h = omega arith

sum-small : (b : ℕ) (x : ℕ → ℤ) (m t : ℕ) → ((s : ℕ) → s < t → nat_abs (x s) ≤ b) → nat_abs (bit_sum x m t) ≤ b * t
unfolding bit_sum sum_to
sum-small b x m zero h = omega arith
sum-small b x m (suc t) h = omega (
  arith,
  mul-suc b t,
  nat_abs_add (sum_to t (λ (s : ℕ). cond (in_bit m s) (x s) (pos 0))) (cond (in_bit m t) (x t) (pos 0)),
  sum-small b x m t (λ s l. h s (omega arith)),
  bit_small (in_bit m t) (x t) b (h t (omega arith)),
)

-- sums of at most ten
pub set-small : (b : ℕ) (x : ℕ → ℤ) (m t : ℕ) → t ≤ 10 → ((s : ℕ) → s < t → nat_abs (x s) ≤ b) → nat_abs (bit_sum x m t) ≤ b * 10
set-small b x m t few h = le_trans (sum-small b x m t h) (mul-le-mul_left b few)

-- ---- one cell more

module _ (n m : ℕ) (x v : ℤ) (entry cells : List ℤ) (inside : n + m < length cells) (low : (j : ℕ) → j < n → cell_in_of cells j ≡ cell_in_of entry j)
    (high : (j : ℕ) → j < m → cell_in_of cells (n + j) ≡ cell_in_of entry j +ℤ x) where
  pub grow_low : (j : ℕ) → j < n → cell_in_of (set cells (n + m) v) j ≡ cell_in_of entry j
  grow_low j h = get_or-set_other cells (n + m) j v (pos 0) (λ q. omega arith) ∙ low j h

  pub grow_high : m < n → v ≡ cell_in_of entry m +ℤ x → (j : ℕ) → j < m + 1 → cell_in_of (set cells (n + m) v) (n + j) ≡ cell_in_of entry j +ℤ x
  grow_high b e j h = ⊎_elim here there (eq-or-lt_of_le h)
    where
      here : suc j ≡ m + 1 → cell_in_of (set cells (n + m) v) (n + j) ≡ cell_in_of entry j +ℤ x
      here q = let s : j ≡ m = omega arith in rw s (get_or-set_same cells (n + m) v (pos 0) inside ∙ e)

      there : suc j < m + 1 → cell_in_of (set cells (n + m) v) (n + j) ≡ cell_in_of entry j +ℤ x
      there l = get_or-set_other cells (n + m) (n + j) v (pos 0) (λ q. omega arith) ∙ high j (omega arith)

-- ---- a sum as the machine keeps it

pub kept-sum : (x y v : ℤ) → nat_abs x + nat_abs y < 2 ^ 63 → v ≡ to_z w64 (of_z w64 x) +ℤ y → to_z w64 (of_z w64 v) ≡ x +ℤ y
kept-sum x y v h e =
    let f : v ≡ x +ℤ y = e ∙ ap (λ (z : ℤ). z +ℤ y) (back x (omega arith)) in
    back v (rw f (omega (arith, nat_abs_add x y))) ∙ f

-- ---- a loop over the places: the sums of n sets, those of the first t places, of count

pub sums_small : (b t n : ℕ) (x : ℕ → ℤ) (cells : List ℤ) → n ≡ 2 ^ t → t ≤ 10 → ((s : ℕ) → s < t → nat_abs (x s) ≤ b) → Sums t x cells
    → SmallCells (b * 10) n cells
sums_small b t n x cells e few h s m l = rw (s m (rw e at l)) (set-small b x m t few h)

pub record Summed (x : ℕ → ℤ) (cells : List ℤ) (t : ℕ) : Type 0 where
  pub length-is : length cells ≡ 1024
  pub sums : Sums t x cells

pub summed-start : (x : ℕ → ℤ) (cells : List ℤ) → length cells ≡ 1024 → cell_in_of cells 0 ≡ pos 0 → Summed x cells 0
summed-start x cells long e = record { length-is = long; sums = sums_start x cells e }

module _ (count : ℕ) (x : ℕ → ℤ) (cells : List ℤ) (n t : ℕ) (sets : n ≡ 2 ^ t) (s : Summed x cells t) (more : t < count) (few : count ≤ 10) where
  half : n ≤ 512
  half = rw sets (pow_mono {i = t} {j = 9} (omega arith))

  pub room-to_grow : ((u : ℕ) → u < count → nat_abs (x u) ≤ max_row) → (y : ℤ) → y ≡ x t
      → (n + n ≤ length cells) × (n ≤ 512) × (nat_abs y ≤ max_row) × SmallCells (max_row * 10) n cells
  room-to_grow small y e = (
    omega (arith, half, s.length-is),
    half,
    rw e (small t more),
    sums_small max_row t n x cells sets (omega arith) (λ u h. small u (omega arith)) s.sums,
  )

  pub summed-next : (y : ℤ) (new : List ℤ) → y ≡ x t → Grown n y cells new → Summed x new (t + 1)
  summed-next y new e g = record { length-is = g.length-kept ∙ s.length-is; sums = sums_grow t x n y cells new sets e s.sums g }

pub summed-end : (count : ℕ) (x : ℕ → ℤ) (cells : List ℤ) (t : ℕ) → Summed x cells t → t ≡ count → Sums count x cells × (length cells ≡ 1024)
summed-end count x cells t s all = (rw all at s.sums, s.length-is)

-- ---- a loop that fills

pub filled-start : (x : ℕ → ℤ) (cells : List ℤ) → Filled 0 x cells cells
filled-start x cells = record { length-kept = refl; each = λ s h. absurd (omega arith); sized = λ s h. absurd (omega arith) }

filled_next : (x : ℕ → ℤ) (t : ℕ) (v : ℤ) (old cells : List ℤ) → t < length cells → v ≡ x t → nat_abs v ≤ max_released → Filled t x old cells
    → Filled (t + 1) x old (set cells t v)
filled_next x t v old cells inside e small f =
    record { length-kept = length-set cells t v ∙ f.length-kept; each = λ s h. (by s h).0; sized = λ s h. (by s h).1 }
  where
    same : cell_in_of (set cells t v) t ≡ v
    same = get_or-set_same cells t v (pos 0) inside

    here : (s : ℕ) → suc s ≡ t + 1 → (cell_in_of (set cells t v) s ≡ x s) × (nat_abs (cell_in_of (set cells t v) s) ≤ max_released)
    here s q = let r : s ≡ t = omega arith in rw r (same ∙ e, rw same small)

    there : (s : ℕ) → suc s < t + 1 → (cell_in_of (set cells t v) s ≡ x s) × (nat_abs (cell_in_of (set cells t v) s) ≤ max_released)
    there s l = let o = get_or-set_other cells t s v (pos 0) (λ q. omega arith) in (o ∙ f.each s (omega arith), rw o (f.sized s (omega arith)))

    by : (s : ℕ) → s < t + 1 → (cell_in_of (set cells t v) s ≡ x s) × (nat_abs (cell_in_of (set cells t v) s) ≤ max_released)
    by s h = ⊎_elim (here s) (there s) (eq-or-lt_of_le h)

-- the same of a figure as the machine keeps it
pub filled-kept : (x : ℕ → ℤ) (t : ℕ) (y : ℤ) (old cells : List ℤ) → t < length cells → y ≡ x t → nat_abs y ≤ max_released → Filled t x old cells
    → Filled (t + 1) x old (set cells t (to_z w64 (of_z w64 y)))
filled-kept x t y old cells inside e small f =
    let same = back y (omega (arith, small)) in filled_next x t (to_z w64 (of_z w64 y)) old cells inside (same ∙ e) (rw same small) f

pub filled-end : (x : ℕ → ℤ) (t count : ℕ) (old cells : List ℤ) → t ≡ count → Filled t x old cells → Filled count x old cells
filled-end x t count old cells all f = rw all at f

-- ---- what is added

pub added-small : (b n : ℕ) (f g : ℕ → ℤ) (old new : List ℤ) → ((m : ℕ) → m < n → (f m ≡ g m) × (nat_abs (g m) ≤ b)) → Added n f old new
    → AddedSmall b n g old new
added-small b n f g old new same a =
    record {
      added = record { length-kept = a.length-kept; each = λ m h. a.each m h ∙ ap (λ (z : ℤ). cell_in_of old m +ℤ z) (same m h).0 };
      small = λ m h. (same m h).1;
    }

pub added_none : (b n : ℕ) (g : ℕ → ℤ) (old : List ℤ) → ((m : ℕ) → g m ≡ pos 0) → AddedSmall b n g old old
added_none b n g old none =
    record {
      added = record { length-kept = refl; each = λ m h. sym (ap (λ (z : ℤ). cell_in_of old m +ℤ z) (none m) ∙ +ℤ_idr (cell_in_of old m)) };
      small = λ m h. rw (none m) (omega arith);
    }

bit_cong : (x y : ℕ → ℤ) (m t : ℕ) → ((s : ℕ) → s < t → x s ≡ y s) → bit_sum x m t ≡ bit_sum y m t
unfolding bit_sum
bit_cong x y m t h = sum_to_cong t (λ s b. ap (λ (z : ℤ). cond (in_bit m s) z (pos 0)) (h s b))

-- ---- what a contract adds: an obligation its figures, an option its sums as they count, one of another period nothing

module _ (k : ℕ) (fs : List ℤ) (over : List ℕ) (count : ℕ) (t : Period) (c : Contract) where
  abbrev figure : ℕ → ℤ
  figure s = raw_in k fs c (get_or over s 0)

  -- its parts, where it is of the period and of kind d
  fixed_is : (b : Bool) (d : Kind) → same_period c.period t ≡ b → c.kind ≡ d → (s : ℕ) → fixed_in k fs over t c s ≡ cond b (fixed_part d (figure s)) (pos 0)
  fixed_is b d p e s = ap₂ (λ (x : Bool) (y : Kind). cond x (fixed_part y (figure s)) (pos 0)) p e

  option_is : (b : Bool) (d : Kind) → same_period c.period t ≡ b → c.kind ≡ d
      → (m : ℕ) → option_in k fs over count t c m ≡ cond b (option_part d (bit_sum figure m count)) (pos 0)
  option_is b d p e m = ap₂ (λ (x : Bool) (y : Kind). cond x (option_part y (bit_sum figure m count)) (pos 0)) p e

  pub no_obligation_of_another : (b : ℕ) (old : List ℤ) → same_period c.period t ≡ false → AddedSmall b count (fixed_in k fs over t c) old old
  no_obligation_of_another b old p = added_none b count (fixed_in k fs over t c) old (fixed_is false c.kind p refl)

  pub no_option_of_another : (b n : ℕ) (old : List ℤ) → same_period c.period t ≡ false → AddedSmall b n (option_in k fs over count t c) old old
  no_option_of_another b n old p = added_none b n (option_in k fs over count t c) old (option_is false c.kind p refl)

  module _ (p : same_period c.period t ≡ true) (empty figures : List ℤ) (f : Filled count figure empty figures) where
    figure-small : (s : ℕ) → s < count → nat_abs (figure s) ≤ max_released
    figure-small s h = rw (← (f.each s h)) (f.sized s h)

    pub obligation_added : c.kind ≡ Obligation → (old new : List ℤ) → Added count (λ (s : ℕ). counted Obligation (cell_in_of figures s)) old new
        → AddedSmall max_released count (fixed_in k fs over t c) old new
    obligation_added e old new =
        added-small max_released count (λ (s : ℕ). counted Obligation (cell_in_of figures s)) (fixed_in k fs over t c) old new
        (λ s h. (f.each s h ∙ sym (fixed_is true Obligation p e s), rw (fixed_is true Obligation p e s) (figure-small s h)))

    pub no_option : c.kind ≡ Obligation → (b n : ℕ) (old : List ℤ) → AddedSmall b n (option_in k fs over count t c) old old
    no_option e b n old = added_none b n (option_in k fs over count t c) old (option_is true Obligation p e)

    pub no_obligation : c.kind ≡ Option → (b : ℕ) (old : List ℤ) → AddedSmall b count (fixed_in k fs over t c) old old
    no_obligation e b old = added_none b count (fixed_in k fs over t c) old (fixed_is true Option p e)

    pub option_added : c.kind ≡ Option → (n : ℕ) (sums old new : List ℤ) → n ≡ 2 ^ count → count ≤ 10 → Sums count (cell_in_of figures) sums
        → Added n (λ (m : ℕ). counted Option (cell_in_of sums m)) old new → AddedSmall (max_released * 10) n (option_in k fs over count t c) old new
    option_added e n sums old new en few s =
        added-small (max_released * 10) n (λ (m : ℕ). counted Option (cell_in_of sums m)) (option_in k fs over count t c) old new
        (λ m h. (
          ap (counted Option) (s m (rw en at h) ∙ bit_cong (cell_in_of figures) figure m count f.each) ∙ sym (option_is true Option p e m),
          rw (option_is true Option p e m) (le_trans (counted-sized Option (bit_sum figure m count)) (set-small max_released figure m count few figure-small)),
        ))

-- ---- sums of which the first n are added as they count

pub front-ready : (n : ℕ) (sums costs : List ℤ) → n ≤ 1024 → length sums ≡ 1024 → length costs ≡ 1024 → SmallCells (max_row * 10) n sums
    → SmallCells (2 ^ 61) n costs → (length (take n sums) ≤ 1024) × (length (take n sums) ≤ length costs)
    × SmallCells (max_row * 10) (length (take n sums)) (take n sums) × SmallCells (2 ^ 61) (length (take n sums)) costs
front-ready n sums costs most ls lc s c =
    let long : length (take n sums) ≡ n = length-take-le n sums (omega (arith, most, ls)) in (
      rw long most,
      rw long (omega (arith, most, lc)),
      λ m h. let l : m < n = rw long at h in rw (get_or-take n sums m (pos 0) l) (s m l),
      λ m h. let l : m < n = rw long at h in c m l,
    )

pub front-added : (d : Kind) (n : ℕ) (sums old new : List ℤ) → n ≤ length sums
    → Added (length (take n sums)) (λ (m : ℕ). counted d (cell_in_of (take n sums) m)) old new → Added n (λ (m : ℕ). counted d (cell_in_of sums m)) old new
front-added d n sums old new h a =
    let long : length (take n sums) ≡ n = length-take-le n sums h in
    record {
      length-kept = a.length-kept;
      each = λ m l. a.each m (rw long l) ∙ ap (λ (z : ℤ). cell_in_of old m +ℤ counted d z) (get_or-take n sums m (pos 0) l);
    }

-- one contract more
sum_more : (A S x : ℤ) → A +ℤ S +ℤ x ≡ A +ℤ (S +ℤ x)
sum_more A S x = rw (⊖of A, ⊖of S, ⊖of x) (simp ⊖s (omega arith))

-- what the contracts below i have added
pub record Upto (b n : ℕ) (f : ℕ → ℕ → ℤ) (entry cells : List ℤ) (i : ℕ) : Type 0 where
  pub length-kept : length cells ≡ length entry
  pub each : (m : ℕ) → m < n → cell_in_of cells m ≡ cell_in_of entry m +ℤ sum_to i (λ (j : ℕ). f j m)
  pub sized : SmallCells (b * (i + 1)) n cells

module _ (b n : ℕ) (f : ℕ → ℕ → ℤ) (entry : List ℤ) where
  pub upto_start : SmallCells b n entry → Upto b n f entry entry 0
  unfolding sum_to
  upto_start small = record { length-kept = refl; each = λ m h. sym (+ℤ_idr (cell_in_of entry m)); sized = λ m h. rw (mul-one b) (small m h) }

  times_more : (i : ℕ) → b * (i + 1 + 1) ≡ b * (i + 1) + b
  times_more i = let s : i + 1 + 1 ≡ suc (i + 1) = omega arith in rw s (omega (arith, mul-suc b (i + 1)))

  pub upto_next : (i : ℕ) (old new : List ℤ) → Upto b n f entry old i → AddedSmall b n (f i) old new → Upto b n f entry new (i + 1)
  unfolding sum_to
  upto_next i old new so_far own =
      record {
        length-kept = own.added.length-kept ∙ so_far.length-kept;
        each = λ m h.
            own.added.each m h ∙ ap (λ (z : ℤ). z +ℤ f i m) (so_far.each m h) ∙ sum_more (cell_in_of entry m) (sum_to i (λ (j : ℕ). f j m)) (f i m)
            ∙ sym (ap (λ (x : ℕ). cell_in_of entry m +ℤ sum_to x (λ (j : ℕ). f j m)) (add-one i));
        sized = λ m h.
            rw (own.added.each m h) (omega (arith, times_more i, nat_abs_add (cell_in_of old m) (f i m), so_far.sized m h, own.small m h));
      }

  pub upto_end : (i total : ℕ) (cells : List ℤ) → i ≡ total → total ≤ 1000 → Upto b n f entry cells i
      → Added n (λ (m : ℕ). sum_to total (λ (j : ℕ). f j m)) entry cells × SmallCells (b * 1001) n cells
  upto_end i total cells e few u = (
    record { length-kept = u.length-kept; each = λ m h. u.each m h ∙ ap (λ (x : ℕ). cell_in_of entry m +ℤ sum_to x (λ (j : ℕ). f j m)) e },
    λ m h. le_trans (u.sized m h) (mul-le-mul_left b (omega arith)),
  )

-- ---- sums over sets of sums

none : (b : Bool) → cond b (pos 0) (pos 0) ≡ pos 0
none true = refl
none false = refl

bit_zero : (m t : ℕ) → bit_sum (λ (s : ℕ). pos 0) m t ≡ pos 0
unfolding bit_sum
bit_zero m t = sum_to_cong t (λ s b. none (in_bit m s)) ∙ sum_to_zero t

both : (b : Bool) (x y : ℤ) → cond b (x +ℤ y) (pos 0) ≡ cond b x (pos 0) +ℤ cond b y (pos 0)
both true x y = refl
both false x y = refl

bit_plus : (x y : ℕ → ℤ) (m t : ℕ) → bit_sum (λ (s : ℕ). x s +ℤ y s) m t ≡ bit_sum x m t +ℤ bit_sum y m t
unfolding bit_sum
bit_plus x y m t =
    sum_to_cong t (λ s b. both (in_bit m s) (x s) (y s))
    ∙ sum_to_plus t (λ (s : ℕ). cond (in_bit m s) (x s) (pos 0)) (λ (s : ℕ). cond (in_bit m s) (y s) (pos 0))

bit_swap : (n : ℕ) (f : ℕ → ℕ → ℤ) (m t : ℕ) → bit_sum (λ (s : ℕ). sum_to n (λ (j : ℕ). f j s)) m t ≡ sum_to n (λ (j : ℕ). bit_sum (f j) m t)
unfolding sum_to
bit_swap zero f m t = bit_zero m t
bit_swap (suc n) f m t = bit_plus (λ (s : ℕ). sum_to n (λ (j : ℕ). f j s)) (f n) m t ∙ ap (λ (z : ℤ). z +ℤ bit_sum (f n) m t) (bit_swap n f m t)

-- an obligation's figures summed over a set, and what an option counts on it, are what the contract counts
in_kind : (d : Kind) (x : ℕ → ℤ) (m t : ℕ) → bit_sum (λ (s : ℕ). fixed_part d (x s)) m t +ℤ option_part d (bit_sum x m t) ≡ counted d (bit_sum x m t)
in_kind Obligation x m t = +ℤ_idr (bit_sum x m t)
in_kind Option x m t = ap (λ (z : ℤ). z +ℤ counted Option (bit_sum x m t)) (bit_zero m t) ∙ +ℤ_idl (counted Option (bit_sum x m t))

in_period : (b : Bool) (d : Kind) (x : ℕ → ℤ) (m t : ℕ)
    → bit_sum (λ (s : ℕ). cond b (fixed_part d (x s)) (pos 0)) m t +ℤ cond b (option_part d (bit_sum x m t)) (pos 0) ≡ cond b (counted d (bit_sum x m t)) (pos 0)
in_period true d x m t = in_kind d x m t
in_period false d x m t = ap (λ (z : ℤ). z +ℤ pos 0) (bit_zero m t)

-- ---- what the sums mean: the contracts of the period, by the grid's factors and limits

pub cell_of : (n k : ℕ) (fs : List ℤ) (s j : ℕ) → s < n → j < k → get_or fs (s * k + j) (pos 0) ≡ factor (factors_of n k fs) s j
cell_of n k fs s j hs hj = sym (get_or-take (n * k) fs (s * k + j) (pos 0) (place-in n k s j hs hj))

module _ (n k : ℕ) (ls : List ℕ) (fs : List ℤ) (process : Process) (t : Period) (book : List ℕ) (over : List ℕ) (count : ℕ) (chosen : Chosen k count over)
    (ok : (i : ℕ) → i < contract_count_in book → InRange n (contract_at book i)) (m : ℕ) where
  abbrev g : Grid
  g = grid_of n k ls fs

  abbrev cs : List Contract
  cs = of_period t (book_in book)

  raw_is : (c : Contract) → InRange n c → (j : ℕ) → j < k → raw_in k fs c j ≡ raw_of g process cs over count c j
  raw_is c h j b = ap₂ (λ (x y : ℤ). (x -ℤ y) *ℤ pos c.quantity.0) (cell_of n k fs c.source j h.source-below b) (cell_of n k fs c.sink j h.sink-below b)

  abbrev raw : ℕ → ℕ → ℤ
  raw i s = raw_in k fs (contract_at book i) (get_or over s 0)

  book-is : sum_to (contract_count_in book)
      (λ (i : ℕ). cond (same_period (contract_at book i).period t) (counted (contract_at book i).kind (bit_sum (raw i) m count)) (pos 0))
      ≡ sum_over_of cs (λ (c : Contract). counted c.kind (bit_sum (λ (s : ℕ). raw_of g process cs over count c (get_or over s 0)) m count))
  book-is =
      sym (period-sum t (contract_count_in book) (contract_at book)
      (λ (c : Contract). counted c.kind (bit_sum (λ (s : ℕ). raw_of g process cs over count c (get_or over s 0)) m count)) _
      (λ i b. ap (λ (z : ℤ). cond (same_period (contract_at book i).period t) z (pos 0)) (ap (counted (contract_at book i).kind)
      (bit_cong (raw i) (λ (s : ℕ). raw_of g process cs over count (contract_at book i) (get_or over s 0)) m count
      (λ s h. raw_is (contract_at book i) (ok i b) (get_or over s 0) (chosen.each s h))))))

  -- obligations by constraint and options by set are the whole book
  together : bit_sum (book_fixed k fs over t book) m count +ℤ book_options k fs over count t book m
      ≡ sum_over_of cs (λ (c : Contract). counted c.kind (bit_sum (λ (s : ℕ). raw_of g process cs over count c (get_or over s 0)) m count))
  together =
      ap (λ (z : ℤ). z +ℤ book_options k fs over count t book m) (bit_swap (contract_count_in book) (λ (i s : ℕ). fixed_in k fs over t (contract_at book i) s) m count)
      ∙ sym (sum_to_plus (contract_count_in book) (λ (i : ℕ). bit_sum (fixed_in k fs over t (contract_at book i)) m count)
      (λ (i : ℕ). option_in k fs over count t (contract_at book i) m))
      ∙ sum_to_cong (contract_count_in book) (λ i b. in_period (same_period (contract_at book i).period t) (contract_at book i).kind (raw i) m count)
      ∙ book-is

  due_is : bit_sum (λ (s : ℕ). due_in ls process (get_or over s 0)) m count ≡ bit_sum (λ (s : ℕ). pos 0 -ℤ pos (released (take k ls) process (get_or over s 0))) m count
  unfolding released
  due_is =
      bit_cong (λ (s : ℕ). due_in ls process (get_or over s 0)) (λ (s : ℕ). pos 0 -ℤ pos (released (take k ls) process (get_or over s 0))) m count
      (λ s h. ap (λ (x : ℕ). pos 0 -ℤ pos (x * percent process * 1000)) (sym (get_or-take k ls (get_or over s 0) 0 (chosen.each s h))))

  swapped : (O D F : ℤ) → pos 0 +ℤ O +ℤ (D +ℤ F) ≡ F +ℤ O +ℤ D
  swapped O D F = rw (⊖of O, ⊖of D, ⊖of F) (simp ⊖s (omega arith))

  pub unit_is : (first row : ℕ → ℤ) (zero' sum mid after : ℤ) → ((s : ℕ) → s < count → first s ≡ due_in ls process (get_or over s 0))
      → ((s : ℕ) → s < count → row s ≡ first s +ℤ book_fixed k fs over t book s) → zero' ≡ pos 0 → mid ≡ zero' +ℤ book_options k fs over count t book m
      → sum ≡ bit_sum row m count → after ≡ mid +ℤ sum → after ≡ unit_cost g process cs over count m
  unfolding unit_cost
  unit_is first row zero' sum mid after d r z o b e =
      let due : ℕ → ℤ = λ s. due_in ls process (get_or over s 0) in
      let fixed = book_fixed k fs over t book in
      let options = book_options k fs over count t book m in
      let whole : sum ≡ bit_sum due m count +ℤ bit_sum fixed m count =
      b ∙ bit_cong row (λ (s : ℕ). due s +ℤ fixed s) m count (λ s h. r s h ∙ ap (λ (x : ℤ). x +ℤ fixed s) (d s h)) ∙ bit_plus due fixed m count in
      e ∙ ap₂ ◌+ℤ◌ (o ∙ ap (λ (x : ℤ). x +ℤ options) z) whole ∙ swapped options (bit_sum due m count) (bit_sum fixed m count) ∙ ap₂ ◌+ℤ◌ together due_is
