-- Those who gain of a loser, cell by cell of its row, and that each makes a pair where the least share is not nought.
use mathlib.Core.Path.{◌≡◌, refl, sym, ap, ◌∙◌, subst}
use mathlib.Core.Bool.{Bool, true, false, cond}
use mathlib.Core.List.{List}
use mathlib.Core.Logic.{⊎_elim}
use Prim.Native.Nat.{ℕ, zero, suc, ◌+◌, ◌-◌, ◌*◌, ◌/◌, ◌≤◌, ◌<◌}
use native.Mathlib.Nat.{eq-or-lt_of_le, lt_irrefl, mul-le-mul_left, div-lt_iff_lt-mul}
use native.Mathlib.Numerals.{add-one}
use native.Mathlib.Omega.{arith}
use borrow.Author.Tests.{eq-eqb, ne_eqb, eqb-false, ltb-true, ltb-false}
use lib.Dec.{eqb, ltb}
use lib.ListN.{length, get_or, set}
use lib.Seq.{get_or-set_same, get_or-set_other}
use lib.IntN.{nat_abs}
use Rattle.integers.specs.Sums.{max0}
use Rattle.tariff.specs.declared.contracts.Contract.{Contract}
use Rattle.tariff.specs.declared.units.Transfer.{Transfer}
use Rattle.migration_rules.specs.Transfers.{load}
use Rattle.migration_rules.specs.ContractRules.{gainer_share, pairs_to}
use Rattle.migration_transfers.specs.Squares.{no_transfer, of_net, row_losses}
use Rattle.migration_transfers.specs.Inner.{max_net}
use Rattle.migration_shares.specs.Inner.{NetReady, Held}
use Rattle.migration_pairs.specs.declared.Gainers.{Gainers}
use Rattle.migration_pairs.specs.Inner.{RowReady, lost_at, gainers_to, least_of, GainersOf, no_gainers_of}
use Rattle.migration_pairs.proofs.Pairs.{no_pairs, length_more, pair_length}

-- ---- one cell more

pub no_gainers : (row : List Transfer) → GainersOf row 0 no_gainers_of
unfolding gainers_to
no_gainers row =
    record {
      count-is = refl;
      few = omega arith;
      size = omega arith;
      none = λ e j h. absurd (omega arith);
      low = λ j h l. absurd (omega arith);
      within = λ B h. omega arith;
    }

gainers_same : (row : List Transfer) (m : ℕ) → lost_at row m ≡ 0 → gainers_to row (m + 1) ≡ gainers_to row m
unfolding gainers_to
gainers_same row m e = rw (add-one m, eq-eqb (lost_at row m) 0 e) (omega arith)

gainers_one : (row : List Transfer) (m : ℕ) → (lost_at row m ≡ 0 → ⊥) → gainers_to row (m + 1) ≡ gainers_to row m + 1
unfolding gainers_to
gainers_one row m e = rw (add-one m, ne_eqb (lost_at row m) 0 e)

module _ (row : List Transfer) (m : ℕ) (g : Gainers) (G : GainersOf row m g) where
  -- what holds of each cell before m, and of cell m
  each : (P : ℕ → Type 0) → ((j : ℕ) → j < m → P j) → P m → (j : ℕ) → j < m + 1 → P j
  each P f x j h = ⊎_elim (λ e. rw e x) (λ l. f j l) (eq-or-lt_of_le {n = j} {m = m} (omega arith))

  pub gains_none : lost_at row m ≡ 0 → GainersOf row (m + 1) g
  gains_none e =
      record {
        count-is = G.count-is ∙ sym (gainers_same row m e);
        few = omega (arith, G.few);
        size = G.size;
        none = λ z. each (λ j. lost_at row j ≡ 0) (G.none z) e;
        low = each (λ j. (lost_at row j ≡ 0 → ⊥) → least_of g ≤ lost_at row j) G.low (λ l. absurd (l e));
        within = λ B h. G.within B (λ j l. h j (omega arith));
      }

  -- a gainer whose net is not above that of any before it
  pub gains_new : (net : Transfer) → get_or row m no_transfer ≡ net → nat_abs net.0 ≤ max_net → (lost_at row m ≡ 0 → ⊥)
      → ((j : ℕ) → j < m → (lost_at row j ≡ 0 → ⊥) → lost_at row m ≤ lost_at row j) → GainersOf row (m + 1) (record { count = g.count + 1; least = net })
  gains_new net is size some low =
      let same : nat_abs (max0 net.0) ≡ lost_at row m = rw is in
      record {
        count-is = omega (arith, G.count-is, gainers_one row m some);
        few = omega (arith, G.few);
        size = size;
        none = λ z. absurd (some (sym same ∙ z));
        low = each (λ j. (lost_at row j ≡ 0 → ⊥) → nat_abs (max0 net.0) ≤ lost_at row j) (λ j h l. omega (arith, same, low j h l)) (λ l. omega (arith, same));
        within = λ B h. omega (arith, same, h m (omega arith));
      }

  -- one whose net is not below the least
  pub gains_kept : (lost_at row m ≡ 0 → ⊥) → (least_of g ≡ 0 → ⊥) → least_of g ≤ lost_at row m
      → GainersOf row (m + 1) (record { count = g.count + 1; least = g.least })
  gains_kept some had least =
      record {
        count-is = omega (arith, G.count-is, gainers_one row m some);
        few = omega (arith, G.few);
        size = G.size;
        none = λ z. absurd (had z);
        low = each (λ j. (lost_at row j ≡ 0 → ⊥) → least_of g ≤ lost_at row j) G.low (λ l. least);
        within = λ B h. G.within B (λ j l. h j (omega arith));
      }

-- one loser more is stored
pub loser_stored : (P : ℕ → Gainers → Type 0) (xs : List Gainers) (j : ℕ) (x d : Gainers) → j < length xs → P j x → ((i : ℕ) → i < j → P i (get_or xs i d))
    → (i : ℕ) → i < j + 1 → P i (get_or (set xs j x) i d)
loser_stored P xs j x d long new old i h = by (ltb i j) refl
  where
    by : (b : Bool) → ltb i j ≡ b → P i (get_or (set xs j x) i d)
    by true e = let b = ltb-true i j e in rw (get_or-set_other xs j i x d (λ q. lt_irrefl i (subst (λ (m : ℕ). i < m) (sym q) b))) (old i b)
    by false e = let q : i ≡ j = omega (arith, ltb-false i j e) in rw q (rw (get_or-set_same xs j x d long) new)

-- ---- a share that is not nought, and that of a larger loss

share-larger : (q whole a b : ℕ) → a ≤ whole → (a ≡ 0 → ⊥) → a ≤ b → (q * a / whole ≡ 0 → ⊥) → q * b / whole ≡ 0 → ⊥
share-larger q whole a b most some h more e =
    let positive : 0 < whole = omega arith in
    let below = (div-lt_iff_lt-mul {k = whole} {x = q * b} {y = 1} positive).0 (omega (arith, e)) in
    more (omega (arith, (div-lt_iff_lt-mul {k = whole} {x = q * a} {y = 1} positive).1 (omega (arith, below, mul-le-mul_left q h))))

-- ---- by the holder's row

module _ (row : List Transfer) (loads : List ℕ) (c : Contract) (g : Gainers)
    (ready : RowReady row loads c) (held : Held loads c) (G : GainersOf row (length loads) g) where
  pub least-ready : NetReady g.least.0 loads c
  least-ready =
      record {
        size = G.size;
        most = ready.most (c.holder - 1) (omega (arith, held.numbered, held.listed));
        losses =
            G.within (load loads c.holder) (λ j h. let place : suc j - 1 ≡ j = omega arith in
            rw place at (ready.losses held.numbered held.listed (suc j) (omega arith) (omega arith)));
      }

  module _ (s : ℕ) (is : s ≡ gainer_share (of_net g.least.0) loads c 1) (some : s ≡ 0 → ⊥) where
    least-some : least_of g ≡ 0 → ⊥
    unfolding gainer_share
    least-some e = some (is ∙ rw (eq-eqb (least_of g) 0 e))

    least-share : c.quantity.0 * least_of g / load loads c.holder ≡ 0 → ⊥
    unfolding gainer_share
    least-share e = some (is ∙ rw (ne_eqb (least_of g) 0 least-some) e)

    one_gainer : (m : ℕ) → m < length loads → cond (eqb (gainer_share (row_losses row) loads c (suc m)) 0) 0 2 ≡ cond (eqb (lost_at row m) 0) 0 1 * 2
    unfolding gainer_share
    one_gainer m h = by (eqb (lost_at row m) 0) refl
      where
        place : suc m - 1 ≡ m
        place = omega arith

        by : (b : Bool) → eqb (lost_at row m) 0 ≡ b
            → cond (eqb (cond (eqb (lost_at row (suc m - 1)) 0) 0 (c.quantity.0 * lost_at row (suc m - 1) / load loads c.holder)) 0) 0 2 ≡ cond b 0 1 * 2
        by true e = rw (place, e)
        by false e =
            let any = eqb-false (lost_at row m) 0 e in
            let whole = load loads c.holder in
            let share = share-larger c.quantity.0 whole (least_of g) (lost_at row m) least-ready.losses least-some (G.low m h any) least-share in
            rw (place, e, ne_eqb _ 0 share)

    pub all-gain : (m : ℕ) → m ≤ length loads → length (pairs_to (row_losses row) loads c m) ≡ gainers_to row m * 2
    unfolding gainers_to
    all-gain zero h = ap length (no_pairs (row_losses row) loads c)
    all-gain (suc m) h =
        let q = gainer_share (row_losses row) loads c (suc m) in
        omega (arith, all-gain m (omega arith), length_more (row_losses row) loads c m q refl, pair_length c (suc m) q, one_gainer m (omega arith))

    pub pairs-are : g.count * 2 ≡ length (pairs_to (row_losses row) loads c (length loads))
    pairs-are = omega (arith, G.count-is, all-gain (length loads) (omega arith))
