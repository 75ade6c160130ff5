-- What holds where no check of the grid file's reader or writer refuses.
use mathlib.Core.Path.{◌≡◌, refl, sym, ap, ap₂, ◌∙◌}
use mathlib.Core.Bool.{false}
use mathlib.Core.List.{List, [], ◌∷◌, ◌++◌}
use Prim.Native.Nat.{ℕ, zero, suc, ◌+◌, ◌-◌, ◌*◌, ◌^◌, ◌≤◌, ◌<◌}
use native.Mathlib.Nat.{mul-zero}
use native.Mathlib.Omega.{arith}
use borrow.Author.Tests.{ltb-false, le-ltb}
use lib.Dec.{ltb, eqb}
use lib.ListN.{length, get_or, take}
use lib.IntN.{ℤ, pos}
use lib.Signed.{mag}
use lib.Pow.{pow_pos}
use lib.Seq.{get_or-take, length-take-le}
use Rattle.lists.proofs.Lists.{every_cell}
use Rattle.lists.proofs.Search.{neither}
use Rattle.bits.specs.Bits.{field, fields}
use Rattle.bits.proofs.Files.{length-file}
use Rattle.tariff.specs.Refusals.{Checked, passed}
use Rattle.std.specs.Prelude.{Ok, Err}
use Rattle.tariff.specs.Units.{grid_of, max_nodes, max_limit}
use Rattle.tariff.specs.Refusals.{Check, first, decided}
use Rattle.tariff.specs.Checks.{node_count, nodes_outside_of, constraint_count, limit_range, factor_range, short_table}
use Rattle.tariff.proofs.Checks.{passed_cons, first-append, first_passes, passed_append, nodes-within, same_of}
use Rattle.grid_tables.specs.TableChecks.{grid_table_checks}
use Rattle.grid_tables.proofs.Factors.{count_fits}
use Rattle.grid_tables.proofs.Cells.{cut-sized}
use Rattle.grid_tables.proofs.Passing.{passed_all, grid-tables}
use Rattle.layouts.specs.declared.forms.Form.{Form}
use Rattle.layouts.specs.declared.forms.Form.TheVariants.{Narrow, Wide}
use Rattle.layouts.specs.Forms.{grid_header_bytes_of, grid_header_bits_of, grid_spare_of, most_nodes_of}
use Rattle.layouts.specs.GridFile.{limit_width, factor_width, bits_behind, grid_bytes, grid_fields, grid_file}
use Rattle.layouts.specs.GridFile.{grid_form_in, header_in, nodes_of, nodes_in, constraints_in_of, grid_spare_in, limits_from, factors_from, limits_in, factors_in, grid_pad_in}
use Rattle.layouts.proofs.FormLaws.{header-whole, header-most, nodes-most}
use Rattle.layouts.proofs.GridHeader.{most-nodes_fit}
use Rattle.layouts.proofs.GridFile.{GridFits, total-grid}
use Rattle.grid_rules.specs.ReadGrid.{ReadGridCall, grid_size_checks, grid_figure_checks, grid_file_checks, read_grid_checks, read_grid_checked}
use Rattle.grid_rules.specs.WriteGrid.{WriteGridCall, write_grid_checks, write_grid_checked}
use Rattle.grid_rules.specs.Inner.{Counted, Writable, most_header, most_bytes, factors_at}
use Rattle.grid_rules.proofs.Factors.{small-mag, cell_small}

-- ---- a file that is read

pub short-header : (f : Form) → grid_header_bits_of f ≤ most_header
short-header f = omega (arith, header-whole f, header-most f)

pub short-file : (s : List ℕ) (h n k : ℕ) → Counted s h n k → length s ≤ most_bytes
short-file s h n k c = omega (arith, c.size, c.short, count_fits n k c.good.nodes-few c.good.few)

header-least : (f : Form) → 16 ≤ grid_header_bits_of f
header-least Narrow = omega arith
header-least Wide = omega arith

some_constraint : (n k i : ℕ) → i < n * k → 1 ≤ k
some_constraint n zero i h = absurd (omega (arith, mul-zero n))
some_constraint n (suc k) i h = omega arith

-- its parts, by its counts
module _ (s : List ℕ) (h n k : ℕ) (c : Counted s h n k) where
  pub limits-are : fields s h limit_width k ≡ limits_in s
  unfolding limits_from
  limits-are = ap₂ (λ (o x : ℕ). fields s o limit_width x) c.header c.constraints

  pub factors-are : factors_from s h n k ≡ factors_in s
  factors-are = ap (λ (o : ℕ). factors_from s o n k) c.header ∙ ap₂ (factors_from s (header_in s)) c.nodes c.constraints

  -- where there is a factor, a limit and the header stand before it
  pub late_factors : (i : ℕ) → i < n * k → 39 ≤ h + limit_width * k
  late_factors i few = omega (arith, some_constraint n k i few, c.header, header-least (grid_form_in s))

  pub run_is : (m : ℕ) → m ≡ n * k → factors_at s (h + limit_width * k) m ≡ factors_in s
  unfolding factors_from
  run_is m e = ap (factors_at s (h + limit_width * k)) e ∙ factors-are

  pub pad_is : (u : ℕ) → u ≡ bits_behind h n k → field s u (8 * length s - u) ≡ grid_pad_in s
  pad_is u e = rw (c.size, e, c.header, c.nodes, c.constraints)

-- where its checks up to the length pass
pub record Sized (s : List ℕ) : Type 0 where
  pub header-there : grid_header_bytes_of (grid_form_in s) ≤ length s
  pub nodes-fit : nodes_in s ≤ most_nodes_of (grid_form_in s)
  pub counted : Counted s (header_in s) (nodes_in s) (constraints_in_of s)
  pub spare : grid_spare_in s ≡ grid_spare_of (grid_form_in s)

pub sized : (s : List ℕ) → first (grid_size_checks s) ≡ passed → Sized s
unfolding grid_size_checks
sized s e =
    let one = passed_cons _ _ e in
    let two = passed_cons _ _ one.1 in
    let three = passed_cons _ _ two.1 in
    let four = passed_cons _ _ three.1 in
    let five = passed_cons _ _ four.1 in
    let nodes = nodes-within (most_nodes_of (grid_form_in s)) (nodes_in s) two.0 in
    record {
      header-there = ltb-false _ _ one.0;
      nodes-fit = nodes;
      counted = record {
        header = refl;
        short = short-header (grid_form_in s);
        nodes = refl;
        constraints = refl;
        good = record { nodes-few = omega (arith, nodes, nodes-most (grid_form_in s)); few = ltb-false _ _ three.0 };
        size = same_of _ _ five.0;
      };
      spare = same_of _ _ four.0;
    }

-- the same by what was found
pub counted-by : (s : List ℕ) (f : Form) (h n k : ℕ) → f ≡ grid_form_in s → h ≡ grid_header_bits_of f → n ≡ nodes_of f s → k ≡ constraints_in_of s → Sized s → Counted s h n k
counted-by s f h n k form header nodes constraints z = rw (header, nodes, constraints, form) z.counted

pub record Readable (q : ReadGridCall) : Type 0 where
  pub file-sized : Sized q.file
  pub pad : grid_pad_in q.file ≡ 0
  pub limit-room : constraints_in_of q.file ≤ length q.limits
  pub factor-room : nodes_in q.file * constraints_in_of q.file ≤ length q.factors

pub readable : (q : ReadGridCall) → read_grid_checked q ≡ passed → Readable q
unfolding grid_file_checks grid_figure_checks read_grid_checks
readable q e =
    let own = passed_append (grid_file_checks q.file) _ e in
    let parts = passed_append (grid_size_checks q.file) _ own.0 in
    let room = passed_all _ own.1 in
    record {
      file-sized = sized q.file parts.0;
      pad = same_of _ _ (passed_all _ parts.1).1.1.0;
      limit-room = ltb-false _ _ room.0;
      factor-room = ltb-false _ _ room.1.0;
    }

-- ---- a grid that is written

-- the writer's checks are the node count's by the form, those of the tables, with a process and a period that pass, and then the room's
module _ (q : WriteGridCall) where
  abbrev pub table_checks : List Check
  table_checks = grid_table_checks q.nodes q.constraints 0 0 q.limits q.factors

  abbrev pub count_check : Check
  count_check = nodes_outside_of (most_nodes_of q.form) q.nodes

  abbrev pub room_check : Check
  room_check = short_table (length q.place) (grid_bytes q.form q.nodes q.constraints)

  -- a count that the form takes is one that the tables' checks take
  count-passes : count_check.fails ≡ false → (node_count q.nodes).fails ≡ false
  count-passes e =
      let some = (neither (eqb q.nodes 0) (ltb (most_nodes_of q.form) q.nodes) e).0 in
      rw (some, le-ltb max_nodes q.nodes (omega (arith, nodes-within (most_nodes_of q.form) q.nodes e, nodes-most q.form)))

  abbrev behind_count : List Check
  behind_count =
      constraint_count q.constraints
      ∷ short_table (length q.limits) q.constraints
      ∷ short_table (length q.factors) (q.nodes * q.constraints)
      ∷ limit_range (take q.constraints q.limits)
      ∷ factor_range (take (q.nodes * q.constraints) q.factors)
      ∷ room_check
      ∷ []

  tables-then_room : first (table_checks ++ room_check ∷ []) ≡ first (node_count q.nodes ∷ behind_count)
  unfolding first grid_table_checks
  tables-then_room = refl

  same_checks : count_check.fails ≡ false → write_grid_checked q ≡ first (table_checks ++ room_check ∷ [])
  unfolding write_grid_checks
  same_checks few =
      first_passes count_check behind_count few ∙ sym (first_passes (node_count q.nodes) behind_count (count-passes few)) ∙ sym tables-then_room

  pub write_checks : count_check.fails ≡ false → (x : Checked) → first table_checks ≡ x → write_grid_checked q ≡ decided x Err (first (room_check ∷ []))
  write_checks few x e =
      same_checks few ∙ first-append table_checks (room_check ∷ []) ∙ ap (λ (y : Checked). decided y Err (first (room_check ∷ []))) e

  pub writable : write_grid_checked q ≡ passed → Writable q.form q.nodes q.constraints q.limits q.factors q.place
  unfolding write_grid_checks
  writable e =
      let few = (passed_cons _ _ e).0 in
      let both = passed_append table_checks (room_check ∷ []) (sym (same_checks few) ∙ e) in
      let t = grid-tables q.nodes q.constraints 0 0 q.limits q.factors both.0 in
      record {
        nodes-fit = nodes-within (most_nodes_of q.form) q.nodes few;
        good-limits = t.good-limits;
        good-factors = t.good-factors;
        room = ltb-false _ _ (passed_cons room_check [] both.1).0;
      }

module _ (f : Form) (n k : ℕ) (limits : List ℕ) (factors : List ℤ) (place : List ℕ) (w : Writable f n k limits factors place) where
  abbrev ls : List ℕ
  ls = take k limits

  abbrev fs : List ℤ
  fs = take (n * k) factors

  one_limit : length ls ≡ k
  one_limit = length-take-le k limits w.good-limits.long

  one_factor : length fs ≡ n * k
  one_factor = length-take-le (n * k) factors w.good-factors.long

  -- its figures fit their fields
  pub written-fits : GridFits f n k (take k limits) (take (n * k) factors)
  written-fits =
      record {
        nodes-fit = most-nodes_fit f n w.nodes-fit;
        constraints-fit = omega (arith, w.good-factors.few);
        body_fits = record {
          one_limit_each = one_limit;
          one_factor_each = one_factor;
          limits-fit = every_cell (λ v. v < 2 ^ limit_width) ls 0 (pow_pos limit_width) (λ i h. omega (arith, cut-sized max_limit k limits w.good-limits i (rw one_limit at h)));
          factors-fit = every_cell (λ z. mag z < 2 ^ (factor_width - 1)) fs (pos 0) (pow_pos (factor_width - 1)) small;
        };
      }
    where
      small : (i : ℕ) → i < length fs → mag (get_or fs i (pos 0)) < 2 ^ (factor_width - 1)
      small i h =
          let l : i < n * k = rw one_factor at h in
          rw (get_or-take (n * k) factors i (pos 0) l) (small-mag (get_or factors i (pos 0)) (cell_small n k factors w.good-factors i l))

  pub length-written : length (grid_file f (grid_of n k limits factors)) ≡ grid_bytes f n k
  unfolding grid_file
  length-written = length-file (grid_fields f n k ls fs) (grid_bytes f n k) (total-grid f n k ls fs written-fits)
