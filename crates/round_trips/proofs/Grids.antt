-- The grid's file there and back.
use mathlib.Core.Path.{◌≡◌, sym, ap, ◌∙◌}
use mathlib.Core.List.{List, [], ◌∷◌}
use Prim.Native.Nat.{ℕ, ◌*◌, ◌≤◌}
use native.Mathlib.Omega.{arith}
use borrow.Author.Tests.{le-ltb}
use lib.ListN.{length, take}
use lib.IntN.{ℤ, pos}
use Rattle.bits.proofs.Bytes.{bytes_below}
use Rattle.lists.specs.Lent.{overwrite}
use Rattle.lists.proofs.Fronts.{front-is, front-room}
use Rattle.std.specs.Prelude.{Ok, Err}
use Rattle.tariff.specs.Refusals.{passed}
use Rattle.tariff.proofs.Checks.{first_passes, last-passes, passed_cons}
use Rattle.tariff.proofs.Answers.{never_given, given-told}
use Rattle.layouts.specs.Writing.{WriteAnswer}
use Rattle.layouts.specs.declared.forms.Form.{Form}
use Rattle.layouts.specs.Forms.{form_number, form_of}
use Rattle.layouts.specs.GridFile.{grid_bytes, grid_file, grid_form_in, header_in, nodes_in, constraints_in_of, limits_in, factors_in, grid_in}
use Rattle.layouts.specs.Writing.{IsWritten}
use Rattle.layouts.proofs.FormLaws.{form-of_number}
use Rattle.layouts.proofs.GridFile.{length-limits, length-factors}
use Rattle.layouts.proofs.Writing.{writes_passed, writes_told}
use Rattle.grid_rules.specs.ReadGrid.{GridAnswer, grid_read}
use Rattle.grid_rules.specs.ReadGrid.{grid_size_checks, grid_figure_checks, grid_file_checks, read_grid_checks, read_grid_checked}
use Rattle.grid_rules.specs.ReadGrid.{read_grid_call, grid_outcome, grid_values, ReadsGrid}
use Rattle.grid_rules.specs.WriteGrid.{write_grid_call, write_grid_checks, write_grid_checked, grid_written, WritesGrid}
use Rattle.grid_rules.proofs.Passing.{readable}
use Rattle.grid_rules.proofs.Taken.{grid-taken}
use Rattle.grid_rules.proofs.RoundTrip.{ReadBack, read_then_written, written-then_read}
use Rattle.bits.specs.Bits.{Bytes}
use Rattle.round_trips.specs.Trips.{GridIs}

-- a form is told by its number
pub same_form : (f g : Form) → form_number f ≡ form_number g → f ≡ g
same_form f g e = sym (form-of_number f) ∙ ap form_of e ∙ form-of_number g

-- ---- read, then written

module _ (s : List ℕ) (ls₀ : List ℕ) (fs₀ : List ℤ) (bytes : Bytes s) (accepts : read_grid_checked (read_grid_call s ls₀ fs₀) ≡ passed) (place : List ℕ)
    (room : length s ≤ length place) where
  abbrev F : Form
  F = grid_form_in s

  abbrev N : ℕ
  N = nodes_in s

  abbrev K : ℕ
  K = constraints_in_of s

  -- each check of the writer is one that the reader made, or is settled by what was read
  accepted : write_grid_checked (write_grid_call F N K (overwrite (limits_in s) ls₀) (overwrite (factors_in s) fs₀) place) ≡ passed
  unfolding grid_size_checks grid_figure_checks grid_file_checks read_grid_checks write_grid_checks
  accepted =
      let size = (readable (read_grid_call s ls₀ fs₀) accepts).file-sized.counted.size in
      let two = passed_cons _ _ (passed_cons _ _ accepts).1 in
      let three = passed_cons _ _ two.1 in
      let six = passed_cons _ _ (passed_cons _ _ (passed_cons _ _ three.1).1).1 in
      let seven = passed_cons _ _ six.1 in
      first_passes _ _ two.0
      ∙ first_passes _ _ three.0
      ∙ first_passes _ _ (le-ltb _ _ (front-room (limits_in s) ls₀ K (length-limits s (header_in s) N K)))
      ∙ first_passes _ _ (le-ltb _ _ (front-room (factors_in s) fs₀ (N * K) (length-factors s (header_in s) N K)))
      ∙ first_passes _ _ (rw (front-is (limits_in s) ls₀ K (length-limits s (header_in s) N K)) six.0)
      ∙ first_passes _ _ (rw (front-is (factors_in s) fs₀ (N * K) (length-factors s (header_in s) N K)) seven.0)
      ∙ last-passes _ (le-ltb (length place) (grid_bytes F N K) (omega (arith, size)))

module _ (s : List ℕ) (ls₀ : List ℕ) (fs₀ : List ℤ) (bytes : Bytes s) (n k : ℕ) (f : Form) (ls : List ℕ) (fs : List ℤ)
    (h : ReadsGrid (read_grid_call s ls₀ fs₀) (grid_read n k f) ls fs)
    (place : List ℕ) (room : length s ≤ length place) where
  told : (read_grid_checked (read_grid_call s ls₀ fs₀) ≡ passed) × (pos n ∷ pos k ∷ pos (form_number f) ∷ [] ≡ grid_values (read_grid_call s ls₀ fs₀))
  told = given-told (read_grid_checked (read_grid_call s ls₀ fs₀)) (grid_values (read_grid_call s ls₀ fs₀)) (pos n ∷ pos k ∷ pos (form_number f) ∷ []) h.values-given

  counts : (n ≡ nodes_in s) × (k ≡ constraints_in_of s) × (f ≡ grid_form_in s)
  counts =
      let q : pos n ∷ pos k ∷ pos (form_number f) ∷ [] ≡ pos (nodes_in s) ∷ pos (constraints_in_of s) ∷ pos (form_number (grid_form_in s)) ∷ [] = told.1 in
      let number : form_number f ≡ form_number (grid_form_in s) = cc in
      (cc, cc, same_form f (grid_form_in s) number)

  passes : write_grid_checked (write_grid_call f n k ls fs place) ≡ passed
  passes =
      let limits : ls ≡ overwrite (limits_in s) ls₀ = rw told.0 at h.limits-read in
      let factors : fs ≡ overwrite (factors_in s) fs₀ = rw told.0 at h.factors-read in
      rw (counts.0, counts.1, counts.2, limits, factors) (accepted s ls₀ fs₀ bytes told.0 place room)

  same_file : grid_written (write_grid_call f n k ls fs place) ≡ s
  same_file =
      ap (grid_file f) (sym (grid-taken s ls₀ fs₀ n k f ls fs h).grid-is)
      ∙ ap (λ (x : Form). grid_file x (grid_in s)) counts.2
      ∙ read_then_written (read_grid_call s ls₀ fs₀) (bytes_below s bytes) told.0

  pub grid-rewritten : (a : WriteAnswer) (exit : List ℕ) → WritesGrid (write_grid_call f n k ls fs place) a exit → IsWritten s place a exit
  grid-rewritten a exit w =
      let r = writes_passed _ (grid_written (write_grid_call f n k ls fs place)) place a exit passes w in
      record {
        length-is = r.length-is ∙ ap (λ (x : List ℕ). Ok (length x)) same_file;
        bytes-are = r.bytes-are ∙ ap
            (λ (x : List ℕ). overwrite x place) same_file;
      }

-- ---- written, then read

module _ (f : Form) (n k : ℕ) (limits : List ℕ) (factors : List ℤ) (place : List ℕ) (size : ℕ) (exit : List ℕ)
    (w : WritesGrid (write_grid_call f n k limits factors place) (Ok size) exit)
    (ls₀ : List ℕ) (fs₀ : List ℤ) (cells : k ≤ length ls₀) (places : n * k ≤ length fs₀) where
  written : (write_grid_checked (write_grid_call f n k limits factors place) ≡ passed) × (take size exit ≡ grid_written (write_grid_call f n k limits factors place))
  written = writes_told _ _ place size exit w

  back : ReadBack f n k limits factors (grid_written (write_grid_call f n k limits factors place))
  back = written-then_read (write_grid_call f n k limits factors place) written.0

  read_back : read_grid_checked (read_grid_call (take size exit) ls₀ fs₀) ≡ passed
  read_back = rw written.1 (back.passes ls₀ fs₀ cells places)

  counts-told : (a : GridAnswer) (x y : ℕ) (g : Form) → grid_outcome a ≡ record { number = 0; values = pos x ∷ pos y ∷ pos (form_number g) ∷ [] }
      → a ≡ grid_read x y g
  counts-told (Ok found) x y g e =
      let q : pos found.nodes ∷ pos found.constraints ∷ pos (form_number found.form) ∷ [] ≡ pos x ∷ pos y ∷ pos (form_number g) ∷ [] =
      (given-told passed (pos x ∷ pos y ∷ pos (form_number g) ∷ []) (pos found.nodes ∷ pos found.constraints ∷ pos (form_number found.form) ∷ []) e).1 in
      let nodes : found.nodes ≡ x = cc in
      let constraints : found.constraints ≡ y = cc in
      let number : form_number found.form ≡ form_number g = cc in
      let form = same_form found.form g number in
      λ i. grid_read (nodes i) (constraints i) (form i)
  counts-told (Err r) x y g e = absurd (never_given r (pos x ∷ pos y ∷ pos (form_number g) ∷ []) e)

  pub grid-reread : (a : GridAnswer) (ls : List ℕ) (fs : List ℤ) → ReadsGrid (read_grid_call (take size exit) ls₀ fs₀) a ls fs
      → GridIs f n k limits factors ls₀ fs₀ a ls fs
  grid-reread a ls fs h =
      let form : grid_form_in (take size exit) ≡ f = rw written.1 back.form-is in
      let nodes : nodes_in (take size exit) ≡ n = rw written.1 back.nodes in
      let constraints : constraints_in_of (take size exit) ≡ k = rw written.1 back.constraints in
      let own-limits : limits_in (take size exit) ≡ take k limits = rw written.1 back.limits-are in
      let own-factors : factors_in (take size exit) ≡ take (n * k) factors = rw written.1 back.factors-are in
      record {
        counts-are = counts-told a n k f (rw (read_back, nodes, constraints, form) at h.values-given);
        limits-are = rw (read_back, own-limits) at h.limits-read;
        factors-are = rw (read_back, own-factors) at h.factors-read;
      }
