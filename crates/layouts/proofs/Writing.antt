-- What a writer promises, where none refuses, and between an entry's answer and C's figures, both ways.
use mathlib.Core.Path.{◌≡◌, refl, sym, ap, ◌∙◌}
use mathlib.Core.List.{List, [], ◌∷◌}
use Prim.Native.Nat.{ℕ}
use lib.ListN.{length, take}
use lib.IntN.{pos}
use Rattle.lists.specs.Lent.{overwrite}
use Rattle.lists.proofs.Fronts.{front-is}
use Rattle.tariff.specs.Refusals.{Checked, passed}
use Rattle.std.specs.Prelude.{Ok, Err}
use Rattle.tariff.specs.Refusals.{given, answered, cell_after, number_after}
use Rattle.tariff.proofs.Answers.{never_given, given-told, none-refused, figure-is, refused_answers, refused_keeps, given-answers, given-count}
use Rattle.layouts.specs.Writing.{WriteAnswer}
use Rattle.layouts.specs.Writing.{write_outcome, Writes, WritesForC, IsWritten}
use Rattle.layouts.specs.Inner.{length_after}

-- ---- an entry's answer

-- the one figure given
pub one_given : (m n : ℕ) → given (pos m ∷ []) ≡ given (pos n ∷ []) → m ≡ n
one_given m n e = let q : pos m ∷ [] ≡ pos n ∷ [] = (given-told passed (pos n ∷ []) (pos m ∷ []) e).1 in cc

length-is : (a : WriteAnswer) (n : ℕ) → write_outcome a ≡ given (pos n ∷ []) → a ≡ Ok n
length-is (Ok m) n e = ap Ok (one_given m n e)
length-is (Err r) n e = absurd (never_given r (pos n ∷ []) e)

-- where none refuses
pub writes_passed : (checked : Checked) (file place : List ℕ) (a : WriteAnswer) (exit : List ℕ) → checked ≡ passed → Writes checked file place a exit → IsWritten file place a exit
writes_passed checked file place a exit e w =
    record { length-is = length-is a (length file) (rw e at w.length-given); bytes-are = rw e at w.bytes-written }

-- a length was given: none refused, the length is the file's, and the first bytes, as many, are the file
pub size-told : (checked : Checked) (file place : List ℕ) (n : ℕ) (exit : List ℕ) → Writes checked file place (Ok n) exit → n ≡ length file
size-told checked file place n exit w =
    let q : pos n ∷ [] ≡ pos (length file) ∷ [] = (given-told checked (pos (length file) ∷ []) (pos n ∷ []) w.length-given).1 in
    cc

pub writes_told : (checked : Checked) (file place : List ℕ) (n : ℕ) (exit : List ℕ) → Writes checked file place (Ok n) exit → (checked ≡ passed) × (take n exit ≡ file)
writes_told checked file place n exit w =
    let told = given-told checked (pos (length file) ∷ []) (pos n ∷ []) w.length-given in
    let left : exit ≡ overwrite file place = rw told.0 at w.bytes-written in
    (told.0, rw left (front-is file place n (sym (size-told checked file place n exit w))))

-- ---- to C's figures

module _ (checked : Checked) (size : ℕ) where
  number-told : (a : WriteAnswer) → write_outcome a ≡ answered checked (pos size ∷ []) → (write_outcome a).number ≡ number_after checked
  number-told (Ok n) e = given-answers checked _ _ e
  number-told (Err r) e = refused_answers checked _ r e refl

  length-told : (a : WriteAnswer) (bytes : ℕ) → write_outcome a ≡ answered checked (pos size ∷ []) → length_after a bytes ≡ cell_after checked size bytes
  length-told (Ok n) bytes e = given-count checked _ _ e 0 bytes
  length-told (Err r) bytes e = refused_keeps checked _ r e size bytes

pub writes_for_c : (checked : Checked) (file place : List ℕ) (a : WriteAnswer) (exit : List ℕ) → Writes checked file place a exit
    → (bytes n m : ℕ) → n ≡ (write_outcome a).number → m ≡ length_after a bytes → WritesForC checked file place bytes n exit m
writes_for_c checked file place a exit h bytes n m e f =
    record {
      refusal-number = e ∙ number-told checked (length file) a h.length-given;
      bytes-written = h.bytes-written;
      length-given = f ∙ length-told checked (length file) a bytes h.length-given;
    }

-- ---- and from them: they are those of some answer of the entry

abbrev pub answer_by : Checked → ℕ → WriteAnswer
answer_by (Ok _) n = Ok n
answer_by (Err r) n = Err r

pub writes_by : (checked : Checked) (file place : List ℕ) (bytes n : ℕ) (exit : List ℕ) (m : ℕ) → WritesForC checked file place bytes n exit m
    → Writes checked file place (answer_by checked (length file)) exit
writes_by (Ok _) file place bytes n exit m w = record { length-given = refl; bytes-written = w.bytes-written }
writes_by (Err r) file place bytes n exit m w = record { length-given = refl; bytes-written = w.bytes-written }

-- the number 0: the length in the lent figure is the one written
pub written-by : (checked : Checked) (file place : List ℕ) (bytes : ℕ) (exit : List ℕ) (m : ℕ) → WritesForC checked file place bytes 0 exit m
    → Writes checked file place (Ok m) exit
written-by checked file place bytes exit m w =
    let ok = none-refused checked w.refusal-number in
    record {
      length-given =
          ap (λ (n : ℕ). given (pos n ∷ [])) (figure-is checked ok (length file) bytes m w.length-given)
          ∙ sym (ap (λ (k : Checked). answered k (pos (length file) ∷ [])) ok);
      bytes-written = w.bytes-written;
    }
