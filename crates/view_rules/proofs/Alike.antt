-- Two writers whose checks find the same, and whose files are one where they pass, are alike.
use mathlib.Core.Path.{◌≡◌, refl, ap, sym, ◌∙◌}
use mathlib.Core.List.{List, [], ◌∷◌}
use Prim.Native.Nat.{ℕ}
use lib.IntN.{pos}
use lib.ListN.{length, take, drop}
use lib.Seq.{take_at, drop_at}
use Rattle.lists.specs.Lent.{overwrite}
use Rattle.tariff.specs.declared.refusals.Refusal.{Refusal}
use Rattle.tariff.specs.Refusals.{Checked, passed}
use Rattle.std.specs.Prelude.{Ok, Err}
use Rattle.tariff.specs.Refusals.{decided, answered, cells_after, given, refused_by}
use Rattle.tariff.proofs.Answers.{given-told, refused_side}
use Rattle.layouts.specs.Writing.{WriteAnswer}
use Rattle.layouts.specs.Writing.{write_outcome, Writes}
use Rattle.view_rules.specs.Theorems.{Alike}

decided-alike : {A : Type 0} (c : Checked) (a : Refusal → A) (x y : A) → (c ≡ passed → x ≡ y) → decided c a x ≡ decided c a y
decided-alike (Ok _) a x y h = h refl
decided-alike (Err r) a x y h = refl

-- a place written from the front
module _ (c : Checked) (v e x : List ℕ) (written : x ≡ cells_after c v e) (pass : c ≡ passed) (m : ℕ) (size : length v ≡ m) where
  placed : x ≡ overwrite v e
  placed = written ∙ rw pass

  front-is : take m x ≡ v
  front-is = ap (take m) placed ∙ take_at v (drop (length v) e) m size

  rest-is : drop m x ≡ drop m e
  rest-is = ap (drop m) placed ∙ drop_at v (drop (length v) e) m size ∙ ap (λ (k : ℕ). drop k e) size

module _ (c d : Checked) (v w e f : List ℕ) (a b : WriteAnswer) (x y : List ℕ) (same : c ≡ d) (files : c ≡ passed → v ≡ w) (wa : Writes c v e a x) (wb : Writes d w f b y) where
  outcomes : write_outcome a ≡ write_outcome b
  outcomes =
      wa.length-given ∙ decided-alike c refused_by (given (pos (length v) ∷ [])) (given (pos (length w) ∷ [])) (λ p. ap (λ (l : List ℕ). given (pos (length l) ∷ [])) (files p))
      ∙ ap (λ (k : Checked). answered k (pos (length w) ∷ [])) same ∙ sym wb.length-given

  -- a length tells that nothing refused, and that it is the file's
  told : (m : ℕ) → a ≡ Ok m → (c ≡ passed) × (length v ≡ m)
  told m is =
      let both = given-told c (pos (length v) ∷ []) (pos m ∷ []) (rw is at wa.length-given) in
      let size : pos m ∷ [] ≡ pos (length v) ∷ [] = both.1 in
      (both.0, cc)

  kept : {A : Type 0} (r : Refusal) → a ≡ Err r → (entry written : A) → decided c (λ q. entry) written ≡ entry
  kept r is = refused_side c (pos (length v) ∷ []) r (rw is at wa.length-given)

  pub alike : Alike e f a b x y
  alike =
      record {
        same_answer = outcomes;
        same_bytes = λ m is. let t = told m is in
            front-is c v e x wa.bytes-written t.0 m t.1 ∙ files t.0
            ∙ sym (front-is d w f y wb.bytes-written (sym same ∙ t.0) m (ap length (sym (files t.0)) ∙ t.1));
        rest-as_it_was = λ m is. let t = told m is in (
          rest-is c v e x wa.bytes-written t.0 m t.1,
          rest-is d w f y wb.bytes-written (sym same ∙ t.0) m (ap length (sym (files t.0)) ∙ t.1),
        );
        refused_as_it_was = λ r is. (
          wa.bytes-written ∙ kept r is e (overwrite v e),
          wb.bytes-written ∙ ap (λ (k : Checked). cells_after k w f) (sym same) ∙ kept r is f (overwrite w f),
        );
        same_place = λ p.
            wa.bytes-written ∙ decided-alike c (λ r. e) (overwrite v e) (overwrite w e) (λ q. ap (λ (l : List ℕ). overwrite l e) (files q))
            ∙ (λ k. cells_after (same k) w (p k)) ∙ sym wb.bytes-written;
      }
