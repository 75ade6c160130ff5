-- The views for C, from the entries': what a C function leaves is what its entry leaves with some answer.
use mathlib.Core.Path.{◌≡◌, refl, sym, ap, ◌∙◌}
use mathlib.Core.List.{List, [], ◌∷◌}
use Prim.Native.Nat.{ℕ}
use lib.ListN.{length}
use lib.IntN.{pos}
use Rattle.lists.specs.Lent.{Lent, before, after}
use Rattle.tariff.specs.Refusals.{Checked, passed}
use Rattle.std.specs.Prelude.{Ok, Err}
use Rattle.tariff.specs.Refusals.{Outcome}
use Rattle.tariff.proofs.Answers.{numbered, never_given, given-told}
use Rattle.layouts.specs.Writing.{WriteAnswer}
use Rattle.layouts.specs.Writing.{Writes, WritesForC}
use Rattle.layouts.proofs.Writing.{answer_by, writes_by}
use Rattle.view_rules.specs.Theorems.{Alike}
use Rattle.view_rules.specs.ForC.{AlikeForC, ViewsForC}
use Rattle.view_rules.proofs.Theorems.{market_blind, holder-blind}

-- whatever the entries answer, they are alike: so for C
module _ (v w e f : List ℕ) (m n : ℕ) (x y : List ℕ) (p q : Lent ℕ) where
  by : (c d : Checked) → WritesForC c v e (before p) m x (after p) → WritesForC d w f (before q) n y (after q)
      → Alike e f (answer_by c (length v)) (answer_by d (length w)) x y → AlikeForC e f m n x y p q
  by (Ok _) (Ok _) a b h =
      let size : length v ≡ length w = (let t : pos (length v) ∷ [] ≡ pos (length w) ∷ [] = (given-told passed _ _ h.same_answer).1 in cc) in
      let rest = h.rest-as_it_was (length v) refl in
      record {
        same_number = a.refusal-number ∙ sym b.refusal-number;
        same_length = λ z. a.length-given ∙ size ∙ sym b.length-given;
        same_bytes = λ z. rw (a.length-given, b.length-given, ← size) (h.same_bytes (length v) refl);
        rest-as_it_was = λ z. (rw a.length-given rest.0, rw (b.length-given, ← size) rest.1);
        refused_as_it_was = λ z. absurd (z a.refusal-number);
        refused_length_kept = λ z. absurd (z a.refusal-number);
        same_place = h.same_place;
      }
  by (Ok _) (Err r) a b h = absurd (never_given r _ (sym h.same_answer))
  by (Err r) (Ok _) a b h = absurd (never_given r _ h.same_answer)
  by (Err r) (Err s) a b h =
      let zero-never : m ≡ 0 → ⊥ = (λ z. numbered r (sym a.refusal-number ∙ z)) in
      record {
        same_number = a.refusal-number ∙ ap (λ (o : Outcome). o.number) h.same_answer ∙ sym b.refusal-number;
        same_length = λ z. absurd (zero-never z);
        same_bytes = λ z. absurd (zero-never z);
        rest-as_it_was = λ z. absurd (zero-never z);
        refused_as_it_was = λ z. h.refused_as_it_was r refl;
        refused_length_kept = λ z. (a.length-given, b.length-given);
        same_place = h.same_place;
      }

  alike_for_c : (c d : Checked) → WritesForC c v e (before p) m x (after p) → WritesForC d w f (before q) n y (after q)
      → ((a b : WriteAnswer) → Writes c v e a x → Writes d w f b y → Alike e f a b x y) → AlikeForC e f m n x y p q
  alike_for_c c d a b h = by c d a b (h _ _ (writes_by c v e _ m x _ a) (writes_by d w f _ n y _ b))

pub views_for_c : ViewsForC
views_for_c =
    record {
      crr_market_blind = λ n s t e f a b x y u v differ room p q.
          alike_for_c _ _ e f a b x y u v _ _ p q (λ i j. market_blind n s t e f i j x y differ room);
      crr_holder_blind = λ n h s t ok ok₂ width held e f room a b x y u v p q.
          alike_for_c _ _ e f a b x y u v _ _ p q (λ i j. holder-blind n h s t ok ok₂ width held e f room i j x y);
      crr_holder_views_agree = λ n h s t ok ok₂ width held as_long e f room a b x y u v p q.
          alike_for_c _ _ e f a b x y u v _ _ p q (λ i j. holder-blind n h s t ok ok₂ width held e f room i j x y);
    }
