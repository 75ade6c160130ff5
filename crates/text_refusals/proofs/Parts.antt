-- The code's parts are the sentences: antt computes both sides, and a law carries them to a number.
use mathlib.Core.Path.{◌≡◌, refl, sym, ap, ◌∙◌}
use mathlib.Core.Bool.{true}
use mathlib.Core.List.{List, [], flat_map}
use Prim.Native.Nat.{ℕ, ◌+◌, ◌-◌, ◌≤◌, ◌<◌}
use borrow.Author.Tests.{leb-true}
use lib.Dec.{leb}
use lib.ListN.{length, get_or}
use Rattle.lists.specs.Lists.{list_to}
use Rattle.lists.proofs.Lists.{get_d_list_to}
use Rattle.text_refusals.specs.Sentences.{sentences, meaning}
use Rattle.text_refusals.specs.Inner.{numbers, ends, all_bytes, part}

-- where the sentence of a number starts and ends
abbrev pub start : ℕ → ℕ
start n = get_or ends n 0

abbrev pub end : ℕ → ℕ
end n = get_or ends (n + 1) 0

-- two tables that are equal agree at each number
pub agree : {A : Type 0} (f g : ℕ → A) → list_to numbers f ≡ list_to numbers g → A → (n : ℕ) → n < numbers → f n ≡ g n
agree f g e d n h = sym (get_d_list_to numbers f n d h) ∙ ap (λ (xs : List _). get_or xs n d) e ∙ get_d_list_to numbers g n d h

pub parts-right : list_to numbers (λ (n : ℕ). part (start n) (end n)) ≡ sentences
unfolding list_to part sentences flat_map
parts-right = refl

pub part-is : (n : ℕ) → n < numbers → part (start n) (end n) ≡ meaning n
unfolding meaning
part-is n h =
    sym (get_d_list_to numbers (λ (k : ℕ). part (start k) (end k)) n [] h) ∙ ap (λ (xs : List (List ℕ)). get_or xs n []) parts-right

lengths_right : list_to numbers (λ (n : ℕ). end n - start n) ≡ list_to numbers (λ (n : ℕ). length (meaning n))
unfolding list_to meaning sentences
lengths_right = refl

pub length-is : (n : ℕ) → n < numbers → end n - start n ≡ length (meaning n)
length-is n h = agree (λ (k : ℕ). end k - start k) (λ (k : ℕ). length (meaning k)) lengths_right 0 n h

rising : list_to numbers (λ (n : ℕ). leb (start n) (end n)) ≡ list_to numbers (λ (n : ℕ). true)
unfolding list_to
rising = refl

inside : list_to numbers (λ (n : ℕ). leb (end n) all_bytes) ≡ list_to numbers (λ (n : ℕ). true)
unfolding list_to
inside = refl

pub in_order : (n : ℕ) → n < numbers → (start n ≤ end n) × (end n ≤ all_bytes)
in_order n h = (
  leb-true (start n) (end n) (agree (λ (k : ℕ). leb (start k) (end k)) (λ (k : ℕ). true) rising true n h),
  leb-true (end n) all_bytes (agree (λ (k : ℕ). leb (end k) all_bytes) (λ (k : ℕ). true) inside true n h),
)

-- what the code knows of a number that has a sentence
pub record Span (n s e : ℕ) : Type 0 where
  pub rises : s ≤ e
  pub within : e ≤ all_bytes
  pub long : e - s ≡ length (meaning n)
  pub text : part s e ≡ meaning n

pub span : (n s e : ℕ) → n < numbers → s ≡ start n → e ≡ end n → Span n s e
span n s e h a b =
    record { rises = rw (a, b) (in_order n h).0; within = rw b (in_order n h).1; long = rw (a, b) (length-is n h); text = rw (a, b) (part-is n h) }
