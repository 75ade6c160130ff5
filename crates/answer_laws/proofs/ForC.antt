-- What a C caller gets of an entry's answer, whichever entry it is: the refusal's number, and each lent figure.
use mathlib.Core.Path.{◌≡◌, refl, sym, ap, ◌∙◌}
use mathlib.Core.List.{List, [], ◌∷◌}
use Prim.Native.Nat.{ℕ}
use lib.ListN.{get_or}
use lib.IntN.{ℤ, pos, nat_abs}
use Rattle.tariff.specs.declared.refusals.Refusal.{Refusal}
use Rattle.tariff.specs.Refusals.{Checked, passed}
use Rattle.std.specs.Prelude.{Result, Ok, Err}
use Rattle.tariff.specs.Refusals.{Outcome, number_of, number_in, found_or, given, refused_by, answered, cell_after, number_after, ForC}
use Rattle.tariff.proofs.Answers.{refused_answers, refused_keeps, some_refuses, given-answers, given-values, given-signed, given-count}

-- refused: n is the first check's number, and a figure keeps its value
pub record RefusedForC (checked : Checked) (n : ℕ) : Type 1 where
  pub refusal-number : n ≡ number_after checked
  pub keeps : {A : Type 0} (value entry : A) → entry ≡ cell_after checked value entry
  pub refuses : checked ≡ passed → ⊥

-- given: the number is 0, the values ws are the operation's, and a figure has the i-th of them
pub record GivenForC (checked : Checked) (vs ws : List ℤ) : Type 0 where
  pub refusal-number : 0 ≡ number_after checked
  pub values : ws ≡ vs
  pub signed : (i : ℕ) (entry : ℤ) → get_or ws i (pos 0) ≡ cell_after checked (get_or vs i (pos 0)) entry
  pub count : (i : ℕ) (entry : ℕ) → nat_abs (get_or ws i (pos 0)) ≡ cell_after checked (nat_abs (get_or vs i (pos 0))) entry

-- by what the entry promises of its answer, o in the paper's figures
module _ (checked : Checked) (vs : List ℤ) (o : Outcome) (promised : o ≡ answered checked vs) where
  pub refused_for_c : (r : Refusal) → o ≡ refused_by r → (n : ℕ) → n ≡ number_of r → RefusedForC checked n
  refused_for_c r e n h =
      let told = sym e ∙ promised in
      record {
        refusal-number = refused_answers checked vs r told h;
        keeps = λ value entry. refused_keeps checked vs r told value entry;
        refuses = some_refuses checked vs r told;
      }

  pub given-for_c : (ws : List ℤ) → o ≡ given ws → GivenForC checked vs ws
  given-for_c ws e =
      let told = sym e ∙ promised in
      record {
        refusal-number = given-answers checked vs ws told;
        values = given-values checked vs ws told;
        signed = given-signed checked vs ws told;
        count = given-count checked vs ws told;
      }

-- of an entry that gives one figure, m where no check refuses
module _ (outcome : Result ℕ Refusal → Outcome) (one : (n : ℕ) → outcome (Ok n) ≡ given (pos n ∷ [])) (none : (r : Refusal) → outcome (Err r) ≡ refused_by r)
    (checked : Checked) (m : ℕ) where
  pub one_number : (answer : Result ℕ Refusal) → outcome answer ≡ answered checked (pos m ∷ []) → number_in answer ≡ number_after checked
  one_number (Ok n) told = given-answers checked (pos m ∷ []) _ (sym (one n) ∙ told)
  one_number (Err r) told = refused_answers checked (pos m ∷ []) r (sym (none r) ∙ told) refl

  pub one_cell : (answer : Result ℕ Refusal) (entry : ℕ) → outcome answer ≡ answered checked (pos m ∷ []) → found_or answer entry ≡ cell_after checked m entry
  one_cell (Ok n) entry told = given-count checked (pos m ∷ []) _ (sym (one n) ∙ told) 0 entry
  one_cell (Err r) entry told = refused_keeps checked (pos m ∷ []) r (sym (none r) ∙ told) m entry

-- of an entry that gives no figure: a is its answer, b the form that the C function found it in
pub number-for_c : {Answer : Type 0} {outcome : Answer → Outcome} {Promise : Answer → Type 0} (a b : Answer) → Promise a → a ≡ b → (n : ℕ) → n ≡ (outcome b).number
    → ForC Answer outcome Promise n
number-for_c {outcome = outcome} a b promised told n h =
    record { answer = a; promised = promised; refusal-number = h ∙ sym (ap (λ x. (outcome x).number) told) }
