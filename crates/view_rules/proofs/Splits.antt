-- The rows of all holders together are the book's contracts with their numbers, each once.
use mathlib.Core.Path.{◌≡◌, refl, ap₂, sym, subst, ◌∙◌}
use mathlib.Core.Logic.{⊎_elim}
use mathlib.Core.List.{List, [], ◌∷◌, ◌++◌, flat_map, append_assoc}
use mathlib.Core.List.Perm
use mathlib.Core.List.{Perm, perm_append_comm}
use Prim.Native.Nat.{ℕ, zero, suc, ◌≤◌, ◌<◌}
use native.Mathlib.Nat.{eq-or-lt_of_le}
use native.Mathlib.Omega.{arith}
use Rattle.lists.specs.Lists.{Each, list_to}
use Rattle.lists.proofs.Lists.{each-list_to, flat_map_last}
use Rattle.tariff.specs.declared.contracts.Contract.{Contract}
use Rattle.tariff.specs.Units.{max_holder}
use Rattle.layouts.specs.BookFile.{contract_count_in, book_form_in, contract_at}
use Rattle.layouts.proofs.BookFile.{contract-in_fits}
use Rattle.view_rules.specs.Views.{Numbered, numbered, held_at, held_to}
use Rattle.view_rules.specs.Theorems.{ViewsSplit}
use Rattle.view_rules.proofs.Rows.{held_there, not_held, held_own}

module _ {A B : Type 0} where
  -- lists made in two parts, all first parts before all second parts
  flat_map_parts : (f g : A → List B) (xs : List A) → Perm (flat_map (λ x. f x ++ g x) xs) (flat_map f xs ++ flat_map g xs)
  unfolding flat_map
  flat_map_parts f g [] = Perm.refl []
  flat_map_parts f g (x ∷ xs) =
      Perm.trans (Perm.append_left (f x ++ g x) (flat_map_parts f g xs))
      (subst (λ (l : List B). Perm (f x ++ g x ++ (flat_map f xs ++ flat_map g xs)) l) (sym (append_assoc (f x) (flat_map f xs) (g x ++ flat_map g xs)))
      (subst (λ (l : List B). Perm l (f x ++ (flat_map f xs ++ (g x ++ flat_map g xs)))) (sym (append_assoc (f x) (g x) (flat_map f xs ++ flat_map g xs)))
      (Perm.append_left (f x) (between (g x) (flat_map f xs) (flat_map g xs)))))
    where
      between : (a b c : List B) → Perm (a ++ (b ++ c)) (b ++ (a ++ c))
      between a b c =
          subst (λ (l : List B). Perm l (b ++ (a ++ c))) (append_assoc a b c)
          (subst (λ (l : List B). Perm (a ++ b ++ c) l) (append_assoc b a c) (Perm.append_right c (perm_append_comm a b)))

  none_of : (f : A → List B) (xs : List A) → Each (λ x. f x ≡ []) xs → flat_map f xs ≡ []
  unfolding flat_map
  none_of f [] h = refl
  none_of f (x ∷ xs) h = rw h.0 (none_of f xs h.1)

-- holders below n
abbrev holders : ℕ → List ℕ
holders n = list_to n (λ (h : ℕ). h)

-- no holder below n has a contract of one that is not below n
none-holds : (n i : ℕ) (c : Contract) → n ≤ c.holder → flat_map (λ (h : ℕ). held_at h i c) (holders n) ≡ []
none-holds n i c out =
    none_of (λ (h : ℕ). held_at h i c) (holders n) (each-list_to (λ (h : ℕ). held_at h i c ≡ []) n (λ (h : ℕ). h) (λ h b. not_held h i c (λ e. omega arith)))

-- one contract stands with its holder alone
once : (n i : ℕ) (c : Contract) → c.holder < n → flat_map (λ (h : ℕ). held_at h i c) (holders n) ≡ numbered i c ∷ []
unfolding list_to
once zero i c b = absurd (omega arith)
once (suc n) i c b =
    flat_map_last (λ (h : ℕ). held_at h i c) (holders n) n
    ∙ ⊎_elim
    (λ q. let same : c.holder ≡ n = omega arith in ap₂ (λ (l r : List Numbered). l ++ r) (none-holds n i c (omega (arith, same))) (held_there n i c same))
    (λ q. ap₂ (λ (l r : List Numbered). l ++ r) (once n i c (omega arith)) (not_held n i c (λ e. omega arith)))
    (eq-or-lt_of_le b)

pub all_held : (n : ℕ) (g : ℕ → Contract) (m : ℕ) → ((i : ℕ) → i < m → (g i).holder < n)
    → Perm (flat_map (λ (h : ℕ). held_to h g m) (holders n)) (list_to m (λ i. numbered i (g i)))
unfolding held_to list_to
all_held n g zero below =
    subst (λ (l : List Numbered). Perm l []) (sym (none_of (λ (h : ℕ). held_to h g zero) (holders n) (each-list_to (λ (h : ℕ). held_to h g zero ≡ []) n (λ (h : ℕ). h) (λ h b. refl)))) (Perm.refl [])
all_held n g (suc m) below =
    Perm.trans (flat_map_parts (λ (h : ℕ). held_to h g m) (λ (h : ℕ). held_at h m (g m)) (holders n))
    (subst (λ (l : List Numbered). Perm (flat_map (λ (h : ℕ). held_to h g m) (holders n) ++ l) (list_to m (λ i. numbered i (g i)) ++ numbered m (g m) ∷ [])) (sym (once n m (g m) (below m (omega arith))))
    (Perm.append_right (numbered m (g m) ∷ []) (all_held n g m (λ i b. below i (omega arith)))))

-- of a book: a holder of ten bits is at most 1,023
pub view_splits : (s : List ℕ) → ViewsSplit s
view_splits s =
    record {
      together = all_held (suc max_holder) (contract_at s) (contract_count_in s) (λ i b. (contract-in_fits (book_form_in s) s i).holder-fits);
      own_alone = λ h. held_own h (contract_at s) (contract_count_in s);
    }
