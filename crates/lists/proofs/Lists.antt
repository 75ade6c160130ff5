-- Laws of lists by index (`list_to`), of what holds of each element, and of `map` and `flat_map`.
use mathlib.Core.Path.{◌≡◌, refl, sym, ap, ◌∙◌}
use mathlib.Core.List.{List, [], ◌∷◌, ◌++◌, map, flat_map, append_assoc, append-nil}
use Prim.Native.Nat.{ℕ, zero, suc, ◌+◌, ◌≤◌, ◌<◌}
use native.Mathlib.Numerals.{add-one}
use native.Mathlib.Omega.{arith}
use lib.ListN.{length, get_or, take, length-append}
use lib.Seq.{ext_get_or}
use Rattle.lists.specs.Lists.{list_to, Each}

-- ---- a list by index

module _ {A : Type 0} where
  pub length-list_to : (n : ℕ) (f : ℕ → A) → length (list_to n f) ≡ n
  unfolding list_to
  length-list_to zero f = refl
  length-list_to (suc n) f = rw (length-append, length-list_to n f) (add-one n)

  pub list_to-more : (n : ℕ) (f : ℕ → A) → list_to (n + 1) f ≡ list_to n f ++ f n ∷ []
  unfolding list_to
  list_to-more n f = rw add-one

  -- from the front: the first element, and the list of the others
  pub list_to-cons : (n : ℕ) (f : ℕ → A) → list_to (suc n) f ≡ f 0 ∷ list_to n (λ i. f (suc i))
  unfolding list_to
  list_to-cons zero f = refl
  list_to-cons (suc n) f = ap (λ (xs : List A). xs ++ f (suc n) ∷ []) (list_to-cons n f)

  pub list_to-cong : (n : ℕ) (f g : ℕ → A) → ((i : ℕ) → i < n → f i ≡ g i) → list_to n f ≡ list_to n g
  unfolding list_to
  list_to-cong zero f g h = refl
  list_to-cong (suc n) f g h = λ t. list_to-cong n f g (λ i b. h i (omega arith)) t ++ h n (omega arith) t ∷ []

  pub get_d_list_to : (n : ℕ) (f : ℕ → A) (i : ℕ) (d : A) → i < n → get_or (list_to n f) i d ≡ f i
  get_d_list_to zero f i d h = absurd (omega arith)
  get_d_list_to (suc n) f zero d h = rw (list_to-cons n f)
  get_d_list_to (suc n) f (suc i) d h = rw (list_to-cons n f) (get_d_list_to n (λ j. f (suc j)) i d (omega arith))

  -- the first n elements of a list, by index
  pub take-is_list_to : (n : ℕ) (xs : List A) (d : A) → n ≤ length xs → take n xs ≡ list_to n (λ i. get_or xs i d)
  unfolding list_to
  take-is_list_to zero xs d h = refl
  take-is_list_to (suc n) [] d h = absurd (omega arith)
  take-is_list_to (suc n) (x ∷ xs) d h =
      ap (λ (ys : List A). x ∷ ys) (take-is_list_to n xs d (omega arith)) ∙ sym (list_to-cons n (λ i. get_or (x ∷ xs) i d))

  -- a list is what each index says
  pub list_to-is : (xs : List A) (f : ℕ → A) (d : A) → ((i : ℕ) → i < length xs → f i ≡ get_or xs i d) → list_to (length xs) f ≡ xs
  list_to-is xs f d h =
      ext_get_or d (list_to (length xs) f) xs (length-list_to (length xs) f)
      (λ i b. let a : i < length xs = rw (length-list_to (length xs) f) at b in get_d_list_to (length xs) f i d a ∙ h i a)

-- ---- what holds of each element

module _ {A : Type 0} (P : A → Type 0) where
  pub each_append : (xs ys : List A) → Each P xs → Each P ys → Each P (xs ++ ys)
  each_append [] ys hx hy = hy
  each_append (x ∷ xs) ys hx hy = (hx.0, each_append xs ys hx.1 hy)

  pub each-list_to : (n : ℕ) (f : ℕ → A) → ((i : ℕ) → i < n → P (f i)) → Each P (list_to n f)
  unfolding list_to
  each-list_to zero f h = tt
  each-list_to (suc n) f h = each_append (list_to n f) (f n ∷ []) (each-list_to n f (λ i b. h i (omega arith))) (h n (omega arith), tt)

  pub each_at : (xs : List A) (i : ℕ) (d : A) → Each P xs → i < length xs → P (get_or xs i d)
  each_at [] i d h b = absurd (omega arith)
  each_at (x ∷ xs) zero d h b = h.0
  each_at (x ∷ xs) (suc i) d h b = each_at xs i d h.1 (omega arith)

  -- a cell of a list, or the default past its end
  pub every_cell : (xs : List A) (d : A) → P d → ((i : ℕ) → i < length xs → P (get_or xs i d)) → (i : ℕ) → P (get_or xs i d)
  every_cell [] d h f i = h
  every_cell (x ∷ xs) d h f zero = f 0 (omega arith)
  every_cell (x ∷ xs) d h f (suc i) = every_cell xs d h (λ j l. f (suc j) (omega arith)) i

-- ---- a function on each element

module _ {A B : Type 0} where
  pub map-list_to : (n : ℕ) (f : ℕ → A) (g : A → B) → map g (list_to n f) ≡ list_to n (λ i. g (f i))
  unfolding list_to
  map-list_to zero f g = refl
  map-list_to (suc n) f g =
      ap (map g) (list_to-cons n f) ∙ ap (λ (ys : List B). g (f 0) ∷ ys) (map-list_to n (λ i. f (suc i)) g) ∙ sym (list_to-cons n (λ i. g (f i)))

  pub flat_map_append : (f : A → List B) (xs ys : List A) → flat_map f (xs ++ ys) ≡ flat_map f xs ++ flat_map f ys
  unfolding flat_map
  flat_map_append f [] ys = refl
  flat_map_append f (x ∷ xs) ys = rw (flat_map_append f xs ys) (sym (append_assoc (f x) (flat_map f xs) (flat_map f ys)))

  -- one element more at the end
  pub flat_map_last : (f : A → List B) (xs : List A) (x : A) → flat_map f (xs ++ x ∷ []) ≡ flat_map f xs ++ f x
  unfolding flat_map
  flat_map_last f xs x = flat_map_append f xs (x ∷ []) ∙ rw append-nil

  pub flat_map_more : (f : A → List B) (n : ℕ) (g : ℕ → A) → flat_map f (list_to (n + 1) g) ≡ flat_map f (list_to n g) ++ f (g n)
  flat_map_more f n g = rw list_to-more (flat_map_last f (list_to n g) (g n))
