-- Lists by index, a search of a list, and what holds of each element.
use Rattle.std.specs.Prelude.{Bool, false, ◌||◌, List, [], ◌∷◌, ◌++◌, ℕ, zero, suc, ltb}

-- f 0, f 1, .., f (n − 1)
unfoldable pub list_to : {A : Type 0} → ℕ → (ℕ → A) → List A
list_to zero f = []
list_to (suc n) f = list_to n f ++ f n ∷ []

-- whether some element of a list is bad
unfoldable pub any_of : {A : Type 0} → (A → Bool) → List A → Bool
any_of bad [] = false
any_of bad (x ∷ xs) = bad x || any_of bad xs

-- a figure above the most that it may be
abbrev pub above : ℕ → ℕ → Bool
above most v = ltb most v

-- what holds of each element of a list
abbrev pub Each : {A : Type 0} → (A → Type 0) → List A → Type 0
Each P [] = Unit
Each P (x ∷ xs) = P x × Each P xs
