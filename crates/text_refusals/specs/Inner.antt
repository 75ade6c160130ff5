-- The sentences as the code has them: joined, with the place where each ends. `parts-right` says that these parts are the sentences.
use mathlib.Core.List.{List, [], ◌∷◌, flat_map}
use Rattle.std.specs.Prelude.{ℕ, ◌-◌, take, drop}
use Rattle.text_refusals.specs.Sentences.{sentences}

-- the numbers from 0 to the last that a refusal has
abbrev pub numbers : ℕ
numbers = 28

abbrev pub ends : List ℕ
ends =
    0 ∷ 10 ∷ 99 ∷ 166 ∷ 186 ∷ 247 ∷ 344 ∷ 369 ∷ 409 ∷ 445
    ∷ 527 ∷ 607 ∷ 698 ∷ 698 ∷ 727 ∷ 788 ∷ 809 ∷ 827 ∷ 925 ∷ 943
    ∷ 1005 ∷ 1076 ∷ 1146 ∷ 1264 ∷ 1351 ∷ 1449 ∷ 1477 ∷ 1565 ∷ 1603 ∷ []

abbrev pub all_bytes : ℕ
all_bytes = 1603

unfoldable pub part : ℕ → ℕ → List ℕ
part start end = take (end - start) (drop start (flat_map (λ (s : List ℕ). s) sentences))
